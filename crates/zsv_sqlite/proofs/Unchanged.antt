-- Records that change nothing leave what a zone stores.
use Rattle.std.proofs.Common.{◌≡◌, refl, ap, sym, subst, ◌∙◌}
use Rattle.std.specs.Prelude.{Bool, true, false, not, ◌&&◌, List, [], ◌∷◌, ◌++◌, None, Option, Ok, cond, filter, is_some}
use Rattle.std.specs.List.{flat_map, list_any}
use Rattle.std.proofs.lemmas.Bool.{or_parts}
use Rattle.zst_map.specs.dnw_codes.declared.dns_class.DNSClass.{DNSClass}
use Rattle.zst_map.specs.dnw_codes.declared.dns_class.DNSClass.TheVariants as classes
use Rattle.zst_map.specs.dnw_codes.declared.record_type.RecordType.TheVariants as kind
use Rattle.zst_map.specs.dnw_name.DomainName.{DomainName, name_eq}
use Rattle.zst_map.specs.drd_rdata.Types.{type_of}
use Rattle.zst_map.specs.zst_handler.Lookups.{sets_of_name}
use Rattle.zst_map.specs.zst_handler.Updates.{set_of_type, upserted, with_set}
use Rattle.zst_map.specs.zst_handler.Zones.{AreInOrder, AreStored, Zone, rrset_at}
use Rattle.zst_map.specs.zst_record.RecordSets.{RRset, removed}
use Rattle.zst_map.specs.zst_record.declared.records.Record.{Record}
use Rattle.zst_draft.proofs.Names.{sets_same}
use Rattle.zst_request.specs.Applied.{Owned, all_applied, any_changes, applied, changes, changes_by, if_filled, is_deleted, is_taken_from, left_by, raised, taken_from}
use Rattle.zst_request.specs.Prerequisites.{refused_if}
use Rattle.zst_request.specs.Updating.{ChangesBy, soa_refused}
use Rattle.zst_request.specs.zst_codes.declared.response_code.ResponseCode.{ResponseCode}
use Rattle.zst_request.specs.zst_codes.declared.response_code.ResponseCode.TheVariants as codes

-- ---- one record
all_stay : (q : RRset → Bool) (sets : List RRset) → list_any q sets ≡ false → filter (λ set. not (q set)) sets ≡ sets
all_stay q [] none = refl
all_stay q (s ∷ sets) none =
    let parts = or_parts (q s) (list_any q sets) none in
    ap (λ (b : Bool). cond (not b) (s ∷ filter (λ set. not (q set)) sets) (filter (λ set. not (q set)) sets)) parts.0
    ∙ ap (λ (xs : List RRset). s ∷ xs) (all_stay q sets parts.1)

none_taken : (r : Record) (sets : List RRset) → list_any (is_taken_from r) sets ≡ false → flat_map (taken_from r) sets ≡ sets
none_taken r [] none = refl
none_taken r (s ∷ sets) none =
    let parts = or_parts (is_taken_from r s) (list_any (is_taken_from r) sets) none in
    ap (λ (b : Bool). cond b (if_filled (removed s r)) (s ∷ []) ++ flat_map (taken_from r) sets) parts.0
    ∙ ap (λ (xs : List RRset). s ∷ xs) (none_taken r sets parts.1)

kept_by : (at_apex : Bool) (sets : List RRset) (r : Record) (class : DNSClass) → changes_by at_apex sets r class ≡ false → left_by at_apex sets r class ≡ sets
kept_by at_apex sets r classes.IN none = ap (λ (b : Bool). cond b (with_set sets (upserted (set_of_type (type_of r.rdata) sets) r)) sets) none
kept_by at_apex sets r classes.ANY none = all_stay (is_deleted at_apex r) sets none
kept_by at_apex sets r classes.NONE none = none_taken r sets none
kept_by at_apex sets r other none = refl

-- ---- all records
-- Names that are equal own the same.
abbrev IsByName : Owned → Type 0
IsByName at = (a b : DomainName) → name_eq a b ≡ true → at a ≡ at b

applied_kept : (origin : DomainName) (at : Owned) (r : Record) → IsByName at → changes origin at r ≡ false → (name : DomainName) → applied origin at r name ≡ at name
applied_kept origin at r alike none name = by (name_eq r.name name) refl
  where
    by : (b : Bool) → name_eq r.name name ≡ b → cond b (left_by (name_eq r.name origin) (at name) r r.dns_class) (at name) ≡ at name
    by true here =
        kept_by (name_eq r.name origin) (at name) r r.dns_class
        (ap (λ (s : List RRset). changes_by (name_eq r.name origin) s r r.dns_class) (sym (alike r.name name here)) ∙ none)
    by false there = refl

all_kept : (origin : DomainName) (rs : List Record) (at : Owned) → IsByName at → any_changes origin at rs ≡ false → (name : DomainName) → all_applied origin at rs name ≡ at name
all_kept origin [] at alike none name = refl
all_kept origin (r ∷ rs) at alike none name =
    let parts = or_parts (changes origin at r) (any_changes origin (applied origin at r) rs) none in
    let kept = applied_kept origin at r alike parts.0 in
    all_kept origin rs (applied origin at r) (λ a b same. kept a ∙ alike a b same ∙ sym (kept b)) parts.1 name ∙ kept name

-- ---- the zone
abbrev changed : Zone → List Record → Bool
changed zone rs = any_changes zone.origin (sets_of_name zone.sets) rs

abbrev lacks_soa : Zone → Bool
lacks_soa zone = not (is_some (rrset_at zone.sets zone.origin kind.SOA))

none_refused : (increment : Bool) (zone : Zone) (rs : List Record) → changed zone rs ≡ false → cond increment (soa_refused zone rs) None ≡ None
none_refused true zone rs none = ap (λ (b : Bool). refused_if (b && lacks_soa zone) codes.ServFail) none
none_refused false zone rs none = refl

none_raised : (increment : Bool) (zone : Zone) (rs : List Record) → changed zone rs ≡ false → (increment && changed zone rs) ≡ false
none_raised true zone rs none = none
none_raised false zone rs none = refl

pub stays_as : (increment : Bool) (zone : Zone) (rs : List Record) → AreInOrder zone.sets → AreStored zone.sets → changed zone rs ≡ false
    → ChangesBy (cond increment (soa_refused zone rs) None) increment zone rs (Ok false) zone
stays_as increment zone rs ordered stored none =
    subst (λ (o : Option ResponseCode). ChangesBy o increment zone rs (Ok false) zone) (sym (none_refused increment zone rs none)) (
      ap Ok (sym (none_raised increment zone rs none)),
      record {
        sets = λ name. sym (all_kept zone.origin rs (sets_of_name zone.sets) (λ a b same. sets_same zone.sets a b same) none name)
            ∙ ap (λ (b : Bool). (cond b (raised zone.origin (all_applied zone.origin (sets_of_name zone.sets) rs)) (all_applied zone.origin (sets_of_name zone.sets) rs)) name)
            (sym (none_raised increment zone rs none));
        ordered = ordered;
        stored = stored;
        rest = refl;
      },
    )
