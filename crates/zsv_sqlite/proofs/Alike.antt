-- What a name owns is what the name of its key owns.
use Rattle.std.proofs.Common.{◌≡◌, Bor, refl, ap, sym, ◌∙◌, arith, length}
use Rattle.std.specs.Prelude.{Bool, true, false, not, ◌||◌, ◌==◌, List, [], ◌∷◌, Option, Some, None, cond, filter, is_some, option_copied}
use Rattle.std.specs.List.{list_any}
use Rattle.std.proofs.lemmas.Bool.{ne_eqb, true≢false}
use Rattle.zst_map.specs.dnw_codes.declared.record_type.RecordType.{RecordType}
use Rattle.zst_map.specs.dnw_name.DomainName.{DomainName, lowercase_name, name_eq}
use Rattle.zst_map.specs.zst_handler.Lookups.{sets_of_name}
use Rattle.zst_map.specs.zst_handler.Zones.{rrset_at}
use Rattle.zst_map.specs.zst_record.RecordLaws.{name_eq_equiv}
use Rattle.zst_map.specs.drd_rdata.Types.{type_of}
use Rattle.zst_map.specs.zst_record.RecordSets.{RRset}
use Rattle.zst_map.specs.zst_record.declared.records.Record.{Record}
use Rattle.zst_request.specs.Prerequisites.{asks_any, is_in_use}
use Rattle.zst_map.proofs.Indexed.{rrset_same}
use Rattle.zst_map.proofs.Upserted.{sets_named}
use Rattle.zst_draft.proofs.Names.{eq_lower}

pub own_key : (t : RecordType) (key name : DomainName) → key ≡ lowercase_name name → name_eq key name ≡ true
own_key t key name keyed = ap (λ (n : DomainName). name_eq n name) keyed ∙ eq_lower t name name ∙ name_eq_equiv.refl name

pub rrset_keyed : (sets : List RRset) (key name : DomainName) (t : RecordType) → key ≡ lowercase_name name → rrset_at sets key t ≡ rrset_at sets name t
rrset_keyed sets key name t keyed = sym (rrset_same sets key name t (own_key t key name keyed))

any_left : (p : RRset → Bool) (sets : List RRset) → not (length (filter p sets) == 0) ≡ list_any p sets
any_left p [] = refl
any_left p (s ∷ sets) = by (p s) (any_left p sets)
  where
    by : (b : Bool) → not (length (filter p sets) == 0) ≡ list_any p sets → not (length (cond b (s ∷ filter p sets) (filter p sets)) == 0) ≡ (b || list_any p sets)
    by true more = ap not (ne_eqb (length (s ∷ filter p sets)) 0 (λ (e : length (s ∷ filter p sets) ≡ 0). omega arith))
    by false more = more

pub any_owned : (sets : List RRset) (key name : DomainName) → key ≡ lowercase_name name → not (length (sets_of_name sets key) == 0) ≡ list_any (λ set. name_eq name set.name) sets
any_owned sets key name keyed =
    ap (λ (xs : List RRset). not (length xs == 0)) (ap (sets_of_name sets) keyed ∙ sets_named sets name) ∙ any_left (λ set. name_eq name set.name) sets

-- ---- a set that is looked up
pub some_copied : {X : Type 0} (o : Option (Bor X)) → is_some (option_copied o) ≡ is_some o
some_copied None = refl
some_copied (Some x) = refl

pub none_there : {X : Type 0} (o : Option (Bor X)) (p : Option X) → option_copied o ≡ p → is_some o ≡ false → p ≡ None
none_there None p e none = sym e
none_there (Some x) p e none = absurd (true≢false none)

pub some_there : {X : Type 0} (o : Option (Bor X)) (p : Option X) → option_copied o ≡ p → is_some o ≡ true → (x : X) × (p ≡ Some x)
some_there None p e some = absurd (true≢false (sym some))
some_there (Some x) p e some = (x.now, sym e)

pub in_use_any : (sets own : List RRset) (key : DomainName) (r : Record) (empty : Bool) → key ≡ lowercase_name r.name → own ≡ sets_of_name sets key → empty ≡ (length own == 0) → asks_any r ≡ true
    → not empty ≡ is_in_use sets r
in_use_any sets own key r empty keyed is tests any =
    ap not tests ∙ ap (λ (xs : List RRset). not (length xs == 0)) is ∙ any_owned sets key r.name keyed
    ∙ ap (λ (b : Bool). cond b (list_any (λ set. name_eq r.name set.name) sets) (is_some (rrset_at sets r.name (type_of r.rdata)))) (sym any)

pub in_use_one : (sets : List RRset) (key : DomainName) (r : Record) (t : RecordType) (there : Bool) → key ≡ lowercase_name r.name → t ≡ type_of r.rdata → there ≡ is_some (rrset_at sets key t)
    → asks_any r ≡ false → there ≡ is_in_use sets r
in_use_one sets key r t there keyed kind is any =
    is ∙ ap (λ (u : RecordType). is_some (rrset_at sets key u)) kind ∙ ap is_some (rrset_keyed sets key r.name (type_of r.rdata) keyed)
    ∙ ap (λ (b : Bool). cond b (list_any (λ set. name_eq r.name set.name) sets) (is_some (rrset_at sets r.name (type_of r.rdata)))) (sym any)
