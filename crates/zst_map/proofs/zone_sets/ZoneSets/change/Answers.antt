use Rattle.std.proofs.Common.{◌≡◌, ◌∙◌, ap, sym, subst, List}
use Rattle.std.specs.Prelude.{Bool, true, false, Some, Result, Ok, Err, OnOk, OnErr, is_err, is_some}
use Rattle.std.proofs.lemmas.Bool.{true≢false}
use Rattle.zst_handler.specs.dnw_codes.declared.record_type.RecordType.{RecordType}
use Rattle.zst_handler.specs.dnw_codes.declared.record_type.RecordType.TheVariants as kind
use Rattle.zst_handler.specs.dnw_codes.RecordType.{same_record_type}
use Rattle.zst_handler.specs.dnw_name.DomainName.{DomainName, name_eq}
use Rattle.zst_handler.specs.zst_record.RecordSets.{RRset}
use Rattle.zst_handler.specs.zst_record.RecordLaws.{name_eq_equiv}
use Rattle.zst_key.proofs.KeyLemmas.{eq-lower}
use Rattle.zst_handler.specs.Updates.{Replaces}
use Rattle.zst_handler.specs.Zones.{rrset_at}
use Rattle.zst_map.specs.Changes.{owner_of, type_in}
use Rattle.zst_map.specs.Indexes.{Grows, HasOwnerOf, IsIndexed}
use Rattle.zst_map.specs.declared.index.Index.{Index}
use Rattle.zst_map.proofs.Indexed.{rrset_same, still_indexed, with_put}
use Rattle.zst_map.proofs.zone_sets.ZoneSets.change.Goals as goal

when_ok : {T E P : Type 0} (r : Result T E) → is_err r ≡ false → OnOk r P → P
when_ok (Ok x) e p = p
when_ok (Err y) e p = absurd (true≢false e)

tried : {T E : Type 0} (result : Result T E) (old new : Index) (before after : List RRset) (owner : DomainName) (type : RecordType) (set : RRset) (owns_soa : Bool) → Grows old new
    → HasOwnerOf owner type owns_soa new → (same_record_type type kind.NS ≡ true → owns_soa ≡ is_some (rrset_at before owner kind.SOA)) → IsIndexed old before
    → OnOk result (Replaces before owner type (Some set) after) → OnErr result (after ≡ before) → IsIndexed new after
tried (Ok x) old new before after owner type set owns_soa grows has soa is ok err = with_put old new before after owner type set owns_soa grows has soa ok is
tried (Err y) old new before after owner type set owns_soa grows has soa is ok err = subst (IsIndexed new) (sym err) (still_indexed old new before grows is)

pub invariant_of-self-2 : goal.invariant_of-self-2
invariant_of-self-2 c =
    let before = c.self.inside.sets in
    let owner = owner_of c.args.change in
    let same : name_eq owner c.args.key ≡ true
    = ap (name_eq owner) c.requires ∙ eq-lower owner owner ∙ name_eq_equiv.refl owner in
    let soa : same_record_type (type_in c.args.change) kind.NS ≡ true → c.owns_soa-owns_soa.result ≡ is_some (rrset_at before owner kind.SOA)
    = λ type. c.owns_soa-owns_soa.ensures (ap (λ (t : RecordType). same_record_type t kind.NS) c.record_type-record_type.ensures ∙ type)
    ∙ ap (λ (zone : List RRset). is_some (rrset_at zone c.args.key kind.SOA)) (sym c.self.view_is)
    ∙ ap is_some (rrset_same before owner c.args.key kind.SOA same) in
    tried c.change.result c.self.inside.index c.mark.new.self before c.change.new.self owner (type_in c.args.change) _ c.owns_soa-owns_soa.result c.mark.ensures.kept
    (subst (λ (n : DomainName). HasOwnerOf n (type_in c.args.change) c.owns_soa-owns_soa.result c.mark.new.self) c.name.ensures
    (subst (λ (t : RecordType). HasOwnerOf c.name.result.now t c.owns_soa-owns_soa.result c.mark.new.self) c.record_type-record_type.ensures
    (when_ok c.mark.result (sym c.if-is_err.ensures.value) c.mark.ensures.marked))) soa c.self.invariant c.change.ensures.ok c.change.ensures.err
