use Rattle.std.proofs.Common.{◌≡◌, ◌∙◌, ap, sym, subst}
use Rattle.std.specs.Prelude.{Some, IsSome}
use Rattle.zst_absence.specs.dnw_codes.RecordType.{same_record_type}
use Rattle.zst_absence.specs.dnw_codes.declared.record_type.RecordType.{RecordType}
use Rattle.zst_absence.specs.dnw_name.DomainName.{name_eq}
use Rattle.zst_absence.specs.zst_record.RecordSets.{RRset}
use Rattle.zst_absence.specs.zst_handler.Updates.{Replaces}
use Rattle.zst_absence.specs.zst_handler.Zones.{rrset_at}
use Rattle.zst_circle.specs.Moves.{resigned}
use Rattle.zst_circle.proofs.Moving.{resigned_name, resigned_type}
use Rattle.zst_absence.proofs.zst_map_lemmas.Replacing.{found_parts, one, replaced_as, type_same}
use Rattle.zst_circle.proofs.moves.move_one.Goals as goal

pub renew-requires : goal.renew-requires
renew-requires c = c.requires.signed c.in-Some.set (sym c.in-Some.ensures.value)

pub replace-requires-clause-owner : goal.replace-requires-clause-owner
replace-requires-clause-owner c =
    let p = c.args.placeholder in
    ap (λ (s : RRset). name_eq p.key s.name) c.renew.ensures ∙ ap (name_eq p.key) (resigned_name p c.in-Some.set)
    ∙ (found_parts c.args.old.now p.key p.record_type c.in-Some.set (sym c.in-Some.ensures.value)).0

pub replace-requires-clause-there : goal.replace-requires-clause-there
replace-requires-clause-there c =
    let p = c.args.placeholder in
    let found = sym c.in-Some.ensures.value in
    let kind : c.renew.new.set.record_type ≡ c.in-Some.set.record_type = ap (λ (s : RRset). s.record_type) c.renew.ensures ∙ resigned_type p c.in-Some.set in
    subst (λ (t : RecordType). IsSome (rrset_at c.args.new.now p.key t)) (sym kind)
    (subst IsSome (sym (type_same c.args.new.now p.key c.in-Some.set.record_type p.record_type (found_parts c.args.old.now p.key p.record_type c.in-Some.set found).1))
    (c.requires.placed c.in-Some.set found))

pub returns-clause-moved : goal.returns-clause-moved
returns-clause-moved c = λ set e.
    let p = c.args.placeholder in
    let found = sym c.in-Some.ensures.value in
    let then = c.renew.new.set in
    let kind : then.record_type ≡ c.in-Some.set.record_type = ap (λ (s : RRset). s.record_type) c.renew.ensures ∙ resigned_type p c.in-Some.set in
    subst (λ (s : RRset). Replaces c.args.new.now p.key p.record_type (Some (resigned p s)) c.replace.new.self) (one c.in-Some.set set (sym found ∙ e))
    (subst (λ (s : RRset). Replaces c.args.new.now p.key p.record_type (Some s) c.replace.new.self) c.renew.ensures
    (replaced_as c.args.new.now c.replace.new.self p.key p.record_type then then.record_type
    (ap (λ (t : RecordType). same_record_type t p.record_type) kind ∙ (found_parts c.args.old.now p.key p.record_type c.in-Some.set found).1)
    c.replace.ensures.others))
