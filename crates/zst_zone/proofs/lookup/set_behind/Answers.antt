use Rattle.std.proofs.Common.{◌≡◌, ◌∙◌, ap, sym, true, false}
use Rattle.zst_circle.specs.dnw_codes.declared.record_type.RecordType.{RecordType}
use Rattle.zst_circle.specs.dnw_codes.RecordType.{same_record_type}
use Rattle.zst_circle.specs.zst_handler.Chains.{first_target}
use Rattle.zst_zone.proofs.Answered.{behind-none, behind-other, behind-some}
use Rattle.zst_zone.proofs.Matches.{found-match, found-none}
use Rattle.zst_zone.proofs.lookup.set_behind.Goals as goal
use Rattle.zst_zone.proofs.lookup.set_behind.Goals.{in_default-2-via-in-Some-2+else-eq, in_default-2-via-in_default-2}

pub returns-in-Some-2 : goal.returns-in-Some-2
returns-in-Some-2 c =
    let there = found-match c.args.sets.now c.in_ok-key.key c.in-Some.target.now c.args.record_type c.in-Some-2.found c.in_ok-key.ensures.key (rw c.in-Some-2.is at c.in_ok-found.ensures) in
    let same : same_record_type c.in-Some-2.found.set.now.record_type c.args.record_type ≡ true
    = ap (λ (k : RecordType). same_record_type k c.args.record_type) (sym c.record_type.ensures) ∙ sym c.eq.ensures ∙ c.if-eq.true in
    behind-some c.args.sets.now c.args.record_type c.in-Some.target.now (first_target c.args.alias.now.records) c.in-Some.ensures c.in-Some-2.found there same

pub returns : goal.returns
returns c = elim c.in_default-2.branch [
  | in_default-2-via-in-Some-2+else-eq w ↦
      let there = found-match c.args.sets.now c.in_ok-key.key c.in-Some.target.now c.args.record_type w.in-Some-2.found c.in_ok-key.ensures.key (rw w.in-Some-2.is at c.in_ok-found.ensures) in
      let other : same_record_type w.in-Some-2.found.set.now.record_type c.args.record_type ≡ false
      = ap (λ (k : RecordType). same_record_type k c.args.record_type) (sym w.record_type.ensures) ∙ sym w.eq.ensures ∙ w.if-eq.false in
      behind-other c.args.sets.now c.args.record_type c.in-Some.target.now (first_target c.args.alias.now.records) c.in-Some.ensures w.in-Some-2.found there other
  | in_default-2-via-in_default-2 w ↦
      behind-none c.args.sets.now c.args.record_type c.in-Some.target.now (first_target c.args.alias.now.records) c.in-Some.ensures
      (found-none c.args.sets.now c.in_ok-key.key c.in-Some.target.now c.args.record_type c.in_ok-key.ensures.key (rw w.in_default-2.is at c.in_ok-found.ensures))
]
