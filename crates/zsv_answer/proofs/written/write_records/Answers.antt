use Rattle.std.specs.List.{AllByRecursion}
use Rattle.zsv_reply.specs.zst_pointing.Pointing.{Points}
use Rattle.std.proofs.Common.{◌≡◌, true, false, subst, ◌++◌, ◌∷◌, [], List, length, length-append, inl, inr, append_assoc, sym, ap, ◌∙◌, arith}
use Rattle.std.proofs.lemmas.Grind.{common_steps}
use Rattle.zsv_reply.specs.zst_record.Lending.{seen}
use Rattle.zsv_reply.specs.zst_record.declared.records.Record.{Record}
use Rattle.zsv_answer.proofs.Pointing.{each_points, pointing_more}
use Rattle.zsv_answer.proofs.written.write_records.Goals as goal

pub records-preserved : goal.records-preserved
records-preserved c =
    let w = c.records.invariant.written in
    let r = seen c.in-Some.record in
    let put : c.in_ok-push_pointing.field-0 ≡ true = grind (arith, common_steps) in
    record {
      few = omega (arith, c.records.invariant.few, c.if-count-eq-MOST.false);
      written = (
        w.0 ++ r ∷ [],
        w.1 ∙ ap (λ (o : List Record). w.0 ++ o) c.in-Some.ensures.steps ∙ sym (append_assoc w.0 (r ∷ []) c.next.new.self),
        omega (arith, w.2, length-append w.0 (r ∷ [])),
        pointing_more c.args.asked.now w.0 c.records.octets.items c.push_pointing.new.octets.items r w.3 (c.in_ok-push_pointing.ensures.put put).1,
      );
    }

pub returns-then-count-eq-MOST : goal.returns-then-count-eq-MOST
returns-then-count-eq-MOST c =
    let w = c.records.invariant.written in
    let r = seen c.in-Some.record in
    inl (omega (arith, w.2, c.if-count-eq-MOST.true, ap length w.1, length-append w.0 c.records.left, ap length c.in-Some.ensures.steps))

pub returns-then-not-branch : goal.returns-then-not-branch
returns-then-not-branch c =
    let w = c.records.invariant.written in
    let r = seen c.in-Some.record in
    let left : c.in_ok-push_pointing.field-0 ≡ false = grind (arith, common_steps) in
    inr (λ all. (c.in_ok-push_pointing.ensures.left left).0
    (each_points c.args.asked.now w.0 c.next.new.self r (subst (λ (rs : List Record). AllByRecursion (Points c.args.asked.now) rs) (w.1 ∙ ap (λ (o : List Record). w.0 ++ o) c.in-Some.ensures.steps) all)))
