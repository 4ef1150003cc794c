use Rattle.std.proofs.Common.{◌≡◌, ◌+◌, ◌++◌, ◌∷◌, [], List, take, sym, ap, subst, ◌∙◌}
use Rattle.std.proofs.lemmas.List.{take_more}
use Rattle.zsv_reply.specs.zst_record.declared.records.Record.{Record}
use Rattle.zst_denial.specs.Denials.{Lacks, SomeOf}
use Rattle.authority_denial.proofs.Denying.{none_more, some_at, when_false, when_true}
use Rattle.authority_denial.proofs.checking.some_lacks.Goals as goal

pub returns-then-branch : goal.returns-then-branch
returns-then-branch c =
    some_at (Lacks c.args.name.now c.args.record_type) c.args.records.now c.loop-stored.stored-index c.stored-item.result c.loop-stored-test.true c.stored-item.is
    (when_true _ _ c.in_ok-lacks.field-0 c.if-branch.true c.in_ok-lacks.ensures)

pub loop-stored-preserved : goal.loop-stored-preserved
loop-stored-preserved c =
    let front = take c.loop-stored.stored-index c.args.records.now in
    let more : take (c.loop-stored.stored-index + 1) c.args.records.now ≡ front ++ c.stored-item.result ∷ [] =
    take_more c.args.records.now c.loop-stored.stored-index c.stored-item.result c.loop-stored-test.true ∙ ap (λ (r : Record). front ++ r ∷ []) (sym c.stored-item.is) in
    subst (λ (rs : List Record). SomeOf (Lacks c.args.name.now c.args.record_type) rs → ⊥) (sym more)
    (none_more (Lacks c.args.name.now c.args.record_type) front c.stored-item.result c.loop-stored.invariant (when_false _ _ c.in_ok-lacks.field-0 c.if-branch.false c.in_ok-lacks.ensures))
