use Rattle.std.proofs.Common.{ℕ, ◌-◌, List, length, drop, sym, subst, ◌∙◌, arith}
use Rattle.std.proofs.lemmas.List.{length-drop, take_all}
use Rattle.dnw_encoder.proofs.CandidateLaws.{on_accepted}
use Rattle.dnw_encoder.proofs.KeepingLaws.{Pushed, push_start, push_next, push_end}
use Rattle.dnw_encoder.proofs.candidates.push_entries.Goals as goal

pub labels-init : goal.labels-init
labels-init c =
    let labels = c.as_octets-labels.result.now in
    subst (λ (t : List ℕ). Pushed c.args.name.now.labels c.args.front c.args.to c.args.start c.args.end t c.args.entries.now.items c.args.entries.now.items)
    (sym (take_all (length labels - c.args.behind) (drop c.args.behind labels) (omega (arith, length-drop c.args.behind labels))))
    (push_start c.args.name.now.labels c.args.front c.args.to c.args.start c.args.end c.args.behind labels c.args.entries.now.items c.as_octets-labels.ensures.name.each c.as_octets-labels.ensures.octets c.requires.some c.requires.splits)

pub split_at-requires : goal.split_at-requires
split_at-requires c =
    let next = push_next c.args.name.now.labels c.args.front c.args.to c.args.start c.args.end c.as_octets-labels.result.now c.labels.rest.now c.args.entries.now.items c.labels.entries.items c.push.new.self.items c.in-Some.length.now c.in-Some.behind.now _ c.as_octets-labels.ensures.octets c.labels.invariant c.in-Some.ensures.cases.0 c.if-at-front.false (c.is_kept.ensures.0 c.if-not-is_kept.false).1 c.requires.octets (omega (arith, (c.is_kept.ensures.0 c.if-not-is_kept.false).1))
    (on_accepted c.push.result (sym c.is_err.ensures.value ∙ c.if-is_err.false) c.push.ensures.ok) in
    omega (arith, next.fits, c.from.ensures)

pub labels-preserved : goal.labels-preserved
labels-preserved c =
    let next = push_next c.args.name.now.labels c.args.front c.args.to c.args.start c.args.end c.as_octets-labels.result.now c.labels.rest.now c.args.entries.now.items c.labels.entries.items c.push.new.self.items c.in-Some.length.now c.in-Some.behind.now _ c.as_octets-labels.ensures.octets c.labels.invariant c.in-Some.ensures.cases.0 c.if-at-front.false (c.is_kept.ensures.0 c.if-not-is_kept.false).1 c.requires.octets (omega (arith, (c.is_kept.ensures.0 c.if-not-is_kept.false).1))
    (on_accepted c.push.result (sym c.is_err.ensures.value ∙ c.if-is_err.false) c.push.ensures.ok) in
    rw (c.split_at.ensures.back, c.from.ensures) next.more

pub returns-clause-ok : goal.returns-clause-ok
returns-clause-ok c =
    push_end c.args.name.now.labels c.args.front c.args.to c.args.start c.args.end c.labels.rest.now c.args.entries.now.items c.labels.entries.items c.labels.invariant
