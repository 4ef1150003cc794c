use Rattle.std.proofs.Common.{rules, ◌≡◌, ◌+◌, ◌-◌, ◌∙◌, ap, get_or, set, Option, arith}
use Rattle.std.proofs.lemmas.List.{set-get_or}
use Rattle.dnw_decoder.specs.declared.tails.Tail.{Tail}
use Rattle.dnw_decoder.proofs.TailLaws.{next_tail, tails_more}
use Rattle.dnw_decoder.proofs.tails.Tails.keep_run.Goals as goal
use Rattle.dnw_decoder.proofs.tails.Tails.keep_run.Goals.{in-Some+else-is_some, in_default}

pub overflow_sub-tail : goal.overflow_sub-tail
overflow_sub-tail c =
    (next_tail c.args.octets.now c.labels.self.names.items c.labels.place c.labels.tail c.labels.invariant.0 (search rules) (search rules)).some

pub labels-preserved : goal.labels-preserved
labels-preserved c =
    let next = next_tail c.args.octets.now c.labels.self.names.items c.labels.place c.labels.tail c.labels.invariant.0 (search rules) (search rules) in
    let behind : c.labels.place + (1 + c.from-length.result) ≡ c.labels.place + 1 + get_or c.args.octets.now c.labels.place 0 = omega (arith, c.from-length.ensures) in
    let shorter = ap (λ (t : Tail). record t { labels = t.labels - 1 }) c.labels.invariant.3 in
    elim c.match-get_mut.branch [
      | in-Some+else-is_some w ↦ rw (w.self-is, behind) (
        next.next,
        tails_more c.args.octets.now c.labels.self.names.items c.labels.self.places.items c.labels.place c.labels.tail c.labels.invariant.1 (search rules) c.labels.invariant.0,
        c.labels.invariant.2,
        shorter,
      )
      | in_default w ↦ rw (w.self-is, behind) (next.next, c.labels.invariant.1, c.labels.invariant.2, shorter)
    ]

pub returns-then-is_some-clause-tails : goal.returns-then-is_some-clause-tails
returns-then-is_some-clause-tails c =
    let places = c.labels.self.places.items in
    let kept : c.in-Some.kept.now ≡ get_or places c.labels.place c.in-Some.kept.now = search rules in
    let same : set places c.labels.place c.in-Some.kept.now ≡ places = ap (λ (k : Option Tail). set places c.labels.place k) kept ∙ set-get_or places c.labels.place c.in-Some.kept.now in
    rw same c.labels.invariant.1
