use Rattle.std.proofs.Common.{arith}
use Rattle.dnw_name.proofs.Taken.{taken-start, taken-more, taken-done, taken-refused, taken-cause, taken-too_many}
use Rattle.dnw_name.proofs.name.Name.from_labels.Goals as goal

pub labels-init : goal.labels-init
labels-init g c =
    taken-start g.I.Iterator.next_gives g.I.Iterator.can_next g.L.IntoLabel.octets g.L.IntoLabel.accepts
    c.args.labels c.root-name.result c.requires c.root-name.ensures

pub next_of-requires : goal.next_of-requires
next_of-requires g c = c.labels.invariant.ready

pub returns-in_default-clause-ok : goal.returns-in_default-clause-ok
returns-in_default-clause-ok g c =
    let taken =
    taken-done g.I.Iterator.next_gives g.I.Iterator.can_next g.L.IntoLabel.octets g.L.IntoLabel.accepts
    c.args.labels c.labels.left c.next_of.new.items c.labels.name c.labels._taken c.labels.invariant c.in_default.ensures.steps in
    (taken.0, taken.1, taken.2, taken.3)

pub returns-in-Err-clause-refused : goal.returns-in-Err-clause-refused
returns-in-Err-clause-refused g c =
    taken-refused g.I.Iterator.next_gives g.I.Iterator.can_next g.L.IntoLabel.octets g.L.IntoLabel.accepts
    c.args.labels c.labels.left c.next_of.new.items c.labels.name c.labels._taken c.in-Some.label c.in-Err.refused
    c.labels.invariant c.in-Some.ensures.steps c.in-Err.ensures.refused

pub labels-preserved : goal.labels-preserved
labels-preserved g c =
    taken-more g.I.Iterator.next_gives g.I.Iterator.can_next g.L.IntoLabel.octets g.L.IntoLabel.accepts
    c.args.labels c.labels.left c.next_of.new.items c.labels.name c.in-Ok.longer c.labels._taken c.in-Some.label
    c.labels.invariant c.in-Some.ensures.steps c.in-Some.ensures.goes (c.in-Ok.ensures.ok).0 c.in-Ok.ensures.accepted (c.in-Ok.ensures.ok).1

pub returns-clause-refused : goal.returns-clause-refused
returns-clause-refused g c =
    absurd (taken-too_many g.I.Iterator.next_gives g.I.Iterator.can_next g.L.IntoLabel.octets g.L.IntoLabel.accepts
    c.args.labels c.labels.left c.labels.name c.labels._taken c.labels.invariant c.len-octets.ensures.name (omega arith))

pub returns-in-Err-clause-cause : goal.returns-in-Err-clause-cause
returns-in-Err-clause-cause g c =
    taken-cause g.I.Iterator.next_gives g.I.Iterator.can_next g.L.IntoLabel.octets g.L.IntoLabel.accepts g.L.IntoLabel.refuses
    c.args.labels c.labels.left c.next_of.new.items c.labels.name c.labels._taken c.in-Some.label c.in-Err.refused
    c.labels.invariant c.in-Some.ensures.steps c.in-Err.ensures.cause

pub returns-clause-cause : goal.returns-clause-cause
returns-clause-cause g c =
    absurd (taken-too_many g.I.Iterator.next_gives g.I.Iterator.can_next g.L.IntoLabel.octets g.L.IntoLabel.accepts
    c.args.labels c.labels.left c.labels.name c.labels._taken c.labels.invariant c.len-octets.ensures.name (omega arith))
