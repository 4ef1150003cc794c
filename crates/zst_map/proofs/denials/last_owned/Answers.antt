use Rattle.std.proofs.Common.{◌∙◌, sym, ap}
use Rattle.std.specs.Prelude.{option_copied}
use Rattle.zst_map.proofs.Preceded.{passed_all, passed_more, passed_none, passed_to}
use Rattle.zst_map.proofs.denials.last_owned.Goals as goal

pub names-init : goal.names-init
names-init c = passed_none c.args.sets.now c.args.record_type c.args.names

pub names-preserved : goal.names-preserved
names-preserved c =
    passed_more c.args.sets.now c.args.record_type c.args.names c.names.left c.next_back.new.self (c.in-Some.name.now, c.in-Some.field-0-1.now) c.in-Some.ensures.steps
    (sym c.get.ensures ∙ ap option_copied c.in_default-get.is) c.names.invariant

pub returns-in-Some-get : goal.returns-in-Some-get
returns-in-Some-get c =
    passed_to c.args.sets.now c.args.record_type c.args.names c.names.left c.next_back.new.self (c.in-Some.name.now, c.in-Some.field-0-1.now) c.in-Some-get.set.now c.in-Some.ensures.steps
    (sym c.in-Some-get.ensures) c.names.invariant

pub returns : goal.returns
returns c = passed_all c.args.sets.now c.args.record_type c.args.names c.names.left c.in_default.ensures.steps.0 c.names.invariant
