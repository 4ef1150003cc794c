use Rattle.std.proofs.Common.{◌∙◌, ap, sym, true, length, arith}
use Rattle.dnw_net.specs.dnw_codes.ProtoError.{IsMemory}
use Rattle.dnw_name.proofs.Lengths.{IsDomainName-flag}
use Rattle.dnw_net.proofs.dnw_label_lemmas.LabelTextLemmas.{label-shorter}
use Rattle.dnw_name.proofs.RefusalLemmas.{front-start, front-name, next-refused, longer-refused}
use Rattle.dnw_name.proofs.TextLemmas.{labels-no_next, labels-refused, name-last, name-closed, name-more}
use Rattle.dnw_name.proofs.name_text.name_of_labels.Goals as goal

pub labels-init : goal.labels-init
labels-init c = front-start c.args.text.now c.new-name.result c.new-name.ensures

pub returns-in-Err-clause-refused : goal.returns-in-Err-clause-refused
returns-in-Err-clause-refused c =
    labels-no_next IsMemory c.in-Err.refused c.args.text.now c.labels.name.labels c.labels.rest.now c.labels.invariant.0.0 (c.in-Err.ensures.refused)

pub returns-in-Err-append-clause-refused : goal.returns-in-Err-append-clause-refused
returns-in-Err-append-clause-refused c =
    labels-refused IsMemory c.in-Err-append.refused c.args.text.now c.labels.name.labels c.labels.rest.now c.in-Ok.found.0 c.in-Ok.found.1.now
    c.labels.invariant.0.0 (c.in-Ok.ensures.ok).0 (c.in-Err-append.ensures.cause)

pub returns-in_default-clause-ok : goal.returns-in_default-clause-ok
returns-in_default-clause-ok c = (
  name-last c.args.text.now c.labels.name c.append.new.self c.labels.rest.now c.in-Ok.found.0 c.in-Ok.found.1.now
      c.labels.invariant.0 (c.in-Ok.ensures.ok) c.in-Ok-append.ensures.ok
      (c.in_default.ensures.cases),
  c.append.ensures.name,
)

pub returns-then-is_empty-clause-ok : goal.returns-then-is_empty-clause-ok
returns-then-is_empty-clause-ok c =
    let read = name-closed c.args.text.now c.labels.name c.append.new.self c.labels.rest.now c.in-Ok.found.0 c.in-Ok.found.1.now
    c.labels.invariant.0 (c.in-Ok.ensures.ok) c.in-Ok-append.ensures.ok
    c.in-Some.field-0-0.now c.in-Some.later.now (c.in-Some.ensures.cases).0 (c.if-is_empty.ensures) in
    rw c.set_fqdn.ensures (read, IsDomainName-flag c.append.new.self.fqdn true c.append.new.self.labels c.append.ensures.name)

pub labels-smaller : goal.labels-smaller
labels-smaller c =
    omega (arith, label-shorter c.labels.rest.now c.in-Ok.found.0 c.in-Ok.found.1.now (c.in-Ok.ensures.ok).0, ap length (c.in-Some.ensures.cases).0)

pub labels-preserved : goal.labels-preserved
labels-preserved c = (
  name-more c.args.text.now c.labels.name c.append.new.self c.labels.rest.now c.in-Ok.found.0 c.in-Ok.found.1.now
      c.labels.invariant.0 (c.in-Ok.ensures.ok) c.in-Ok-append.ensures.ok
      c.in-Some.field-0-0.now c.in-Some.later.now (c.in-Some.ensures.cases).0 (sym c.is_empty.ensures ∙ c.if-is_empty.false),
  front-name c.args.text.now c.labels.name c.append.new.self c.labels.rest.now c.in-Ok.found.0 c.in-Ok.found.1.now
      c.in-Some.field-0-0.now c.in-Some.later.now c.labels.invariant.1 (c.in-Ok.ensures.ok) c.in-Ok-append.ensures.ok
      (c.in-Some.ensures.cases).0 (sym c.is_empty.ensures ∙ c.if-is_empty.false),
  c.append.ensures.name.short,
)

pub returns-in-Err-clause-cause : goal.returns-in-Err-clause-cause
returns-in-Err-clause-cause c =
    next-refused c.in-Err.refused c.args.text.now c.labels.name.labels c.labels.rest.now c.labels.invariant.1 c.labels.invariant.2 (c.in-Err.ensures.cause)

pub returns-in-Err-append-clause-cause : goal.returns-in-Err-append-clause-cause
returns-in-Err-append-clause-cause c =
    longer-refused c.in-Err-append.refused c.args.text.now c.labels.name.labels c.labels.rest.now c.in-Ok.found.0 c.in-Ok.found.1.now
    c.labels.invariant.1 c.labels.invariant.2 (c.in-Ok.ensures.ok) (c.in-Err-append.ensures.cause)
