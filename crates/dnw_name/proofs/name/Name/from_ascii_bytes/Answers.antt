use Rattle.dnw_name.proofs.TextLemmas.{text-empty, text-root, text-labels}
use Rattle.std.proofs.Common.{◌∙◌, sym}
use Rattle.dnw_name.proofs.RefusalLaws.{refused-by}
use Rattle.dnw_name.proofs.RefusalLemmas.{text-refused}
use Rattle.dnw_name.proofs.name.Name.from_ascii_bytes.Goals as goal

pub returns-then-is_empty-clause-ok : goal.returns-then-is_empty-clause-ok
returns-then-is_empty-clause-ok c = text-empty c.args.text.now c.new.result (c.if-is_empty.ensures) c.new.ensures

pub returns-then-eq-clause-ok : goal.returns-then-eq-clause-ok
returns-then-eq-clause-ok c =
    let dot = rw c.as_slice.ensures at c.if-eq.ensures in
    text-root c.args.text.now c.root.result dot c.root.ensures

pub returns-clause-ok : goal.returns-clause-ok
returns-clause-ok c = text-labels c.args.text.now c.name_of_labels.result c.name_of_labels.ensures.ok

pub returns-clause-cause : goal.returns-clause-cause
returns-clause-cause c =
    let other = rw c.as_slice.ensures at (sym c.eq.ensures ∙ c.if-eq.false) in
    text-refused c.name_of_labels.result c.args.text.now (sym c.is_empty.ensures ∙ c.if-is_empty.false) other (c.name_of_labels.ensures.cause)

pub returns-clause-stands : goal.returns-clause-stands
returns-clause-stands c =
    refused-by c.name_of_labels.result c.args.text.now (returns-clause-ok c) (returns-clause-cause c)
