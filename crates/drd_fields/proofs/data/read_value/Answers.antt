use Rattle.std.proofs.Common.{inr, sym, ◌∙◌, ap}
use Rattle.drd_fields.specs.Fields.{are_open}
use Rattle.drd_fields.proofs.OnceLaws.{closed_same}
use Rattle.drd_fields.proofs.data.read_value.Goals as goal

pub returns-in-Err-of_parts-clause-none : goal.returns-in-Err-of_parts-clause-none
returns-in-Err-of_parts-clause-none g c =
    let message = c.args.decoder.now.octets in
    let place = c.args.decoder.now.index in
    let fs = g.T.Parts.ReadFields.fields c.in-Ok.parts in
    let kinds = g.T.Parts.ReadFields.laws.0 c.in-Ok.parts in
    let none = rw c.in-Err-of_parts.is at c.of_parts.ensures.none in
    inr (λ value end there valid. none value valid (closed_same message place fs (g.T.FieldData.fields value) c.read_data.new.decoder.index end (kinds ∙ sym (g.met.T.FieldData.laws value)) (ap are_open kinds ∙ c.requires) (rw c.in-Ok.is at c.read_data.ensures.ok) there))

pub returns-in-Err-of_parts-clause-refused : goal.returns-in-Err-of_parts-clause-refused
returns-in-Err-of_parts-clause-refused g c =
    let fs = g.T.Parts.ReadFields.fields c.in-Ok.parts in
    (c.read_data.new.decoder.index, inr (fs, g.T.Parts.ReadFields.laws.0 c.in-Ok.parts, rw c.in-Ok.is at c.read_data.ensures.ok, (rw c.in-Err-of_parts.is at c.of_parts.ensures.cause).0))
