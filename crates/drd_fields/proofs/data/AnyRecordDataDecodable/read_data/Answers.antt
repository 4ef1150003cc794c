use Rattle.std.proofs.Common.{inr, sym, ◌∙◌, ◌+◌, subst, ℕ, List}
use Rattle.drd_fields.specs.Fields.{AreOrdered, FieldsAt, Kind}
use Rattle.drd_fields.proofs.OnceLaws.{fields_same}
use Rattle.drd_fields.proofs.data.AnyRecordDataDecodable.read_data.Goals as goal

pub returns-in-Err-of_parts-clause-none : goal.returns-in-Err-of_parts-clause-none
returns-in-Err-of_parts-clause-none g c =
    let message = c.args.decoder.now.octets in
    let place = c.args.decoder.now.index in
    let fs = g.T.Parts.ReadFields.fields c.in-Ok.parts in
    let kinds = g.T.Parts.ReadFields.laws.0 c.in-Ok.parts in
    let ordered = subst (λ (ks : List Kind). AreOrdered ks) (sym kinds) g.T.Parts.ReadFields.laws.1 in
    let none = rw c.in-Err-of_parts.is at c.of_parts.ensures.none in
    let there : FieldsAt message place fs (place + c.args.length) =
    subst (λ (n : ℕ). FieldsAt message place fs (place + n)) c.unverified.ensures (rw c.in-Ok.is at c.read_window.ensures.ok) in
    inr (λ value found. none value found.1 (fields_same message place fs (g.T.FieldData.fields value) (place + c.args.length) (kinds ∙ sym (g.met.T.FieldData.laws value)) ordered there found.0))
