use Rattle.std.proofs.Common.{rules, ◌≡◌, ◌+◌, ◌≤◌, inl, inr, length, sym, ◌∙◌, ap, false, arith}
use Rattle.drd_fields.specs.Fields.{are_open}
use Rattle.drd_fields.specs.FieldLaws.{stops_none, elsewhere_none}
use Rattle.drd_fields.proofs.window.read_window.Goals as goal

pub returns-in-Err-clause-none : goal.returns-in-Err-clause-none
returns-in-Err-clause-none g c =
    let le : c.args.decoder.now.index ≤ length c.args.decoder.now.octets = omega (arith, c.index-start.ensures.value, c.index-start.ensures.within) in
    elim (stops_none c.args.decoder.now.octets (c.index-start.result + c.from-len.result) g.D.ReadFields.kinds c.args.decoder.now.index c.in-Err.refused c.read_fields.new.decoder.index le g.D.ReadFields.laws.1 (rw c.in-Err.is at c.read_fields.ensures.err)) [
      | inl memory ↦ inl memory
      | inr none ↦ inr (λ fs same there. none fs (c.args.decoder.now.index + c.args.len) same (λ to_end. omega (arith, c.index-start.ensures.value, c.from-len.ensures)) there)
    ]

pub returns-else-read-len-clause-none : goal.returns-else-read-len-clause-none
returns-else-read-len-clause-none g c =
    let same = g.D.ReadFields.laws.0 c.in-Ok.found in
    let other : c.read_fields.new.decoder.index ≡ c.args.decoder.now.index + c.args.len → ⊥ = λ e. c.if-read-len.false (omega (arith, e, c.index-start.ensures.value, c.from-len.ensures, c.index.ensures.value)) in
    let closed : are_open g.D.ReadFields.kinds ≡ false = search rules in
    inr (λ fs kinds filled. elsewhere_none c.args.decoder.now.octets c.args.decoder.now.index (c.args.decoder.now.index + c.args.len) (g.D.ReadFields.fields c.in-Ok.found) c.read_fields.new.decoder.index (ap are_open same ∙ closed) (rw c.in-Ok.is at c.read_fields.ensures.ok) other fs (kinds ∙ sym same) filled)
