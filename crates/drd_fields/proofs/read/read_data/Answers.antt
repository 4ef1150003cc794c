use Rattle.std.proofs.Common.{◌≤◌, inl, inr, length, sym, ◌∙◌, arith}
use Rattle.drd_fields.specs.FieldLaws.{stops_none}
use Rattle.drd_fields.proofs.read.read_data.Goals as goal

pub returns-in-Err-clause-none : goal.returns-in-Err-clause-none
returns-in-Err-clause-none g c =
    let le : c.args.decoder.now.index ≤ length c.args.decoder.now.octets = omega (arith, c.index-start.ensures.value, c.index-start.ensures.within) in
    elim (stops_none c.args.decoder.now.octets c.index-start.result g.D.ReadFields.kinds c.args.decoder.now.index c.in-Err.refused c.read_fields.new.decoder.index le g.D.ReadFields.laws.1 (rw c.in-Err.is at c.read_fields.ensures.err)) [
      | inl memory ↦ inl memory
      | inr none ↦ inr (λ fs end same there. none fs end same (λ to_end. absurd (cc (sym to_end ∙ c.requires))) there)
    ]
