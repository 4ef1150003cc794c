use Rattle.std.proofs.Common.{◌+◌, ◌-◌, length, ap, arith, ◌∙◌}
use Rattle.drd_fields.proofs.dnw_encoder_lemmas.PointerLaws.{pointer_bytes}
use Rattle.zst_record.specs.dnw_decoder.Octets.{octets_16}
use Rattle.zst_record.specs.dnw_decoder.Spelling.{pointer_octets}
use Rattle.zst_pointing.proofs.NearNames.{few_octets}
use Rattle.zst_pointing.proofs.names.pointer.Goals as goal

pub overflow_cast-result : goal.overflow_cast-result
overflow_cast-result c = omega (arith, few_octets c.args.asked.now c.as_octets.ensures.name, ap length c.as_octets.ensures.octets)

pub overflow_add-result : goal.overflow_add-result
overflow_add-result c = omega (arith, few_octets c.args.asked.now c.as_octets.ensures.name, ap length c.as_octets.ensures.octets)

pub returns : goal.returns
returns c =
    let place = 12 + (length c.as_octets.result.now - c.args.shared) in
    ap octets_16 (omega arith) ∙ pointer_bytes place (omega (arith, few_octets c.args.asked.now c.as_octets.ensures.name, ap length c.as_octets.ensures.octets))
    ∙ ap pointer_octets (omega (arith, ap length c.as_octets.ensures.octets))
