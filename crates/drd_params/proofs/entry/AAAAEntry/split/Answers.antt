use Rattle.std.proofs.Common.{ap}
use Rattle.drd_fields.specs.dnw_decoder.Reading.{Reading}
use Rattle.drd_params.specs.AddressFields.{aaaa_fields, aaaa_kinds}
use Rattle.drd_params.proofs.Numbers.{numbers-refused}
use Rattle.drd_params.proofs.entry.AAAAEntry.split.Goals as goal

pub returns-in-Err-clause-refused : goal.returns-in-Err-clause-refused
returns-in-Err-clause-refused c =
    numbers-refused aaaa_fields aaaa_kinds c.new-decoder.result.octets c.new-decoder.result.index c.args.octets.now c.in-Err.refused (λ x. tt) tt
    (ap (λ (r : Reading). r.octets) c.new-decoder.ensures) (ap (λ (r : Reading). r.index) c.new-decoder.ensures) c.in-Err.ensures.refused c.in-Err.ensures.none
