use Rattle.std.proofs.Common.{rules}
use Rattle.zsv_parts.proofs.Flags.{header_back, two_octets}
use Rattle.zsv_parts.proofs.header.Header.octets.Goals as goal

pub returns-clause-value : goal.returns-clause-value
returns-clause-value c fits rest =
    header_back c.args.self _ _ _ _ _ _ _ _ _ _ _ _ rest fits
    (two_octets _ _ (search rules) c.to_be_bytes.ensures) c.high_octet.ensures c.low_octet.ensures
    (two_octets _ _ (search rules) c.to_be_bytes-2.ensures) (two_octets _ _ (search rules) c.to_be_bytes-3.ensures)
    (two_octets _ _ (search rules) c.to_be_bytes-4.ensures) (two_octets _ _ (search rules) c.to_be_bytes-5.ensures)
