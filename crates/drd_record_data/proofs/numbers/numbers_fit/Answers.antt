use Rattle.drd_record_data.proofs.OtherNumbers.{others_fit}
use Rattle.drd_record_data.proofs.numbers.numbers_fit.Goals as goal

pub returns-in_default : goal.returns-in_default
returns-in_default c = others_fit c.args.rdata.now c.in_default.not-CERT c.in_default.not-CSYNC c.in_default.not-HTTPS c.in_default.not-MX c.in_default.not-NAPTR c.in_default.not-SOA c.in_default.not-SRV c.in_default.not-SVCB c.in_default.not-A c.in_default.not-AAAA
