use Rattle.std.proofs.lemmas.Fmt.{decimal_digit}
use Rattle.std.proofs.Common.{arith}
use Rattle.dnw_net.proofs.SuffixLemmas.{v4-below}
use Rattle.dnw_net.proofs.network.net_of_v4.Goals as goal

pub read_numbers-requires-clause-zero : goal.read_numbers-requires-clause-zero
read_numbers-requires-clause-zero c = decimal_digit 0 (omega arith)

pub returns-in-Ok-clause-ok : goal.returns-in-Ok-clause-ok
returns-in-Ok-clause-ok c =
    v4-below c.args.labels c.in-Ok.net.addr c.in-Ok.net.prefix_len c.in-Some.count c.from_octets.result c.read_numbers.new.numbers
    c.in-Ok.ensures.ok.0 c.in-Ok.ensures.ok.1 c.from_octets.ensures c.in-Some.ensures.long c.in-Some.ensures.below c.in-Some.ensures.ok.0 c.in-Some.ensures.ok.1
