use Rattle.dnw_net.proofs.SuffixLemmas.{v6-below, v6-refused}
use Rattle.dnw_net.proofs.network.net_of_v6.Goals as goal

pub returns-in_default-clause-refused : goal.returns-in_default-clause-refused
returns-in_default-clause-refused c = v6-refused c.args.labels c.in_default.ensures.refused

pub returns-in-Ok-clause-ok : goal.returns-in-Ok-clause-ok
returns-in-Ok-clause-ok c =
    v6-below c.args.labels c.in-Ok.net.addr c.in-Ok.net.prefix_len c.in-Some.count c.from_octets.result c.join_digits.new.octets c.read_numbers.new.numbers
    c.in-Ok.ensures.ok.0 c.in-Ok.ensures.ok.1 c.from_octets.ensures c.join_digits.ensures.long c.join_digits.ensures.value c.in-Some.ensures.below c.in-Some.ensures.ok.0 c.in-Some.ensures.ok.1
