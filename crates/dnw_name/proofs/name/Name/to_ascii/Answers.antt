use Rattle.std.specs.String.{string_bytes}
use Rattle.dnw_name.proofs.RoundTrip.{printed-read_back}
use Rattle.dnw_name.proofs.name.Name.to_ascii.Goals as goal

pub returns-clause-read_back : goal.returns-clause-read_back
returns-clause-read_back c =
    printed-read_back string_bytes c.to_string.result c.args.self.now c.to_string.ensures.ok c.len-octets.ensures.name
