use Rattle.std.proofs.Common.{◌≡◌, rules, length}
use Rattle.std.specs.Int.{w32, to_be_bytes}
use Rattle.std.proofs.lemmas.Nat.{be_bytes_4}
use Rattle.dnw_decoder.specs.Octets.{octets_32}
use Rattle.dnw_decoder.specs.Reading.{TakesOctets}
use Rattle.dnw_decoder.proofs.decoder.BinDecoder.read_u32.Goals as goal

pub returns-clause-ok : goal.returns-clause-ok
unfolding octets_32
returns-clause-ok c =
    let octets = c.unverified-octets.result.now in
    let taken : TakesOctets c.args.self.now octets c.read_slice.new.self = rw c.unverified-octets.ensures c.in_ok-read_slice.ensures.ok in
    let long : length octets ≡ 4 = rw c.unverified-octets.ensures c.in_ok-read_slice.ensures.long in
    let same : to_be_bytes w32 c.new.result ≡ octets = be_bytes_4 octets c.new.result long (search rules) (search rules) in
    rw same taken
