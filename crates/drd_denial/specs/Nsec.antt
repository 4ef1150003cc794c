-- RDATA of NSEC records (RFC 4034, section 4.1).
use Rattle.std.specs.Prelude.{◌≡◌, ℕ, true, List, ◌++◌}
use Rattle.drd_plain.specs.dnw_name.DomainName.{DomainName, IsDomainName, name_octets}
use Rattle.dnw_wire.specs.BitMaps.{BitMaps, IsMap}

-- The next owner's name, uncompressed and fully qualified, then the types of the owner's sets as
-- bit maps, to the end.
pub record IsNsecData (octets : List ℕ) (next : DomainName) (types : List ℕ) : Type 0 where
  pub full : next.fqdn ≡ true
  pub name : IsDomainName next
  pub maps : List ℕ
  pub whole : octets ≡ name_octets next ++ maps
  pub are : BitMaps IsMap 0 maps types
