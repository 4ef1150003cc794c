-- Which fields can be read: those that stand in some message.
use Rattle.std.specs.Prelude.{◌≡◌, ◌≤◌, ◌<◌, ℕ, true, List, length}
use Rattle.std.specs.List.{All, AllByRecursion}
use Rattle.dnw_encoder.specs.dnw_name.DomainName.{DomainName, IsDomainName}
use Rattle.drd_fields.specs.Fields.{Field, name, string, strings, FieldsAt}

-- In some message these fields stand, and take octets.
pub record AreReadable (fs : List Field) : Type 0 where
  pub message : List ℕ
  pub place : ℕ
  pub end : ℕ
  pub some : place < end
  pub there : FieldsAt message place fs end

-- An octet counts the string's (RFC 1035 3.3).
abbrev pub IsShort : List ℕ → Type 0
IsShort octets = length octets ≤ 255

-- A name in a message ends at the root (RFC 1035 3.1).
abbrev pub EndsAtRoot : DomainName → Type 0
EndsAtRoot host = (host.fqdn ≡ true) × IsDomainName host

-- What a field must be to stand in some message. Numbers, and octets up to the end, always do.
abbrev pub StandsAlone : Field → Type 0
StandsAlone (name n) = EndsAtRoot n
StandsAlone (string s) = IsShort s
StandsAlone (strings ss) = All IsShort ss
StandsAlone other = Unit {0}

abbrev pub StandAlone : List Field → Type 0
StandAlone fields = AllByRecursion StandsAlone fields
