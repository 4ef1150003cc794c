-- Records whose names point to the name of a message's first question, which stands behind the
-- header, from octet 12 on: RFC 1035, section 4.1.4.
use Rattle.std.specs.Prelude.{◌≡◌, ◌+◌, ◌≤◌, ◌++◌, ℕ, List, [], ◌∷◌, length}
use Rattle.zst_record.specs.dnw_decoder.Octets.{Stands}
use Rattle.zst_record.specs.dnw_name.DomainName.{DomainName, name_octets}
use Rattle.zst_record.specs.drd_names.declared.soa.SOA.{SOA}
use Rattle.zst_record.specs.drd_rdata.declared.rdata.RData.{RData}
use Rattle.zst_record.specs.drd_rdata.declared.rdata.RData.TheVariants as rdata
use Rattle.zst_record.specs.Records.{ReadsBackAlone, RecordAt, plain}
use Rattle.zst_record.specs.declared.records.Record.{Record}
use Rattle.zst_pointing.specs.Names.{IsNear, IsOwn, PointsOwner}

-- These octets are the record wherever they stand in a message behind this name, which stands at
-- octet 12. They are at most its plain ones, its owner in two.
pub record IsPointing (asked : DomainName) (r : Record) (octets : List ℕ) : Type 0 where
  pub there : ReadsBackAlone r → (message : List ℕ) (first place end : ℕ)
      → Stands message 12 (name_octets asked) first → first ≤ place
      → Stands message place octets end → RecordAt message place r end
  pub owner : length octets + length (name_octets r.name) ≤ plain r + 2
  pub size : length octets ≤ plain r

-- The record is put behind other octets.
pub record PutsPointing (asked : DomainName) (r : Record) (old new : List ℕ) : Type 0 where
  pub octets : List ℕ
  pub put : new ≡ old ++ octets
  pub is : IsPointing asked r octets

-- Octets are these records, one behind the other.
abbrev pub ArePointing : DomainName → List Record → List ℕ → Type 0
ArePointing asked [] octets = octets ≡ []
ArePointing asked (r ∷ rs) octets =
    (first : List ℕ) × (rest : List ℕ) × IsPointing asked r first × (octets ≡ first ++ rest)
    × ArePointing asked rs rest

-- The names of a zone's start can point to the one that is asked for, and share no more with each
-- other than with that.
pub record StartPoints (asked : DomainName) (soa : SOA) : Type 0 where
  pub mname_own : ℕ
  pub rname_own : ℕ
  pub apart_own : ℕ
  pub mname : IsNear asked soa.mname mname_own
  pub rname : IsNear asked soa.rname rname_own
  pub apart : IsOwn soa.rname soa.mname apart_own
  pub no_more : rname_own ≤ apart_own

-- The data are an address or such a start.
abbrev pub DataPoint : DomainName → RData → Type 0
DataPoint asked (rdata.A a) = Unit {0}
DataPoint asked (rdata.AAAA aaaa) = Unit {0}
DataPoint asked (rdata.SOA soa) = StartPoints asked soa
DataPoint asked other = ⊥

-- A record all of whose names can point to the one that is asked for.
abbrev pub Points : DomainName → Record → Type 0
Points asked r = PointsOwner asked r.name × DataPoint asked r.rdata
