-- What is read off the start of a zone (RFC 1035, section 3.3.13), and which sets a zone refuses.
use Rattle.std.specs.Prelude.{◌≡◌, ℕ, true, List, [], ◌∷◌, false, Option, Some, None}
use Rattle.zst_circle.specs.drd_rdata.declared.rdata.RData.{RData}
use Rattle.zst_circle.specs.drd_rdata.declared.rdata.RData.TheVariants.{SOA}
use Rattle.zst_circle.specs.zst_record.declared.records.Record.{Record}
use Rattle.zst_circle.specs.zst_record.RecordSets.{RRset, none_left}
use Rattle.zst_zone.specs.declared.handler.ZoneError.{ZoneError}
use Rattle.zst_zone.specs.declared.handler.ZoneError.TheVariants as errors

-- The data of a set's first record.
abbrev pub data_of_first : List Record → Option RData
data_of_first [] = None
data_of_first (r ∷ rs) = Some r.rdata

abbrev pub first_data : Option RRset → Option RData
first_data None = None
first_data (Some set) = data_of_first set.records

-- The serial number of a zone whose start has these data; 0 without one.
abbrev pub serial_of : Option RData → ℕ
serial_of (Some (SOA soa)) = soa.serial
serial_of other = 0

-- How long its denials may be kept; 0 without a start.
abbrev pub minimum_of : Option RData → ℕ
minimum_of (Some (SOA soa)) = soa.minimum
minimum_of other = 0

-- Why a set is refused: it has no records, or memory was refused for one that has.
abbrev pub RefusesSet : RRset → ZoneError → Type 0
RefusesSet set errors.EmptySet = none_left set.records ≡ true
RefusesSet set errors.OutOfMemory = none_left set.records ≡ false
RefusesSet set errors.WrongKey = ⊥
RefusesSet set errors.SignerFailed = ⊥
