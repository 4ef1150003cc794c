-- Sets of records: RFC 2181, section 5.
use Rattle.std.specs.Prelude.{◌≡◌, ℕ, ◌+◌, ◌%◌, ◌^◌, ◌<◌, Bool, true, false, not, ◌&&◌, ◌||◌, ◌==◌, nat_le, List, [], ◌∷◌, ◌++◌, length, map, min, Option, Some, None, if◌then◌else◌}
use Rattle.std.specs.List.{AllByRecursion, list_any}
use Rattle.drd_rdata.specs.declared.rdata.RData.{RData}
use Rattle.drd_rdata.specs.declared.rdata.RData.TheVariants.{SOA}
use Rattle.drd_rdata.specs.dnw_codes.declared.record_type.RecordType.{RecordType}
use Rattle.drd_rdata.specs.dnw_codes.declared.record_type.RecordType.TheVariants as kind
use Rattle.drd_rdata.specs.dnw_codes.declared.dns_class.DNSClass.{DNSClass}
use Rattle.drd_rdata.specs.dnw_codes.declared.dns_class.DNSClass.TheVariants.{IN}
use Rattle.drd_rdata.specs.dnw_codes.DNSClass.{same_class}
use Rattle.drd_rdata.specs.dnw_codes.RecordType.{same_record_type}
use Rattle.drd_rdata.specs.dnw_name.DomainName.{DomainName, domain_name, name_eq}
use Rattle.drd_rdata.specs.Order.{rdata_eq}
use Rattle.drd_rdata.specs.Types.{type_of}
use Rattle.zst_record.specs.declared.records.Record.{Record}

-- A set: the records of one owner, class and type in order, and its signatures (RFC 4034, section
-- 3). Owner and class are spelled as the first record has them.
pub record RRset : Type 0 where
  pub name : DomainName
  pub dns_class : DNSClass
  pub record_type : RecordType
  pub records : List Record
  pub signatures : List Record

-- A record is of the set's owner, class and type.
pub record IsRecordOf (set : RRset) (r : Record) : Type 0 where
  pub at_owner : name_eq r.name set.name ≡ true
  pub of_class : same_class r.dns_class set.dns_class ≡ true
  pub of_type : same_record_type (type_of r.rdata) set.record_type ≡ true

-- A record may be a signature of the set: it is of its owner and class, and an RRSIG.
abbrev pub is_signature_of : RRset → Record → Bool
is_signature_of set r =
    name_eq r.name set.name
    && (same_class r.dns_class set.dns_class && same_record_type (type_of r.rdata) kind.RRSIG)

-- Each record is of the set's owner, class and type, and each signature may be one.
pub record IsRRset (set : RRset) : Type 0 where
  pub records : AllByRecursion (IsRecordOf set) set.records
  pub signatures : AllByRecursion (λ r. is_signature_of set r ≡ true) set.signatures
  pub spelled : (first : Record) (later : List Record) → set.records ≡ first ∷ later
      → (set.name ≡ first.name) × (set.dns_class ≡ first.dns_class)

abbrev pub none_left : List Record → Bool
none_left [] = true
none_left (r ∷ rs) = false

-- ---- sets that are made
abbrev pub empty_set : DomainName → RecordType → RRset
empty_set name record_type =
    record { name = name; dns_class = IN; record_type = record_type; records = []; signatures = [] }

abbrev pub set_of : Record → RRset
set_of r = record {
  name = r.name;
  dns_class = r.dns_class;
  record_type = type_of r.rdata;
  records = r ∷ [];
  signatures = [];
}

-- Records with one more: in place of the one with equal data, else behind them. A record is
-- replaced whole, with the case of its owner's letters.
abbrev pub put_record : List Record → Record → List Record
put_record [] r = r ∷ []
put_record (s ∷ ss) r = if rdata_eq s.rdata r.rdata then r ∷ ss else s ∷ put_record ss r

-- What the first record gives: the old one, or the record that takes its place.
abbrev pub first_of_put : {X : Type 0} → X → X → List Record → Record → X
first_of_put new old [] r = new
first_of_put new old (s ∷ ss) r = if rdata_eq s.rdata r.rdata then new else old

-- The set with a record, in place of all others or put among them. A set that was changed has no
-- signatures.
abbrev pub with_one : Bool → RRset → Record → RRset
with_one alone set r = record set {
  name = if alone then r.name else first_of_put r.name set.name set.records r;
  dns_class = if alone then r.dns_class
      else first_of_put r.dns_class set.dns_class set.records r;
  records = if alone then r ∷ [] else put_record set.records r;
  signatures = [];
}

-- The set that a record makes, alone or with those stored. One of another class begins it anew.
abbrev pub set_with : Option RRset → Record → RRset
set_with None r = set_of r
set_with (Some set) r = with_one (not (same_class r.dns_class set.dns_class)) set r

-- ---- what an update does with a set (RFC 2136, section 3.4.2.2)
-- An SOA stays where another one's serial number isn't above its own.
abbrev pub outlasts : RData → RData → Bool
outlasts (SOA stored) (SOA next) = nat_le next.serial stored.serial
outlasts stored next = false

-- A record is there, with its time to live.
abbrev pub holds : List Record → Record → Bool
holds records r = list_any (λ s. rdata_eq s.rdata r.rdata && s.ttl == r.ttl) records

-- Adding a record changes the set.
abbrev pub takes : RRset → Record → Bool
takes set r =
    same_class r.dns_class set.dns_class
    && (not (list_any (λ s. outlasts s.rdata r.rdata) set.records) && not (holds set.records r))

-- Of these types a set has one record at most.
abbrev pub is_single : RecordType → Bool
is_single record_type =
    same_record_type record_type kind.CNAME
    || (same_record_type record_type kind.ANAME || same_record_type record_type kind.SOA)

abbrev pub inserted : RRset → Record → RRset
inserted set r = with_one (is_single set.record_type) set r

-- No record may be taken out: an SOA, or the last NS of any owner (RFC 2136, section 3.4.2.7).
abbrev pub keeps_last : RRset → Bool
keeps_last set =
    same_record_type set.record_type kind.SOA
    || (same_record_type set.record_type kind.NS && nat_le (length set.records) 1)

-- Taking out the record with equal data changes the set.
abbrev pub loses : RRset → Record → Bool
loses set r = not (keeps_last set) && list_any (λ s. rdata_eq s.rdata r.rdata) set.records

-- The records without the first one with equal data.
abbrev pub without : List Record → RData → List Record
without [] value = []
without (s ∷ ss) value = if rdata_eq s.rdata value then ss else s ∷ without ss value

-- These records are left of a set: owner and class are spelled as the first one has them.
abbrev pub left_of : RRset → List Record → RRset
left_of set [] = record set { records = []; signatures = [] }
left_of set (r ∷ rs) =
    record set { name = r.name; dns_class = r.dns_class; records = r ∷ rs; signatures = [] }

abbrev pub removed : RRset → Record → RRset
removed set r = left_of set (without set.records r.rdata)

-- The serial number goes round (RFC 2136, section 3.6; RFC 1982, section 3.1).
abbrev pub raised_data : RData → RData
raised_data (SOA soa) = SOA (record soa { serial = (soa.serial + 1) % 2 ^ 32 })
raised_data other = other

abbrev pub raised_first : List Record → List Record
raised_first [] = []
raised_first (r ∷ rs) = record r { rdata = raised_data r.rdata } ∷ rs

-- The SOA set with the next serial number. It has no signatures.
abbrev pub raised_set : RRset → RRset
raised_set set = record set { records = raised_first set.records; signatures = [] }

abbrev pub signed_with : RRset → Record → RRset
signed_with set r =
    if is_signature_of set r then record set { signatures = set.signatures ++ r ∷ [] } else set

-- ---- what is read off a set
abbrev pub least_from : ℕ → List Record → ℕ
least_from ttl [] = ttl
least_from ttl (r ∷ rs) = least_from (min ttl r.ttl) rs

-- The least time to live; 0 where there are no records.
abbrev pub least_ttl : List Record → ℕ
least_ttl [] = 0
least_ttl (r ∷ rs) = least_from r.ttl rs

abbrev pub renamed_record : DomainName → Record → Record
renamed_record owner r = record r { name = owner }

-- The same records and signatures under another owner.
abbrev pub renamed : DomainName → RRset → RRset
renamed owner set = record set {
  name = owner;
  records = map (renamed_record owner) set.records;
  signatures = map (renamed_record owner) set.signatures;
}

-- A record under another name, with no more than a time to live.
abbrev pub flattened_record : DomainName → ℕ → Record → Record
flattened_record owner ttl r = record r { name = owner; ttl = min r.ttl ttl }

-- The records under another name, for no longer than a time to live; without signatures, which are
-- the first owner's.
abbrev pub flattened_set : DomainName → ℕ → RRset → RRset
flattened_set owner ttl set = record set {
  name = owner;
  records = map (flattened_record owner ttl) set.records;
  signatures = [];
}

-- ---- how a set is kept: where it has no records, one stands in for owner and class
abbrev pub first_name : List Record → DomainName
first_name [] = domain_name true []
first_name (r ∷ rs) = r.name

abbrev pub first_class : List Record → DNSClass
first_class [] = IN
first_class (r ∷ rs) = r.dns_class

abbrev pub held_set : RecordType → Bool → List Record → List Record → RRset
held_set record_type is_empty items rrsigs = record {
  name = first_name items;
  dns_class = first_class items;
  record_type = record_type;
  records = if is_empty then [] else items;
  signatures = rrsigs;
}

pub record IsHeld (record_type : RecordType) (is_empty : Bool) (items rrsigs : List Record) :
    Type 0 where
  pub filled : 0 < length items
  pub is : IsRRset (held_set record_type is_empty items rrsigs)
