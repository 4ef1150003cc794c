-- What is read of a record's octets is the same record, but for where it lies in memory.
use Rattle.std.specs.Prelude.{◌≡◌, true, List, [], ◌∷◌, Option, Some, None}
use Rattle.zsv_message.specs.zst_record.drd_rdata.Order.{rdata_eq}
use Rattle.zsv_message.specs.zst_record.drd_rdata.Types.{type_of}
use Rattle.authority_load.specs.zst_zone.zst_handler.Chains.{target_of}
use Rattle.authority_load.specs.zst_zone.zst_handler.Lookups.{IsLookup, Outcome, answered, name_error, name_exists, out_of_zone}
use Rattle.authority_load.specs.zst_zone.zst_handler.Zones.{Zone}
use Rattle.zsv_message.specs.zst_record.dnw_codes.declared.record_type.RecordType.{RecordType}
use Rattle.zsv_message.specs.zst_record.dnw_name.DomainName.{DomainName}
use Rattle.zsv_message.specs.zst_record.declared.records.Record.{Record}
use Rattle.zsv_message.specs.zst_record.RecordSets.{RRset}

-- Two lists, and two values that may be there, are the same item by item.
abbrev pub AllSame : {X : Type 0} → (X → X → Type 0) → List X → List X → Type 0
AllSame Same [] [] = Unit {0}
AllSame Same (x ∷ xs) (y ∷ ys) = Same x y × AllSame Same xs ys
AllSame Same [] (y ∷ ys) = ⊥
AllSame Same (x ∷ xs) [] = ⊥

abbrev pub SameOption : {X : Type 0} → (X → X → Type 0) → Option X → Option X → Type 0
SameOption Same None None = Unit {0}
SameOption Same (Some x) (Some y) = Same x y
SameOption Same None (Some y) = ⊥
SameOption Same (Some x) None = ⊥

-- Equal records (RFC 2136, section 1.1.1) of one time to live, owner and target spelled alike.
pub record IsSameRecord (r s : Record) : Type 0 where
  pub name : r.name ≡ s.name
  pub dns_class : r.dns_class ≡ s.dns_class
  pub ttl : r.ttl ≡ s.ttl
  pub of_type : type_of r.rdata ≡ type_of s.rdata
  pub target : target_of r.rdata ≡ target_of s.rdata
  pub rdata : rdata_eq r.rdata s.rdata ≡ true

pub record IsSameSet (a b : RRset) : Type 0 where
  pub name : a.name ≡ b.name
  pub dns_class : a.dns_class ≡ b.dns_class
  pub record_type : a.record_type ≡ b.record_type
  pub records : AllSame IsSameRecord a.records b.records
  pub signatures : AllSame IsSameRecord a.signatures b.signatures

pub record IsSameZone (a b : Zone) : Type 0 where
  pub sets : AllSame IsSameSet a.sets b.sets
  pub rest : b ≡ record a { sets = b.sets }

-- What two zones answer to a question is the same: the same records, in the same order, or for the
-- same reason none.
abbrev pub IsSameOutcome : Outcome → Outcome → Type 0
IsSameOutcome (answered a) (answered b) =
    AllSame IsSameSet a.answers b.answers × AllSame IsSameSet a.additionals b.additionals
IsSameOutcome name_exists name_exists = Unit {0}
IsSameOutcome name_error name_error = Unit {0}
IsSameOutcome out_of_zone out_of_zone = Unit {0}
IsSameOutcome a b = ⊥

abbrev pub AnswersAlike : Zone → Zone → Type 0
AnswersAlike a b =
    (name : DomainName) (record_type : RecordType) (outcome : Outcome)
    → IsLookup a name record_type outcome
    → (other : Outcome) × IsLookup b name record_type other × IsSameOutcome outcome other
