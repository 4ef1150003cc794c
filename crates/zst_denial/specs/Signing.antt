-- The signatures of a set, one by each key (RFC 4034, section 3.1; RFC 4035, section 2.2).
use Rattle.std.specs.Prelude.{◌≡◌, ℕ, Bool, List, [], ◌∷◌, Some}
use Rattle.std.specs.List.{list_any}
use Rattle.zst_handler.specs.dnw_codes.declared.record_type.RecordType.TheVariants.{RRSIG}
use Rattle.zst_handler.specs.dnw_codes.RecordType.{record_type_number}
use Rattle.zst_handler.specs.dnw_name.DomainName.{num_labels}
use Rattle.zst_handler.specs.drd_rdata.Types.{type_of}
use Rattle.zst_handler.specs.zst_record.RecordSets.{RRset, least_ttl}
use Rattle.zst_handler.specs.zst_record.declared.records.Record.{Record}
use Rattle.drd_denial.specs.Rrsig.{Signing, rrsig_octets}
use Rattle.zst_denial.specs.Octets.{octets_of}

-- The set without its signatures.
abbrev pub unsigned : RRset → RRset
unsigned set = record set { signatures = [] }

-- The RRSIG record of a set by what a signer gave: its owner, class and TTL are the set's.
pub record IsSignatureBy (set : RRset) (given : Signing) (r : Record) : Type 0 where
  pub owner : r.name ≡ set.name
  pub class : r.dns_class ≡ set.dns_class
  pub ttl : r.ttl ≡ least_ttl set.records
  pub record_type : type_of r.rdata ≡ RRSIG
  pub held : octets_of RRSIG r.rdata
      ≡ Some
      (rrsig_octets (record_type_number set.record_type) (num_labels set.name)
      (least_ttl set.records) given)

module _ {K : Type 0} where
  -- One signature of a set by each key, in the keys' order.
  abbrev pub AreSignatures : (K → RRset → ℕ → Signing → Type 0) → List K → RRset → ℕ → List Record
      → Type 0
  AreSignatures gives [] set now [] = Unit {0}
  AreSignatures gives (k ∷ ks) set now (r ∷ rs) =
      ((given : Signing) × gives k (unsigned set) now given × IsSignatureBy set given r)
      × AreSignatures gives ks set now rs
  AreSignatures gives ks set now rs = ⊥

  -- Some key fails to sign the set.
  abbrev pub any_fails : (K → RRset → ℕ → Bool) → List K → RRset → ℕ → Bool
  any_fails fails keys set now = list_any (λ k. fails k (unsigned set) now) keys
