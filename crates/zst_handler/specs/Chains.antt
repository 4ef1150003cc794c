-- Chains of aliases: RFC 1034, section 3.6.2.
use Rattle.std.specs.Prelude.{◌≡◌, ◌≤◌, true, false, not, ◌&&◌, List, [], ◌∷◌, Option, Some, None, length, if◌then◌else◌}
use Rattle.std.specs.List.{list_any}
use Rattle.zst_record.specs.dnw_codes.declared.record_type.RecordType.{RecordType}
use Rattle.zst_record.specs.dnw_codes.declared.record_type.RecordType.TheVariants as kind
use Rattle.zst_record.specs.dnw_codes.RecordType.{same_record_type}
use Rattle.zst_record.specs.dnw_name.DomainName.{DomainName, name_eq}
use Rattle.zst_record.specs.declared.records.Record.{Record}
use Rattle.zst_record.specs.drd_rdata.declared.rdata.RData.{RData}
use Rattle.zst_record.specs.drd_rdata.declared.rdata.RData.TheVariants as data_of
use Rattle.zst_record.specs.RecordSets.{RRset}
use Rattle.zst_handler.specs.Found.{found}

-- The name to which data lead: an alias's, a name server's, a mail server's, a service's.
abbrev pub target_of : RData → Option DomainName
target_of (data_of.CNAME cname) = Some cname.0
target_of (data_of.ANAME aname) = Some aname.0
target_of (data_of.NS ns) = Some ns.0
target_of (data_of.MX mx) = Some mx.exchange
target_of (data_of.SRV srv) = Some srv.target
target_of other = None

-- The target of the first record.
abbrev pub first_target : List Record → Option DomainName
first_target [] = None
first_target (r ∷ rs) = target_of r.rdata

-- Where a set leads that answers a type: an alias goes on, but for the question for aliases.
abbrev pub leads : RecordType → RRset → Option DomainName
leads record_type set =
    if same_record_type set.record_type kind.CNAME && not (same_record_type record_type kind.CNAME)
    then first_target set.records else None

-- Where sets lead that are asked from a name on.
abbrev pub end_of : RecordType → Option DomainName → List RRset → Option DomainName
end_of record_type name [] = name
end_of record_type name (set ∷ sets) = end_of record_type (leads record_type set) sets

-- Each set is found at the name to which the one before it leads.
abbrev pub Links : List RRset → RecordType → Option DomainName → List RRset → Type 0
Links zone record_type name [] = Unit {0}
Links zone record_type None (set ∷ sets) = ⊥
Links zone record_type (Some name) (set ∷ sets) =
    (found zone name record_type ≡ Some set) × Links zone record_type (leads record_type set) sets

-- The names that are asked, from a name on.
abbrev pub asked_names : RecordType → Option DomainName → List RRset → List DomainName
asked_names record_type None sets = []
asked_names record_type (Some name) [] = []
asked_names record_type (Some name) (set ∷ sets) =
    name ∷ asked_names record_type (leads record_type set) sets

-- No name stands twice, nor among those before.
abbrev pub NoneTwice : List DomainName → List DomainName → Type 0
NoneTwice before [] = Unit {0}
NoneTwice before (name ∷ names) =
    (list_any (name_eq name) before ≡ false) × NoneTwice (name ∷ before) names

-- Why a chain ends at a name: nothing is found there, it was asked, or eight sets were.
pub data Stops (zone : List RRset) (record_type : RecordType) (asked : List DomainName)
    (chain : List RRset) (name : DomainName) : Type 0 where
  nothing : found zone name record_type ≡ None → Stops zone record_type asked chain name
  loops : list_any (name_eq name) asked ≡ true → Stops zone record_type asked chain name
  long : length chain ≡ 8 → Stops zone record_type asked chain name

-- The sets of the alias chain of a question.
pub record IsAliasChain (zone : List RRset) (name : DomainName) (record_type : RecordType)
    (chain : List RRset) : Type 0 where
  pub links : Links zone record_type (Some name) chain
  pub once : NoneTwice [] (asked_names record_type (Some name) chain)
  pub short : length chain ≤ 8
  pub ends : (last : DomainName) → end_of record_type (Some name) chain ≡ Some last
      → Stops zone record_type (asked_names record_type (Some name) chain) chain last
