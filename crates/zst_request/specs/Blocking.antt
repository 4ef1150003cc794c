-- What is answered in place of names that are blocked.
use Rattle.std.specs.Prelude.{◌≡◌, ℕ, ◌+◌, ◌-◌, Bool, ◌&&◌, ◌||◌, List, [], ◌∷◌, drop, length, map, Option, Some, None, unwrap_or, if◌then◌else◌}
use Rattle.std.specs.List.{list_any, range_with_len}
use Rattle.std.specs.declared.net.ipv4_addr.Ipv4Addr.{Ipv4Addr}
use Rattle.std.specs.declared.net.ipv6_addr.Ipv6Addr.{Ipv6Addr}
use Rattle.zst_denial.specs.dnw_codes.declared.dns_class.DNSClass.TheVariants.{IN}
use Rattle.zst_denial.specs.dnw_codes.declared.record_type.RecordType.{RecordType}
use Rattle.zst_denial.specs.dnw_codes.declared.record_type.RecordType.TheVariants as kind
use Rattle.zst_denial.specs.dnw_codes.RecordType.{same_record_type}
use Rattle.zst_denial.specs.dnw_name.DomainName.{DomainName, domain_name, lowercase_name, name_eq, wildcard_of}
use Rattle.zst_denial.specs.drd_rdata.declared.rdata.RData.{RData}
use Rattle.zst_denial.specs.drd_rdata.declared.rdata.RData.TheVariants as data_of
use Rattle.zst_denial.specs.zst_record.Records.{record_with}
use Rattle.zst_denial.specs.zst_record.declared.records.Record.{Record}
use Rattle.zst_request.specs.Views.{Blocklist}

-- ---- which names are blocked
-- A wildcard over the last labels of a name, so many of them, which aren't all (RFC 4592, section
-- 2.1.1).
abbrev pub wildcard_over : ℕ → DomainName → DomainName
wildcard_over count name =
    wildcard_of (domain_name name.fqdn (drop (length name.labels - (count + 1)) name.labels))

abbrev pub is_listed : Blocklist → DomainName → Bool
is_listed blocklist name = list_any (name_eq name) blocklist.names

-- A wildcard over at least so many labels of the name as the list's depth is listed.
abbrev pub has_listed_wildcard : Blocklist → DomainName → Bool
has_listed_wildcard blocklist name =
    list_any (λ count. is_listed blocklist (wildcard_over count name))
    (range_with_len blocklist.min_wildcard_depth
    (length name.labels - blocklist.min_wildcard_depth))

abbrev pub is_blocked : Blocklist → DomainName → Bool
is_blocked blocklist name =
    is_listed blocklist name
    || (blocklist.wildcard_match && has_listed_wildcard blocklist name)

-- ---- what is answered in their place
-- An address, and a message that goes with it.
pub record BlockedAnswer : Type 0 where
  pub address : Record
  pub message : Option (List ℕ)

-- No host's own address (RFC 1122, section 3.2.1.3; RFC 4291, section 2.5.2).
abbrev pub unspecified_ipv4 : Ipv4Addr
unspecified_ipv4 = record { octets = 0 ∷ 0 ∷ 0 ∷ 0 ∷ [] }

abbrev pub unspecified_ipv6 : Ipv6Addr
unspecified_ipv6 = record { segments = 0 ∷ 0 ∷ 0 ∷ 0 ∷ 0 ∷ 0 ∷ 0 ∷ 0 ∷ [] }

-- The address to which a blocked name leads: one of 128 bits where that is asked for.
abbrev pub sinkhole : Blocklist → RecordType → RData
sinkhole blocklist record_type =
    if same_record_type record_type kind.AAAA
    then data_of.AAAA (record { 0 = unwrap_or blocklist.sinkhole_ipv6 unspecified_ipv6 })
    else data_of.A (record { 0 = unwrap_or blocklist.sinkhole_ipv4 unspecified_ipv4 })

-- What a list answers to a name and a type, where it blocks the name: an address of it.
abbrev pub blocked_answer : Blocklist → DomainName → RecordType → Option BlockedAnswer
blocked_answer blocklist name record_type =
    if is_blocked blocklist name then Some (record {
      address = record_with (lowercase_name name) IN blocklist.ttl (sinkhole blocklist record_type);
      message = blocklist.block_message;
    }) else None

-- ---- the records of the answer
-- Data of one text (RFC 1035, section 3.3.14).
abbrev pub IsText : List ℕ → RData → Type 0
IsText octets (data_of.TXT txt) = map (λ text. text.items) txt.txt_data.items ≡ octets ∷ []
IsText octets other = ⊥

abbrev pub with_data : Record → RData → Record
with_data r value = record r { rdata = value }

-- A text that goes with an address has its owner, class and time to live.
abbrev pub IsMessage : Record → Option (List ℕ) → List Record → Type 0
IsMessage address None rs = rs ≡ []
IsMessage address (Some octets) rs =
    (value : RData) × (rs ≡ with_data address value ∷ []) × IsText octets value

-- The address, then the message.
pub record AreBlocked (answer : BlockedAnswer) (rs : List Record) : Type 0 where
  pub later : List Record
  pub address : rs ≡ answer.address ∷ later
  pub message : IsMessage answer.address answer.message later
