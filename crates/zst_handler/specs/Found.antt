-- Which set of a zone answers a name and a type: RFC 1034, section 4.3.2, step 3; RFC 4592, section
-- 3.3.1.
use Rattle.std.specs.Prelude.{ℕ, Bool, true, List, [], ◌∷◌, Option, Some, None, is_some, if◌then◌else◌, option_map}
use Rattle.zst_key.specs.Ancestors.{nearest_from, nearest_in, or_else, star}
use Rattle.zst_record.specs.dnw_codes.declared.record_type.RecordType.{RecordType}
use Rattle.zst_record.specs.dnw_codes.declared.record_type.RecordType.TheVariants as kind
use Rattle.zst_record.specs.dnw_codes.RecordType.{same_record_type}
use Rattle.zst_record.specs.dnw_name.DomainName.{DomainName, lowercase_name}
use Rattle.zst_record.specs.RecordSets.{RRset, renamed}
use Rattle.zst_handler.specs.Zones.{rrset_at}

-- A type whose questions an alias for addresses answers.
abbrev pub is_address : RecordType → Bool
is_address record_type =
    if same_record_type record_type kind.A then true else same_record_type record_type kind.AAAA

-- What a name's own sets answer: the set of the type, else an alias (RFC 1034, section 3.6.2), else
-- for addresses an alias for these alone.
abbrev pub here : List RRset → RecordType → DomainName → Option RRset
here sets record_type name =
    or_else (rrset_at sets name record_type)
    (or_else (rrset_at sets name kind.CNAME)
    (if is_address record_type then rrset_at sets name kind.ANAME else None))

-- The name servers to which a name's owner is handed over, if it owns NS: those of a zone's start,
-- which has an SOA beside them, hand nothing over (RFC 1034, section 4.2.1).
abbrev pub cut_at : List RRset → DomainName → Option (Option RRset)
cut_at sets name =
    option_map (λ servers. if is_some (rrset_at sets name kind.SOA) then None else Some servers)
    (rrset_at sets name kind.NS)

-- What is found at the nearest name above one; above the root there is none.
abbrev pub nearest_above : {X : Type 0} → (DomainName → Option X) → Bool → List (List ℕ)
    → Option (DomainName × X)
nearest_above at fqdn [] = None
nearest_above at fqdn (label ∷ labels) = nearest_from at fqdn labels

abbrev pub above : {X : Type 0} → (DomainName → Option X) → DomainName → Option (DomainName × X)
above at name = nearest_above at name.fqdn name.labels

-- The set that was found, without the name.
abbrev pub found_set : Option (DomainName × RRset) → Option RRset
found_set None = None
found_set (Some (name, set)) = Some set

abbrev pub cut_found : Option (DomainName × Option RRset) → Option RRset
cut_found None = None
cut_found (Some (name, servers)) = servers

-- The name servers of the cut that a name lies at or below: those of the longest suffix that owns
-- NS. The question for DS asks the parent's side of a cut (RFC 4035, section 3.1.4.1).
abbrev pub delegation : List RRset → DomainName → RecordType → Option RRset
delegation sets name record_type =
    if same_record_type record_type kind.DS then cut_found (above (cut_at sets) name)
    else cut_found (nearest_in (cut_at sets) name)

-- What the nearest wildcard above a name answers, under that name.
abbrev pub wildcard_answer : List RRset → DomainName → RecordType → Option RRset
wildcard_answer sets name record_type =
    option_map (renamed (lowercase_name name))
    (found_set (above (λ ancestor. here sets record_type (star ancestor)) name))

-- The set that answers: a cut's name servers, else what the name's own sets answer, else a
-- wildcard.
abbrev pub found : List RRset → DomainName → RecordType → Option RRset
found sets name record_type =
    or_else (delegation sets name record_type)
    (or_else (here sets record_type name) (wildcard_answer sets name record_type))
