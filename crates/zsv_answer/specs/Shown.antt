-- Which records are shown of an answer: RFC 4035, section 3.2.1.
use Rattle.std.specs.Prelude.{Bool, not, ◌||◌, List, [], ◌∷◌, Option, Some, None, if◌then◌else◌}
use Rattle.std.specs.List.{filter, list_any}
use Rattle.zsv_reply.specs.drd_rdata.Types.{type_of}
use Rattle.zsv_reply.specs.zst_record.declared.records.Record.{Record}
use Rattle.zst_request.specs.dnw_codes.declared.record_type.RecordType.{RecordType}
use Rattle.zst_request.specs.dnw_codes.declared.record_type.RecordType.TheVariants as types
use Rattle.zst_request.specs.dnw_codes.RecordType.{same_record_type}

-- The types of signed zones (RFC 4034; RFC 5155; RFC 7344; RFC 2535).
abbrev pub is_dnssec_record : RecordType → Bool
is_dnssec_record record_type =
    list_any (same_record_type record_type)
    (types.DS ∷ types.DNSKEY ∷ types.KEY ∷ types.SIG ∷ types.RRSIG ∷ types.NSEC ∷ types.NSEC3
    ∷ types.NSEC3PARAM ∷ types.CDS ∷ types.CDNSKEY ∷ [])

-- They are shown to whom asks for them: one by its type, or all by DO (RFC 4035, section 3.2.1).
abbrev pub is_shown : RecordType → Record → Bool
is_shown record_type r =
    same_record_type (type_of r.rdata) record_type || not (is_dnssec_record (type_of r.rdata))

abbrev pub shown_to : RecordType → List Record → List Record
shown_to record_type rs = filter (is_shown record_type) rs

abbrev pub shown_if : Option RecordType → List Record → List Record
shown_if None rs = rs
shown_if (Some record_type) rs = shown_to record_type rs

abbrev pub hidden_but : Bool → RecordType → Option RecordType
hidden_but dnssec_ok record_type = if dnssec_ok then None else Some record_type
