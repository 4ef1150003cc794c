-- The records that deny a name or a type in a reply (RFC 4035, section 3.1.3; RFC 5155, section 7.2).
use Rattle.std.specs.Prelude.{◌≡◌, ℕ, Bool, true, false, ◌||◌, nat_lt, List, [], MatchBool, Option, Some, None, slice_get}
use Rattle.std.specs.List.{list_any}
use Rattle.zst_request.specs.Views.{Blocked, Stored, View, nx_proof_kind_of}
use Rattle.zst_request.specs.dnw_codes.declared.record_type.RecordType.{RecordType}
use Rattle.zst_request.specs.dnw_codes.declared.record_type.RecordType.TheVariants.{RRSIG}
use Rattle.zst_request.specs.dnw_name.DomainName.{DomainName, lowercase_name, num_labels}
use Rattle.zst_request.specs.zst_codes.declared.nx_proof.NxProofKind.{NxProofKind}
use Rattle.zst_request.specs.zst_codes.declared.nx_proof.NxProofKind.TheVariants as kinds
use Rattle.zst_request.specs.zst_denial.Denials.{IsNsecDenial}
use Rattle.zst_request.specs.zst_denial.HashDenials.{IsNsec3Denial}
use Rattle.zst_request.specs.zst_denial.Octets.{octets_of}
use Rattle.zst_request.specs.zst_handler.Answers.{sets_shown}
use Rattle.zst_request.specs.zst_handler.Zones.{Zone}
use Rattle.zsv_reply.specs.drd_rdata.declared.rdata.RData.{RData}
use Rattle.zsv_reply.specs.zst_record.RecordSets.{RRset}
use Rattle.zsv_reply.specs.zst_record.declared.records.Record.{Record}

-- ---- whether an answer is a wildcard's
-- The fourth octet of an RRSIG's RDATA counts the labels of the name that was signed (RFC 4034,
-- section 3.1.3).
abbrev pub fourth : Option (List ℕ) → Option ℕ
fourth None = None
fourth (Some octets) = slice_get octets 3

abbrev pub signed_labels : RData → Option ℕ
signed_labels rdata = fourth (octets_of RRSIG rdata)

abbrev pub is_fewer : Option ℕ → ℕ → Bool
is_fewer None all = false
is_fewer (Some count) all = nat_lt count all

-- A wildcard's records were signed under fewer labels than their owner has (RFC 4035, section
-- 5.3.4).
abbrev pub is_expanded : List Record → Bool
is_expanded records = list_any (λ r. is_fewer (signed_labels r.rdata) (num_labels r.name)) records

-- ---- which records deny
-- By the zone's kind of proof. Names are hashed in lower case (RFC 5155, section 5).
abbrev pub IsDenial : Option NxProofKind → Zone → DomainName → RecordType → Bool → List RRset
    → Type 0
IsDenial None zone name t wild sets = sets ≡ []
IsDenial (Some kinds.Nsec) zone name t wild sets = IsNsecDenial zone name sets
IsDenial (Some (kinds.Nsec3 algorithm salt iterations opt_out)) zone name t wild sets =
    IsNsec3Denial (record { salt = salt; iterations = iterations }) zone (lowercase_name name) t
    wild sets

-- They are shown to whom asks for signatures, with theirs (RFC 4035, section 3.1).
abbrev pub DenialRecords : View → Bool → DomainName → RecordType → Bool → List Record → Type 0
DenialRecords view false name t wild records = records ≡ []
DenialRecords (Stored zone) true name t wild records =
    (sets : List RRset) × IsDenial zone.nx_proof_kind zone name t wild sets
    × (records ≡ sets_shown true sets)
DenialRecords (Blocked blocklist) true name t wild records = records ≡ []

abbrev pub is_by_hash : Option NxProofKind → Bool
is_by_hash (Some (kinds.Nsec3 algorithm salt iterations opt_out)) = true
is_by_hash other = false

-- An answer has them where it is a wildcard's, or where the zone's proofs are by hash.
abbrev pub AnswerDenial : View → Bool → DomainName → RecordType → List Record → List Record → Type 0
AnswerDenial view dnssec_ok name t answers records =
    MatchBool (is_expanded answers || is_by_hash (nx_proof_kind_of view))
    (DenialRecords view dnssec_ok name t (is_expanded answers) records) (records ≡ [])
