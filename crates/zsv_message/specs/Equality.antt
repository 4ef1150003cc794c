-- Messages that are equal, field by field, their records in order.
use Rattle.std.specs.Prelude.{Bool, nat_eq}
use Rattle.std.specs.Bool.{beq}
use Rattle.std.specs.Cmp.Lexicographic.{pointwise}
use Rattle.std.specs.Option.{option_eq}
use Rattle.std.specs.Ordering.{eq_of_both, on}
use Rattle.drd_types.specs.drd_opt.Equality.{same_entries}
use Rattle.zsv_sections.specs.zst_record.dnw_codes.DNSClass.{same_class}
use Rattle.zsv_sections.specs.zst_record.dnw_name.DomainName.{name_eq}
use Rattle.zsv_sections.specs.zst_record.Records.{record_eq}
use Rattle.zst_edns.specs.declared.edns.Edns.{Edns}
use Rattle.zst_edns.specs.declared.edns_flags.EdnsFlags.{EdnsFlags}
use Rattle.zsv_sections.specs.zsv_parts.declared.header.Metadata.{Metadata}
use Rattle.zsv_sections.specs.zsv_parts.declared.tsig.Tsig.{Tsig}
use Rattle.zsv_sections.specs.zsv_parts.declared.tsig.TsigRecord.{TsigRecord}
use Rattle.zsv_sections.specs.zsv_parts.zst_codes.ResponseCode.{same_response_code}
use Rattle.zsv_sections.specs.zsv_parts.Headers.{is_response, same_op_code}
use Rattle.zsv_sections.specs.zsv_parts.Questions.{asked_eq}
use Rattle.zsv_message.specs.Messages.{Message}

-- What header and options say: operations and response codes are equal where their numbers are.
abbrev pub metadata_eq : Metadata → Metadata → Bool
metadata_eq =
    eq_of_both (on (λ m. m.id) nat_eq)
    (eq_of_both (on (λ m. is_response m.message_type) beq)
    (eq_of_both (on (λ m. m.op_code) same_op_code)
    (eq_of_both (on (λ m. m.authoritative) beq)
    (eq_of_both (on (λ m. m.truncation) beq)
    (eq_of_both (on (λ m. m.recursion_desired) beq)
    (eq_of_both (on (λ m. m.recursion_available) beq)
    (eq_of_both (on (λ m. m.authentic_data) beq)
    (eq_of_both (on (λ m. m.checking_disabled) beq)
    (on (λ m. m.response_code) same_response_code)))))))))

-- The flags of EDNS: DO, and the other bits.
abbrev pub flags_eq : EdnsFlags → EdnsFlags → Bool
flags_eq = eq_of_both (on (λ f. f.dnssec_ok) beq) (on (λ f. f.z) nat_eq)

-- EDNS: its options in whatever order.
abbrev pub edns_eq : Edns → Edns → Bool
edns_eq =
    eq_of_both (on (λ e. e.rcode_high) nat_eq)
    (eq_of_both (on (λ e. e.version) nat_eq)
    (eq_of_both (on (λ e. e.flags) flags_eq)
    (eq_of_both (on (λ e. e.max_payload) nat_eq)
    (on (λ e. e.options) (λ a b. same_entries a.options.items b.options.items)))))

-- The data of a signature.
abbrev pub tsig_eq : Tsig → Tsig → Bool
tsig_eq =
    eq_of_both (on (λ t. t.algorithm) name_eq)
    (eq_of_both (on (λ t. t.time) nat_eq)
    (eq_of_both (on (λ t. t.fudge) nat_eq)
    (eq_of_both (on (λ t. t.mac.items) (pointwise nat_eq))
    (eq_of_both (on (λ t. t.oid) nat_eq)
    (eq_of_both (on (λ t. t.error) nat_eq) (on (λ t. t.other.items) (pointwise nat_eq)))))))

-- A signature, its time to live too.
abbrev pub signature_eq : TsigRecord → TsigRecord → Bool
signature_eq =
    eq_of_both (on (λ r. r.name) name_eq)
    (eq_of_both (on (λ r. r.dns_class) same_class)
    (eq_of_both (on (λ r. r.ttl) nat_eq) (on (λ r. r.rdata) tsig_eq)))

-- What header and options say, and the questions and their octets.
abbrev pub fronts_eq : Message → Message → Bool
fronts_eq = eq_of_both (on (λ m. m.metadata) metadata_eq) (on (λ m. m.asked) asked_eq)

-- The records of each section, in order and but for their times to live.
abbrev pub records_eq : Message → Message → Bool
records_eq =
    eq_of_both (on (λ m. m.answers) (pointwise record_eq))
    (eq_of_both (on (λ m. m.authorities) (pointwise record_eq))
    (on (λ m. m.additionals) (pointwise record_eq)))

-- The options and the signature.
abbrev pub ends_eq : Message → Message → Bool
ends_eq =
    eq_of_both (on (λ m. m.edns) (option_eq edns_eq))
    (on (λ m. m.signature) (option_eq signature_eq))

-- Two messages are equal where all of this is.
abbrev pub message_eq : Message → Message → Bool
message_eq = eq_of_both fronts_eq (eq_of_both records_eq ends_eq)
