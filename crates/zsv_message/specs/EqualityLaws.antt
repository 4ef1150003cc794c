-- Equality of messages holds of each and itself, both ways round, and along a chain.
use Rattle.std.specs.Cmp.{IsEquivalence}
use Rattle.std.specs.Cmp.Lexicographic.{lists_equiv, options_equiv}
use Rattle.std.specs.Cmp.Rules.{comparing}
use Rattle.std.proofs.Common.{rules}
use Rattle.std.proofs.lemmas.Cmp.{and_equiv, nat_eq_equiv, on_equiv}
use Rattle.drd_types.specs.drd_opt.EqualityLaws.{entries_equiv}
use Rattle.zsv_sections.specs.zst_record.RecordLaws.{class_equiv, name_eq_equiv, record_equiv}
use Rattle.zst_edns.specs.declared.edns.Edns.{Edns}
use Rattle.zsv_sections.specs.zsv_parts.declared.tsig.Tsig.{Tsig}
use Rattle.zsv_sections.specs.zsv_parts.declared.tsig.TsigRecord.{TsigRecord}
use Rattle.zsv_sections.specs.zsv_parts.QuestionLaws.{asked_equiv, octets_equiv}
use Rattle.zsv_message.specs.Equality.{edns_eq, ends_eq, flags_eq, fronts_eq, message_eq, metadata_eq, records_eq, signature_eq, tsig_eq}
use Rattle.zsv_message.specs.Messages.{Message}

pub metadata_equiv : IsEquivalence metadata_eq
metadata_equiv = Prim.search (comparing, rules) depth 24

pub flags_equiv : IsEquivalence flags_eq
flags_equiv = Prim.search (comparing, rules)

pub edns_equiv : IsEquivalence edns_eq
edns_equiv =
    and_equiv (on_equiv (λ (e : Edns). e.rcode_high) nat_eq_equiv)
    (and_equiv (on_equiv (λ (e : Edns). e.version) nat_eq_equiv)
    (and_equiv (on_equiv (λ (e : Edns). e.flags) flags_equiv)
    (and_equiv (on_equiv (λ (e : Edns). e.max_payload) nat_eq_equiv)
    (on_equiv (λ (e : Edns). e.options) entries_equiv))))

pub tsig_equiv : IsEquivalence tsig_eq
tsig_equiv =
    and_equiv (on_equiv (λ (t : Tsig). t.algorithm) name_eq_equiv)
    (and_equiv (on_equiv (λ (t : Tsig). t.time) nat_eq_equiv)
    (and_equiv (on_equiv (λ (t : Tsig). t.fudge) nat_eq_equiv)
    (and_equiv (on_equiv (λ (t : Tsig). t.mac.items) octets_equiv)
    (and_equiv (on_equiv (λ (t : Tsig). t.oid) nat_eq_equiv)
    (and_equiv (on_equiv (λ (t : Tsig). t.error) nat_eq_equiv)
    (on_equiv (λ (t : Tsig). t.other.items) octets_equiv))))))

pub signature_equiv : IsEquivalence signature_eq
signature_equiv =
    and_equiv (on_equiv (λ (r : TsigRecord). r.name) name_eq_equiv)
    (and_equiv (on_equiv (λ (r : TsigRecord). r.dns_class) class_equiv)
    (and_equiv (on_equiv (λ (r : TsigRecord). r.ttl) nat_eq_equiv)
    (on_equiv (λ (r : TsigRecord). r.rdata) tsig_equiv)))

pub fronts_equiv : IsEquivalence fronts_eq
fronts_equiv =
    and_equiv (on_equiv (λ (m : Message). m.metadata) metadata_equiv)
    (on_equiv (λ (m : Message). m.asked) asked_equiv)

pub records_equiv : IsEquivalence records_eq
records_equiv =
    and_equiv (on_equiv (λ (m : Message). m.answers) (lists_equiv record_equiv))
    (and_equiv (on_equiv (λ (m : Message). m.authorities) (lists_equiv record_equiv))
    (on_equiv (λ (m : Message). m.additionals) (lists_equiv record_equiv)))

pub ends_equiv : IsEquivalence ends_eq
ends_equiv =
    and_equiv (on_equiv (λ (m : Message). m.edns) (options_equiv edns_equiv))
    (on_equiv (λ (m : Message). m.signature) (options_equiv signature_equiv))

pub message_equiv : IsEquivalence message_eq
message_equiv = and_equiv fronts_equiv (and_equiv records_equiv ends_equiv)
