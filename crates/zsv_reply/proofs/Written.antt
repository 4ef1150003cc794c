-- A reply that was written is a reply to its request.
use Rattle.std.proofs.Common.{ℕ, Bool, ◌+◌, ◌≤◌, ◌∙◌, List, length, refl, subst, sym, arith}
use Rattle.std.specs.Prelude.{option_to_list}
use Rattle.zsv_request.specs.zsv_message.zst_record.dnw_decoder.Octets.{Stands}
use Rattle.zsv_request.specs.zsv_message.zst_record.Records.{IsServable, plain}
use Rattle.zsv_request.specs.zsv_message.zst_record.Writing.{EmitsRecord, RefusesRecord}
use Rattle.zsv_request.specs.zsv_message.Messages.{OptAt}
use Rattle.zsv_request.specs.zsv_message.zst_edns.Writing.{EdnsReadsBack, EmitsEdns, RefusesEdns}
use Rattle.zsv_request.specs.zsv_message.zsv_parts.Headers.{FitsOpCode}
use Rattle.zsv_request.specs.zsv_message.zsv_parts.Questions.{Asked, AskedAt}
use Rattle.zsv_request.proofs.zsv_message_lemmas.zsv_parts_lemmas.Pieces.{SameThere}
use Rattle.zsv_request.proofs.zsv_message_lemmas.zsv_parts_lemmas.QuestionsOver.{questions_over}
use Rattle.zsv_request.specs.zsv_message.zsv_parts.SignatureRecords.{EmitsTsigRecord, RefusesTsigRecord, TsigReadsBack, TsigRecordAt}
use Rattle.zsv_request.specs.zsv_message.zsv_parts.declared.header.Header.{Header}
use Rattle.zsv_reply.specs.Replies.{Fronts, FrontsAt, ReplyParts, ReplyRecordAt, IsReply, leaves_room, opt_plain, tsig_plain}
use Rattle.zsv_reply.specs.Writing.{IsEncoded, LeadsRecords}
use Rattle.zsv_reply.proofs.FrontLaws.{IsSet, front_forward}
use Rattle.zsv_reply.proofs.OptRecords.{options_stand, records_stand, signature_stands}

-- A reply ends at the place of its fronts or behind it.
pub fronts_forward : (points : Bool) (reply : List ℕ) (limit place : ℕ) (parts : ReplyParts) (kept : Fronts) → FrontsAt points reply limit place parts kept → place ≤ length reply
fronts_forward points reply limit place parts kept f =
    omega (
      arith,
      front_forward (LeadsRecords points place) (ReplyRecordAt points place) plain IsServable EmitsRecord RefusesRecord (records_stand points place) reply limit place parts.answers kept.answers f.answers_end f.answers,
      front_forward (LeadsRecords points place) (ReplyRecordAt points place) plain IsServable EmitsRecord RefusesRecord (records_stand points place) reply limit f.answers_end parts.authorities kept.authorities f.authorities_end f.authorities,
      front_forward (LeadsRecords points place) (ReplyRecordAt points place) plain IsServable EmitsRecord RefusesRecord (records_stand points place) reply limit f.authorities_end parts.additionals kept.additionals f.additionals_end f.additionals,
      front_forward IsSet OptAt opt_plain EdnsReadsBack EmitsEdns RefusesEdns options_stand reply limit f.additionals_end (option_to_list parts.edns) kept.edns f.edns_end f.edns,
      front_forward IsSet TsigRecordAt tsig_plain TsigReadsBack EmitsTsigRecord RefusesTsigRecord signature_stands reply limit f.edns_end (option_to_list parts.signature) kept.signature (length reply) f.signature,
    )

-- A reply that was encoded, to the questions of a message, is a reply to it where four bits hold its opcode.
pub reply_of_encoded : (message reply : List ℕ) (info : Header) (parts : ReplyParts) (asked : Asked) (limit count end : ℕ) → AskedAt message 12 count asked end → FitsOpCode parts.metadata →
    IsEncoded info reply parts asked limit → IsReply message reply parts asked parts.metadata.id limit
reply_of_encoded message reply info parts asked limit count end is fits e =
    let first = 12 + length asked.octets in
    record {
      within = e.within;
      reserved = e.reserved;
      whole = λ room.
          let w = (e.whole room).written in
          let same : SameThere message reply 12 first = record { octets = asked.octets; in_m = subst (λ (k : ℕ). Stands message 12 asked.octets k) is.octets.behind is.octets; in_n = w.asked } in
          let long = fronts_forward (leaves_room asked) reply limit first parts w.kept w.fronts in
          record {
            questions_end = first;
            kept = w.kept;
            question_octets = w.asked;
            questions = λ there far. (questions_over message reply first same long 12 asked.questions first (omega arith) (omega arith) there far, refl);
            fronts = w.fronts;
            header = w.header fits;
          };
      bare = λ less. let b = e.bare less in (b.long, sym b.header ∙ b.says);
    }
