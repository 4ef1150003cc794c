-- A message that is written part by part.
use Rattle.std.proofs.Common.{◌≡◌, ℕ, ◌+◌, ◌^◌, ◌<◌, ◌≤◌, ◌∙◌, ◌++◌, length, subst, arith}
use Rattle.std.specs.List.{sum_by}
use Rattle.std.specs.Prelude.{option_to_list}
use Rattle.zsv_sections.specs.zst_record.dnw_codes.declared.error.ProtoError.{ProtoError}
use Rattle.zsv_sections.specs.zst_record.dnw_decoder.Octets.{Stands}
use Rattle.zsv_sections.proofs.zst_record_lemmas.dnw_decoder_lemmas.Standing.{stands_split}
use Rattle.zsv_sections.specs.zst_record.dnw_encoder.Effects.{Emitted, IsRefusal, Sound, StaysTrue, Writes, WritesOctets}
use Rattle.zsv_sections.proofs.zst_record_lemmas.dnw_encoder_lemmas.Laws.{holds_more, holds_written, puts_stands, writes_then}
use Rattle.zsv_sections.specs.zst_record.dnw_encoder.State.{State}
use Rattle.zsv_sections.specs.zst_record.drd_rdata.Writing.{WritesInFull}
use Rattle.zsv_sections.specs.zst_record.Records.{IsServable, RecordAt, plain}
use Rattle.zsv_sections.specs.zst_record.Writing.{EmitsRecord, RefusesRecord}
use Rattle.zst_edns.specs.Writing.{EdnsReadsBack, EmitsEdns, RefusesEdns, opt_octets}
use Rattle.zst_edns.specs.declared.edns.Edns.{Edns}
use Rattle.zsv_sections.specs.zsv_parts.declared.tsig.TsigRecord.{TsigRecord}
use Rattle.zsv_sections.specs.zsv_parts.Headers.{header_octets}
use Rattle.zsv_sections.specs.zsv_parts.SignatureRecords.{EmitsTsigRecord, RefusesTsigRecord, TsigReadsBack, TsigRecordAt, tsig_record_octets}
use Rattle.zsv_message.specs.Messages.{Message, OptAt}
use Rattle.zsv_message.specs.Writing.{EmitsMessage, IsCountable, IsNotWhole, MessageAt, ReadsBack, RefusesPart, all_records, front_octets, header_over, message_size, no_front, no_options, no_record, no_signature}
use Rattle.zsv_message.proofs.ReadAgain.{message_again}
use Rattle.zsv_message.proofs.WrittenHeaders.{header_back, header_stands}
use Rattle.zsv_message.proofs.Listed.{emitted_writes, entries_split, list_fits, list_refused, list_size, list_stands, refusal_behind, refusal_more}
use Rattle.zsv_message.proofs.WrittenParts.{IsSet, options_stand, records_stand, set_then, signature_stands}

-- The steps in which it is written: header and questions, the records, the options, the signature.
pub record Steps (m : Message) (old start behind last new : State) : Type 0 where
  pub countable : IsCountable m
  pub id : m.metadata.id < 2 ^ 16
  pub few : length m.asked.questions < 2 ^ 16
  pub front : WritesOctets (front_octets m) old start
  pub begins : Writes old start
  pub room : old.offset + (12 + length m.asked.octets) ≤ old.maximum
  pub records : Emitted EmitsRecord start (all_records m) behind
  pub edns : Emitted EmitsEdns behind (option_to_list m.edns) last
  pub signature : Emitted EmitsTsigRecord last (option_to_list m.signature) new

-- What follows each of them.
pub record Later (start behind last new : State) : Type 0 where
  pub records : Writes start behind
  pub edns : Writes behind last
  pub signature : Writes last new
  pub behind_records : Writes behind new
  pub behind_front : Writes start new

later : (m : Message) (old start behind last new : State) → Steps m old start behind last new → Later start behind last new
later m old start behind last new s =
    let one = emitted_writes EmitsRecord (all_records m) start behind s.records in
    let two = emitted_writes EmitsEdns (option_to_list m.edns) behind last s.edns in
    let three = emitted_writes EmitsTsigRecord (option_to_list m.signature) last new s.signature in
    record {
      records = one;
      edns = two;
      signature = three;
      behind_records = writes_then behind last new two three;
      behind_front = writes_then start behind new one (writes_then behind last new two three);
    }

-- The octets of header and questions stand there.
front_stands : (m : Message) (old start behind last new : State) → Steps m old start behind last new → Later start behind last new → Sound old → StaysTrue new new.offset (λ message. Stands message old.offset (front_octets m) start.offset)
front_stands m old start behind last new s l sound =
    holds_more start.offset new.offset new _ l.behind_front.forward (holds_written start.offset start new _ l.behind_front (omega arith) (puts_stands (front_octets m) old start sound s.front))

-- The message stands there.
message_stands : (m : Message) (old start behind last new : State) → Steps m old start behind last new → Later start behind last new → ReadsBack m → WritesInFull old → old.maximum < 2 ^ 16 → StaysTrue new new.offset (λ message. MessageAt message old.offset m new.offset)
message_stands m old start behind last new s l back full small =
    let at_start = set_then old start (record { in_full = full; small = small }) s.begins in
    let at_records = set_then start behind at_start l.records in
    let at_options = set_then behind last at_records l.edns in
    let front = front_stands m old start behind last new s l full.sound in
    let records = holds_more behind.offset new.offset new _ l.behind_records.forward (holds_written behind.offset behind new _ l.behind_records (omega arith) (list_stands IsSet RecordAt plain IsServable EmitsRecord RefusesRecord records_stand (all_records m) start behind back.records at_start s.records)) in
    let options = holds_more last.offset new.offset new _ l.signature.forward (holds_written last.offset last new _ l.signature (omega arith) (list_stands IsSet OptAt (λ (edns : Edns). length (opt_octets edns)) EdnsReadsBack EmitsEdns RefusesEdns options_stand (option_to_list m.edns) behind last back.edns at_records s.edns)) in
    let signature = list_stands IsSet TsigRecordAt (λ (r : TsigRecord). length (tsig_record_octets r)) TsigReadsBack EmitsTsigRecord RefusesTsigRecord signature_stands (option_to_list m.signature) last new back.signature at_options s.signature in
    record {
      of = λ message a.
          let both = stands_split message old.offset (header_octets (header_over m)) m.asked.octets start.offset (front.of message a) in
          let one = entries_split (RecordAt message) start.offset m.answers (m.authorities ++ m.additionals) behind.offset (records.of message a) in
          let two = entries_split (RecordAt message) one.0 m.authorities m.additionals behind.offset one.2 in
          record {
            questions_end = start.offset;
            answers_end = one.0;
            authorities_end = two.0;
            additionals_end = behind.offset;
            edns_end = last.offset;
            header = header_stands m message old.offset start.offset (λ rest. header_back m rest s.countable back s.id s.few) (front.of message a);
            questions = both.1;
            answers = one.1;
            authorities = two.1;
            additionals = two.2;
            edns = options.of message a;
            signature = signature.of message a;
          };
    }

pub steps_emit : (m : Message) (old start behind last new : State) → Steps m old start behind last new → EmitsMessage m old new
steps_emit m old start behind last new s =
    let l = later m old start behind last new s in
    let far : start.offset ≡ old.offset + length (front_octets m) = s.front.offset in
    let one = list_fits IsSet RecordAt plain IsServable EmitsRecord RefusesRecord records_stand (all_records m) start behind (omega (arith, far, s.room, s.begins.modes.maximum)) s.records in
    let two = list_fits IsSet OptAt (λ (edns : Edns). length (opt_octets edns)) EdnsReadsBack EmitsEdns RefusesEdns options_stand (option_to_list m.edns) behind last (omega (arith, one, l.records.modes.maximum)) s.edns in
    let three = list_fits IsSet TsigRecordAt (λ (r : TsigRecord). length (tsig_record_octets r)) TsigReadsBack EmitsTsigRecord RefusesTsigRecord signature_stands (option_to_list m.signature) last new (omega (arith, two, l.edns.modes.maximum)) s.signature in
    record {
      countable = s.countable;
      fits = omega (arith, three, l.edns.modes.maximum, l.records.modes.maximum, s.begins.modes.maximum);
      front = λ sound. subst (λ (end : ℕ). StaysTrue new new.offset (λ message. Stands message old.offset (front_octets m) end)) far (front_stands m old start behind last new s l sound);
      stays = λ back full small. message_stands m old start behind last new s l back full small;
      again = λ back full small at_front octets is far. message_again m old new (message_stands m old start behind last new s l back full small) at_front back octets is far;
      size = λ back.
          let first = list_size IsSet RecordAt plain IsServable EmitsRecord RefusesRecord records_stand (all_records m) start behind back.records s.records in
          let second = list_size IsSet OptAt (λ (edns : Edns). length (opt_octets edns)) EdnsReadsBack EmitsEdns RefusesEdns options_stand (option_to_list m.edns) behind last back.edns s.edns in
          let third = list_size IsSet TsigRecordAt (λ (r : TsigRecord). length (tsig_record_octets r)) TsigReadsBack EmitsTsigRecord RefusesTsigRecord signature_stands (option_to_list m.signature) last new back.signature s.signature in
          omega (arith, far, first, second, third);
    }

-- Why a part is refused, where each reads back.
part_refused : (m : Message) (old : State) (e : ProtoError) → RefusesPart m old e → ReadsBack m → old.maximum < 2 ^ 16 → IsRefusal old (message_size m) e
part_refused m old e (no_front refused) back small =
    refusal_more (12 + length m.asked.octets) (message_size m) old e (omega arith) refused
part_refused m old e (no_record start front among) back small =
    let records = sum_by plain (all_records m) in
    let refused = list_refused IsSet RecordAt plain IsServable EmitsRecord RefusesRecord records_stand (all_records m) start e back.records (omega (arith, small, front.modes.maximum)) among in
    refusal_more (12 + length m.asked.octets + records) (message_size m) old e (omega arith)
    (refusal_behind (12 + length m.asked.octets) records old start e front.modes.maximum (omega (arith, front.offset)) refused)
part_refused m old e (no_options start behind front written among) back small =
    let records = sum_by plain (all_records m) in
    let options = sum_by (λ (edns : Edns). length (opt_octets edns)) (option_to_list m.edns) in
    let w = emitted_writes EmitsRecord (all_records m) start behind written in
    let far = list_size IsSet RecordAt plain IsServable EmitsRecord RefusesRecord records_stand (all_records m) start behind back.records written in
    let same : behind.maximum ≡ old.maximum = w.modes.maximum ∙ front.modes.maximum in
    let refused = list_refused IsSet OptAt (λ (edns : Edns). length (opt_octets edns)) EdnsReadsBack EmitsEdns RefusesEdns options_stand (option_to_list m.edns) behind e back.edns (omega (arith, small, same)) among in
    refusal_more (12 + length m.asked.octets + records + options) (message_size m) old e (omega arith)
    (refusal_behind (12 + length m.asked.octets + records) options old behind e same (omega (arith, front.offset, far)) refused)
part_refused m old e (no_signature start behind last front written optioned among) back small =
    let records = sum_by plain (all_records m) in
    let options = sum_by (λ (edns : Edns). length (opt_octets edns)) (option_to_list m.edns) in
    let signature = sum_by (λ (r : TsigRecord). length (tsig_record_octets r)) (option_to_list m.signature) in
    let w = emitted_writes EmitsRecord (all_records m) start behind written in
    let v = emitted_writes EmitsEdns (option_to_list m.edns) behind last optioned in
    let far = list_size IsSet RecordAt plain IsServable EmitsRecord RefusesRecord records_stand (all_records m) start behind back.records written in
    let further = list_size IsSet OptAt (λ (edns : Edns). length (opt_octets edns)) EdnsReadsBack EmitsEdns RefusesEdns options_stand (option_to_list m.edns) behind last back.edns optioned in
    let same : last.maximum ≡ old.maximum = v.modes.maximum ∙ w.modes.maximum ∙ front.modes.maximum in
    let refused = list_refused IsSet TsigRecordAt (λ (r : TsigRecord). length (tsig_record_octets r)) TsigReadsBack EmitsTsigRecord RefusesTsigRecord signature_stands (option_to_list m.signature) last e back.signature (omega (arith, small, same)) among in
    refusal_more (12 + length m.asked.octets + records + options + signature) (message_size m) old e (omega arith)
    (refusal_behind (12 + length m.asked.octets + records + options) signature old last e same (omega (arith, front.offset, far, further)) refused)

pub not_whole : (m : Message) (old : State) (e : ProtoError) → IsCountable m → RefusesPart m old e → IsNotWhole m old e
not_whole m old e few part = record {
  countable = few;
  part = part;
  room = λ back small. part_refused m old e part back small;
}
