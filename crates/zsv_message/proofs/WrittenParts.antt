-- Records, options and signatures stand where they were written.
use Rattle.std.proofs.Common.{◌≡◌, ℕ, ◌+◌, ◌^◌, ◌<◌, ◌∙◌, ◌==◌, Bool, true, false, inl, inr, List, [], ◌∷◌, ◌++◌, length, refl, sym, ap, subst, arith}
use Rattle.std.proofs.lemmas.Bool.{eqb-true}
use Rattle.std.specs.Prelude.{Option, Some, unwrap_or, find, if◌then◌else◌}
use Rattle.zsv_sections.specs.zst_record.dnw_codes.DNSClass.{class_number, class_of, named_classes}
use Rattle.zsv_sections.specs.zst_record.dnw_codes.RecordType.{record_type_number}
use Rattle.zsv_sections.specs.zst_record.dnw_codes.declared.dns_class.DNSClass.{DNSClass}
use Rattle.zsv_sections.specs.zst_record.dnw_codes.declared.dns_class.DNSClass.TheVariants.{Unknown}
use Rattle.zsv_sections.specs.zst_record.dnw_codes.declared.error.ProtoError.{ProtoError}
use Rattle.zsv_sections.specs.zst_record.dnw_codes.declared.error.ProtoError.TheVariants.{Message}
use Rattle.zsv_sections.specs.zst_record.dnw_codes.declared.record_type.RecordType.TheVariants as kind
use Rattle.zsv_sections.specs.zst_record.dnw_decoder.Octets.{octets_16, octets_32, Stands}
use Rattle.zsv_sections.specs.zst_record.dnw_decoder.Spelling.{at_end}
use Rattle.zsv_sections.specs.zst_record.dnw_name.DomainName.{domain_name}
use Rattle.zsv_sections.proofs.zst_record_lemmas.dnw_decoder_lemmas.Standing.{stands_split, stands_within}
use Rattle.zsv_sections.specs.zst_record.dnw_encoder.Effects.{IsRefusal, Writes}
use Rattle.zsv_sections.proofs.zst_record_lemmas.dnw_encoder_lemmas.Laws.{holds_map, puts_stands}
use Rattle.zsv_sections.specs.zst_record.dnw_encoder.State.{State, is_lower}
use Rattle.zsv_sections.specs.zst_record.drd_rdata.Reading.{RDataAt}
use Rattle.zsv_sections.specs.zst_record.drd_rdata.Writing.{WritesInFull}
use Rattle.zsv_sections.specs.zst_record.drd_rdata.declared.rdata.RData.TheVariants as rdata
use Rattle.zsv_sections.proofs.zst_record_lemmas.BackLaws.{servable_back}
use Rattle.zsv_sections.specs.zst_record.Records.{RecordAt, IsServable, plain}
use Rattle.zsv_sections.specs.zst_record.Writing.{EmitsRecord, RefusesRecord}
use Rattle.zst_edns.specs.Edns.{IsEdnsOf, edns_ttl}
use Rattle.zst_edns.specs.Writing.{EdnsReadsBack, EmitsEdns, FitsFields, RefusesEdns, edns_data, opt_head, opt_octets}
use Rattle.zst_edns.specs.declared.edns.Edns.{Edns}
use Rattle.zst_edns.proofs.WritingLaws.{options_read}
use Rattle.zsv_sections.specs.zsv_parts.declared.tsig.TsigRecord.{TsigRecord}
use Rattle.zsv_sections.specs.zsv_parts.SignatureRecords.{EmitsTsigRecord, RefusesTsigRecord, TsigReadsBack, TsigRecordAt, tsig_record_octets}
use Rattle.zsv_message.specs.Messages.{OptAt}
use Rattle.zsv_message.proofs.Listed.{Standing}

-- An encoder that writes names in full, within a maximum that was set.
pub record IsSet (s : State) : Type 0 where
  pub in_full : WritesInFull s
  pub small : s.maximum < 2 ^ 16

pub set_then : (old new : State) → IsSet old → Writes old new → IsSet new
set_then old new f w = record {
  in_full = record {
    sound = w.sound f.in_full.sound;
    own = w.modes.canonical ∙ f.in_full.own;
    same_case = ap is_lower w.modes.encoding ∙ f.in_full.same_case;
  };
  small = omega (arith, w.modes.maximum, f.small);
}

pub records_stand : Standing IsSet RecordAt plain IsServable EmitsRecord RefusesRecord
records_stand = record {
  goes_on = set_then;
  stays = λ r old new one alone f. one.stays (servable_back r alone) f.in_full f.small;
  size = λ r old new one alone. one.size (servable_back r alone);
  fits = λ r old new one. one.fits;
  refused = λ r old e refused alone small. refused.whole (servable_back r alone) small;
}

-- The number of the class of a number is that number.
number_by : (b : Bool) (named : DNSClass) (n : ℕ) (found : Option DNSClass) → (b ≡ true → class_number named ≡ n) → class_number (unwrap_or found (Unknown n)) ≡ n → class_number (unwrap_or (if b then Some named else found) (Unknown n)) ≡ n
number_by true named n found is other = is refl
number_by false named n found is other = other

class_found : (n : ℕ) (named : List DNSClass) → class_number (unwrap_or (find (λ class. class_number class == n) named) (Unknown n)) ≡ n
class_found n [] = refl
class_found n (class ∷ classes) =
    number_by (class_number class == n) class n (find (λ class. class_number class == n) classes) (eqb-true (class_number class) n) (class_found n classes)

class_back : (n : ℕ) → class_number (class_of n) ≡ n
class_back n = class_found n named_classes

-- Where the octets of an OPT record stand, the record is read.
opt_at : (edns : Edns) (message : List ℕ) (place end : ℕ) → FitsFields edns → EdnsReadsBack edns → Stands message place (opt_octets edns) end → OptAt message place edns end
opt_at edns message place end fields back there =
    let n = length (edns_data edns) in
    let type_octets = octets_16 (record_type_number kind.OPT) in
    let class_octets = octets_16 edns.max_payload in
    let ttl_octets = octets_32 (edns_ttl edns) in
    let both = stands_split message place (opt_head edns n) (edns_data edns) end there in
    let owner = stands_split message place (0 ∷ []) (type_octets ++ (class_octets ++ (ttl_octets ++ octets_16 n))) (place + length (opt_head edns n)) both.0 in
    let typed = stands_split message (place + 1) type_octets (class_octets ++ (ttl_octets ++ octets_16 n)) (place + length (opt_head edns n)) owner.1 in
    let classed = stands_split message (place + 1 + 2) class_octets (ttl_octets ++ octets_16 n) (place + length (opt_head edns n)) typed.1 in
    let timed = stands_split message (place + 1 + 2 + 2) ttl_octets (octets_16 n) (place + length (opt_head edns n)) classed.1 in
    let inside = stands_within message place (0 ∷ []) (place + 1) (omega arith) owner.0 in
    record {
      standing = record {
        name = domain_name true [];
        dns_class = class_of edns.max_payload;
        ttl = edns_ttl edns;
        rdata = rdata.OPT edns.options;
      };
      there = record {
        owner_end = place + 1;
        type_end = place + 1 + 2;
        class_end = place + 1 + 2 + 2;
        ttl_end = place + 1 + 2 + 2 + length ttl_octets;
        first = place + length (opt_head edns n);
        len = n;
        owner = record { full = refl; spelled = at_end (omega (arith, inside)) owner.0; size = omega arith };
        record_type = record { number = record_type_number kind.OPT; small = omega arith; there = typed.0; means = refl };
        dns_class = record { number = edns.max_payload; small = fields.payload; there = classed.0; means = refl };
        ttl = timed.0;
        small_ttl = fields.ttl;
        count = timed.1;
        small_len = back.counted;
        rdata = elim (options_read edns message (place + length (opt_head edns n)) end back both.1) [
          | inl none ↦ inl (none.0, (edns.options, refl, none.1))
          | inr some ↦ inr (some.0, (refl, subst (λ (behind : ℕ). RDataAt message (place + length (opt_head edns n)) (rdata.OPT edns.options) behind) both.1.behind some.1))
        ];
        filled = both.1.behind;
      };
      owner = refl;
      says = (refl, subst (λ (class : ℕ). IsEdnsOf class (edns_ttl edns) edns) (sym (class_back edns.max_payload)) (fields.back back.flags));
    }

-- Options that read back are refused for room or for want of memory.
room_wanted : (edns : Edns) (old : State) (e : ProtoError) → RefusesEdns edns old e → EdnsReadsBack edns → IsRefusal old (length (opt_octets edns)) e
room_wanted edns old e (inl refused) back = refused
room_wanted edns old (Message words) (inr long) back = absurd (omega (arith, long, back.counted))
room_wanted edns old e (inr long) back = absurd long

pub options_stand : Standing IsSet OptAt (λ edns. length (opt_octets edns)) EdnsReadsBack EmitsEdns RefusesEdns
options_stand = record {
  goes_on = set_then;
  stays = λ edns old new one back f.
      holds_map new.offset new (λ message. Stands message old.offset (opt_octets edns) new.offset) (λ message. OptAt message old.offset edns new.offset)
      (λ message there. opt_at edns message old.offset new.offset one.fields back there) (puts_stands (opt_octets edns) old new f.in_full.sound one.octets);
  size = λ edns old new one back. omega (arith, one.octets.offset);
  fits = λ edns old new one. one.fits;
  refused = λ edns old e refused back small. room_wanted edns old e refused back;
}

-- A signature that reads back is refused for room or for want of memory.
sign_wanted : (r : TsigRecord) (old : State) (e : ProtoError) → RefusesTsigRecord r old e → TsigReadsBack r → IsRefusal old (length (tsig_record_octets r)) e
sign_wanted r old e (inl refused) back = refused.1
sign_wanted r old e (inr long) back = absurd (omega (arith, long.0, back.counted))

pub signature_stands : Standing IsSet TsigRecordAt (λ r. length (tsig_record_octets r)) TsigReadsBack EmitsTsigRecord RefusesTsigRecord
signature_stands = record {
  goes_on = set_then;
  stays = λ r old new one back f. one.stays f.in_full.sound back;
  size = λ r old new one back. omega (arith, one.exact.offset);
  fits = λ r old new one. one.fits;
  refused = λ r old e refused back small. sign_wanted r old e refused back;
}
