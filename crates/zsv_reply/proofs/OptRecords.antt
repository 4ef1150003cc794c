-- Records, options of EDNS and signatures stand where they were written.
use Rattle.std.proofs.Common.{◌≡◌, ℕ, ◌+◌, ◌^◌, ◌<◌, ◌≤◌, ◌⊎◌, ◌∙◌, ◌==◌, Bool, true, false, inl, inr, List, [], ◌∷◌, ◌++◌, length, refl, sym, ap, subst, arith}
use Rattle.std.proofs.lemmas.Bool.{eqb-true}
use Rattle.std.specs.Prelude.{Option, Some, unwrap_or, find, if◌then◌else◌}
use Rattle.zsv_request.specs.zsv_message.zst_record.dnw_codes.DNSClass.{class_number, class_of, named_classes}
use Rattle.zsv_request.specs.zsv_message.zst_record.dnw_codes.RecordType.{record_type_number}
use Rattle.zsv_request.specs.zsv_message.zst_record.dnw_codes.declared.dns_class.DNSClass.{DNSClass}
use Rattle.zsv_request.specs.zsv_message.zst_record.dnw_codes.declared.dns_class.DNSClass.TheVariants.{Unknown}
use Rattle.zsv_request.specs.zsv_message.zst_record.dnw_codes.declared.error.ProtoError.{ProtoError}
use Rattle.zsv_request.specs.zsv_message.zst_record.dnw_codes.declared.error.ProtoError.TheVariants.{Message}
use Rattle.zsv_request.specs.zsv_message.zst_record.dnw_codes.declared.record_type.RecordType.TheVariants as kind
use Rattle.zsv_request.specs.zsv_message.zst_record.dnw_decoder.Octets.{octets_16, octets_32, Stands}
use Rattle.zsv_request.specs.zsv_message.zst_record.dnw_decoder.Spelling.{NameAt, at_end}
use Rattle.zsv_request.specs.zsv_message.zst_record.dnw_name.DomainName.{DomainName, domain_name, name_octets}
use Rattle.zsv_request.proofs.zsv_message_lemmas.zst_record_lemmas.dnw_decoder_lemmas.SpellingLaws.{name_once, spelled_within}
use Rattle.zsv_request.proofs.zsv_message_lemmas.zst_record_lemmas.dnw_decoder_lemmas.Standing.{length-octets_32, stands_split, stands_within}
use Rattle.zsv_request.specs.zsv_message.zst_record.dnw_encoder.Effects.{Agrees, Has, IsRefusal, Keeps, RolledBack, Sound, Writes}
use Rattle.zsv_request.proofs.zsv_message_lemmas.zst_record_lemmas.dnw_encoder_lemmas.Laws.{agrees_same, holds_map, holds_now, puts_stands, same_from_keeps}
use Rattle.zsv_request.specs.zsv_message.zst_record.dnw_encoder.State.{State}
use Rattle.zsv_request.specs.zsv_message.zst_record.drd_rdata.Reading.{RDataAt}
use Rattle.zsv_request.specs.zsv_message.zst_record.drd_rdata.Writing.{WritesInFull}
use Rattle.zsv_request.specs.zsv_message.zst_record.drd_rdata.declared.rdata.RData.TheVariants as rdata
use Rattle.zsv_request.proofs.zsv_message_lemmas.zst_record_lemmas.BackLaws.{servable_back}
use Rattle.zsv_request.specs.zsv_message.zst_record.Records.{RecordAt, IsServable, plain}
use Rattle.zsv_request.specs.zsv_message.zst_record.Writing.{EmitsRecord, RefusesRecord}
use Rattle.zsv_request.specs.zsv_message.zst_record.declared.records.Record.{Record}
use Rattle.zsv_request.specs.zsv_message.Messages.{OptAt}
use Rattle.zsv_request.specs.zsv_message.zst_edns.Edns.{IsEdnsOf, edns_ttl}
use Rattle.zsv_request.specs.zsv_message.zst_edns.Writing.{EdnsReadsBack, EmitsEdns, FitsFields, RefusesEdns, edns_data, opt_head, opt_octets}
use Rattle.zsv_request.specs.zsv_message.zst_edns.declared.edns.Edns.{Edns}
use Rattle.zsv_request.proofs.zsv_message_lemmas.zst_edns_lemmas.WritingLaws.{options_read}
use Rattle.zsv_request.specs.zsv_message.zsv_parts.declared.tsig.TsigRecord.{TsigRecord}
use Rattle.zsv_request.specs.zsv_message.zsv_parts.SignatureRecords.{EmitsTsigRecord, RefusesTsigRecord, TsigReadsBack, TsigRecordAt}
use Rattle.zsv_reply.specs.Replies.{ReplyRecordAt, opt_plain, tsig_plain}
use Rattle.zsv_reply.specs.Writing.{LeadsRecords}
use Rattle.zsv_reply.proofs.FrontLaws.{IsSet, Standing, in_full_then, set_then}

-- A record takes at least eleven octets.
record_long : (message : List ℕ) (place : ℕ) (r : Record) (end : ℕ) → RecordAt message place r end → place + 11 ≤ end
record_long message place r end at =
    let name = spelled_within message place (length message) place r.name.labels at.owner_end at.owner.spelled in
    omega (arith, name.0, at.record_type.there.behind, at.dns_class.there.behind, at.ttl.behind, length-octets_32 r.ttl, at.count.behind, at.filled)

-- What agrees with an encoder agrees with it as it was before what was written since.
agrees_before : (old new : State) (later : List ℕ) → Writes old new → Agrees new new.offset later → Agrees old old.offset later
agrees_before old new later w a =
    agrees_same old.offset old.offset old new later (same_from_keeps old.offset old new w.keeps) (omega arith)
    (record { there = λ i lt f. a.there i (omega (arith, lt, w.forward)) f; same = λ i lt f. a.same i (omega (arith, lt, w.forward)) f })

-- A name to which later ones may point stays one.
has_after : (old new : State) (octets : List ℕ) → Sound old → Keeps old.offset old new → Has old.candidates octets → Has new.candidates octets
has_after old new octets sound keeps (c, found, is) = (c, keeps.candidates c found (omega (arith, (sound.stands.each c found).within, sound.at_end)), is)

-- The first record's owner is one, and so a later owner of the same labels is written in two octets.
record_fit : (points : Bool) (first : ℕ) (r : Record) (old new : State) → EmitsRecord r old new → IsServable r → LeadsRecords points first old → Writes old new → LeadsRecords points first new
record_fit points first r old new one alone leads w =
    let here = one.stays (servable_back r alone) leads.in_full leads.small in
    let long = record_long new.octets old.offset r new.offset (holds_now new.offset new _ here) in
    record {
      in_full = in_full_then old new leads.in_full w;
      small = omega (arith, w.modes.maximum, leads.small);
      before = omega (arith, leads.before, w.forward);
      pointing = λ p. w.modes.points ∙ leads.pointing p;
      early = leads.early;
      room = λ p e. absurd (omega (arith, e, long, leads.before));
      known = λ p lt later a name behind at some. elim (first_or_later first old.offset leads.before) [
        | inl e ↦
            let mine = here.of later a in
            let same : r.name ≡ name = (name_once later first r.name name mine.owner_end behind (subst (λ (place : ℕ). NameAt later place r.name mine.owner_end) (sym e) mine.owner) at).0 in
            subst (λ (n : DomainName). Has new.candidates (name_octets n)) same
            (one.owner_kept leads.in_full.sound (leads.pointing p) (omega (arith, some, ap (λ (n : DomainName). length n.labels) same)) (leads.room p (sym e)) (omega (arith, leads.early p, e)))
        | inr more ↦ has_after old new (name_octets name) leads.in_full.sound w.keeps (leads.known p more later (agrees_before old new later w a) name behind at some)
      ];
    }
  where
    first_or_later : (a b : ℕ) → a ≤ b → (a ≡ b) ⊎ (a < b)
    first_or_later a b le = grind (arith, le)

record_back : (points : Bool) (first : ℕ) (mid new : State) → LeadsRecords points first mid → RolledBack mid new → LeadsRecords points first new
record_back points first mid new leads back = record {
  in_full = in_full_then mid new leads.in_full back.writes;
  small = omega (arith, back.writes.modes.maximum, leads.small);
  before = omega (arith, leads.before, back.offset);
  pointing = λ p. back.writes.modes.points ∙ leads.pointing p;
  early = leads.early;
  room = λ p e. omega (arith, back.few, leads.room p (sym back.offset ∙ e));
  known = λ p lt later a name behind at some.
      has_after mid new (name_octets name) leads.in_full.sound back.keeps
      (leads.known p (omega (arith, lt, back.offset)) later (agrees_before mid new later back.writes a) name behind at some);
}

-- An encoder of which no owner is to point to the first.
pub leads_nowhere : (s : State) → WritesInFull s → s.maximum < 2 ^ 16 → LeadsRecords false 0 s
leads_nowhere s full small = record {
  in_full = full;
  small = small;
  before = omega arith;
  pointing = λ p. absurd (cc p);
  early = λ p. absurd (cc p);
  room = λ p. absurd (cc p);
  known = λ p. absurd (cc p);
}

pub records_stand : (points : Bool) (first : ℕ) → Standing (LeadsRecords points first) (ReplyRecordAt points first) plain IsServable EmitsRecord RefusesRecord
records_stand points first = record {
  small = λ s leads. leads.small;
  fit = record_fit points first;
  back = record_back points first;
  stays = λ r old new one alone leads w. record {
    of = λ later a. record {
      there = (one.stays (servable_back r alone) leads.in_full leads.small).of later a;
      owner = λ p lt some behind at. one.owner_used (servable_back r alone) (leads.pointing p) some (leads.known p lt later (agrees_before old new later w a) r.name behind at some);
    };
  };
  size = λ r old new one alone. one.size (servable_back r alone);
  fits = λ r old new one. one.fits;
  refused = λ r old e refused alone small. refused.whole (servable_back r alone) small;
  long = λ message place r end at. record_long message place r end at.there;
}

-- The number of the class of a number is that number.
number_by : (b : Bool) (named : DNSClass) (n : ℕ) (found : Option DNSClass) → (b ≡ true → class_number named ≡ n) → class_number (unwrap_or found (Unknown n)) ≡ n → class_number (unwrap_or (if b then Some named else found) (Unknown n)) ≡ n
number_by true named n found is other = is refl
number_by false named n found is other = other

class_found : (n : ℕ) (named : List DNSClass) → class_number (unwrap_or (find (λ class. class_number class == n) named) (Unknown n)) ≡ n
class_found n [] = refl
class_found n (class ∷ classes) =
    number_by (class_number class == n) class n (find (λ class. class_number class == n) classes) (eqb-true (class_number class) n) (class_found n classes)

class_back : (n : ℕ) → class_number (class_of n) ≡ n
class_back n = class_found n named_classes

-- Where the octets of an OPT record stand, the record is read.
pub opt_at : (edns : Edns) (message : List ℕ) (place end : ℕ) → FitsFields edns → EdnsReadsBack edns → Stands message place (opt_octets edns) end → OptAt message place edns end
opt_at edns message place end fields back there =
    let n = length (edns_data edns) in
    let type_octets = octets_16 (record_type_number kind.OPT) in
    let class_octets = octets_16 edns.max_payload in
    let ttl_octets = octets_32 (edns_ttl edns) in
    let both = stands_split message place (opt_head edns n) (edns_data edns) end there in
    let owner = stands_split message place (0 ∷ []) (type_octets ++ (class_octets ++ (ttl_octets ++ octets_16 n))) (place + length (opt_head edns n)) both.0 in
    let typed = stands_split message (place + 1) type_octets (class_octets ++ (ttl_octets ++ octets_16 n)) (place + length (opt_head edns n)) owner.1 in
    let classed = stands_split message (place + 1 + 2) class_octets (ttl_octets ++ octets_16 n) (place + length (opt_head edns n)) typed.1 in
    let timed = stands_split message (place + 1 + 2 + 2) ttl_octets (octets_16 n) (place + length (opt_head edns n)) classed.1 in
    let inside = stands_within message place (0 ∷ []) (place + 1) (omega arith) owner.0 in
    record {
      standing = record {
        name = domain_name true [];
        dns_class = class_of edns.max_payload;
        ttl = edns_ttl edns;
        rdata = rdata.OPT edns.options;
      };
      there = record {
        owner_end = place + 1;
        type_end = place + 1 + 2;
        class_end = place + 1 + 2 + 2;
        ttl_end = place + 1 + 2 + 2 + length ttl_octets;
        first = place + length (opt_head edns n);
        len = n;
        owner = record { full = refl; spelled = at_end (omega (arith, inside)) owner.0; size = omega arith };
        record_type = record { number = record_type_number kind.OPT; small = omega arith; there = typed.0; means = refl };
        dns_class = record { number = edns.max_payload; small = fields.payload; there = classed.0; means = refl };
        ttl = timed.0;
        small_ttl = fields.ttl;
        count = timed.1;
        small_len = back.counted;
        rdata = elim (options_read edns message (place + length (opt_head edns n)) end back both.1) [
          | inl none ↦ inl (none.0, (edns.options, refl, none.1))
          | inr some ↦ inr (some.0, (refl, subst (λ (behind : ℕ). RDataAt message (place + length (opt_head edns n)) (rdata.OPT edns.options) behind) both.1.behind some.1))
        ];
        filled = both.1.behind;
      };
      owner = refl;
      says = (refl, subst (λ (class : ℕ). IsEdnsOf class (edns_ttl edns) edns) (sym (class_back edns.max_payload)) (fields.back back.flags));
    }

edns_long : (message : List ℕ) (place : ℕ) (edns : Edns) (end : ℕ) → OptAt message place edns end → place + 11 ≤ end
edns_long message place edns end at = record_long message place at.standing end at.there

-- Options that read back are refused for room or for want of memory.
room_wanted : (edns : Edns) (old : State) (e : ProtoError) → RefusesEdns edns old e → EdnsReadsBack edns → IsRefusal old (opt_plain edns) e
room_wanted edns old e (inl refused) back = refused
room_wanted edns old (Message words) (inr long) back = absurd (omega (arith, long, back.counted))
room_wanted edns old e (inr long) back = absurd long

pub options_stand : Standing IsSet OptAt opt_plain EdnsReadsBack EmitsEdns RefusesEdns
options_stand = record {
  small = λ s f. f.small;
  fit = λ edns old new one back f w. set_then old new f w;
  back = λ mid new f back. set_then mid new f back.writes;
  stays = λ edns old new one back f w.
      holds_map new.offset new (λ message. Stands message old.offset (opt_octets edns) new.offset) (λ message. OptAt message old.offset edns new.offset)
      (λ message there. opt_at edns message old.offset new.offset one.fields back there) (puts_stands (opt_octets edns) old new f.in_full.sound one.octets);
  size = λ edns old new one back. omega (arith, one.octets.offset);
  fits = λ edns old new one. one.fits;
  refused = λ edns old e refused back small. room_wanted edns old e refused back;
  long = edns_long;
}

-- A signature takes at least eleven octets.
tsig_long : (message : List ℕ) (place : ℕ) (r : TsigRecord) (end : ℕ) → TsigRecordAt message place r end → place + 11 ≤ end
tsig_long message place r end at =
    let name = spelled_within message place (length message) place r.name.labels at.owner_end at.owner.spelled in
    omega (arith, name.0, at.record_type.there.behind, at.dns_class.there.behind, at.ttl.behind, length-octets_32 r.ttl, at.count.behind, at.filled)

-- A signature that reads back is refused for room or for want of memory.
sign_wanted : (r : TsigRecord) (old : State) (e : ProtoError) → RefusesTsigRecord r old e → TsigReadsBack r → IsRefusal old (tsig_plain r) e
sign_wanted r old e (inl refused) back = refused.1
sign_wanted r old e (inr long) back = absurd (omega (arith, long.0, back.counted))

pub signature_stands : Standing IsSet TsigRecordAt tsig_plain TsigReadsBack EmitsTsigRecord RefusesTsigRecord
signature_stands = record {
  small = λ s f. f.small;
  fit = λ r old new one back f w. set_then old new f w;
  back = λ mid new f back. set_then mid new f back.writes;
  stays = λ r old new one back f w. one.stays f.in_full.sound back;
  size = λ r old new one back. omega (arith, one.exact.offset);
  fits = λ r old new one. one.fits;
  refused = λ r old e refused back small. sign_wanted r old e refused back;
  long = tsig_long;
}
