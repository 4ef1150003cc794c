-- The questions of a reply, whose first name is kept for later ones to point to.
use Rattle.std.proofs.Common.{◌≡◌, ℕ, ◌+◌, ◌^◌, ◌<◌, ◌≤◌, ◌∙◌, ◌&&◌, inl, inr, Bool, true, false, nat_le, nat_lt, List, [], ◌∷◌, length, take, refl, sym, ap, subst, arith}
use Rattle.std.proofs.lemmas.Bool.Decides.{nat_tests}
use Rattle.std.specs.Prelude.{Some, None, Result, Ok, Err, OnOk, OnErr, slice_get}
use Rattle.zsv_request.specs.zsv_message.zst_record.dnw_codes.declared.error.ProtoError.{ProtoError}
use Rattle.zsv_request.specs.zsv_message.zst_record.dnw_decoder.Octets.{Stands}
use Rattle.zsv_request.specs.zsv_message.zst_record.dnw_name.DomainName.{DomainName}
use Rattle.zsv_request.specs.zsv_message.zst_record.dnw_encoder.Effects.{Opens, Sound, StaysTrue, StoresName, Writes, WritesOctets}
use Rattle.zsv_request.specs.zsv_message.zst_record.dnw_encoder.Members.{In}
use Rattle.zsv_request.specs.zsv_message.zst_record.dnw_encoder.State.{State}
use Rattle.zsv_request.specs.zsv_message.zst_record.dnw_encoder.declared.open_places.OpenPlace.{OpenPlace}
use Rattle.zsv_request.specs.zsv_message.zst_record.drd_rdata.Writing.{WritesInFull}
use Rattle.zsv_request.specs.zsv_message.zsv_parts.Questions.{Asked}
use Rattle.zsv_request.specs.zsv_message.zsv_parts.declared.header.Header.{Header}
use Rattle.zsv_request.specs.zsv_message.zsv_parts.declared.question.Query.{Query}
use Rattle.zsv_request.proofs.zsv_message_lemmas.zst_record_lemmas.dnw_encoder_lemmas.Laws.{modes_then, puts_stands}
use Rattle.zsv_request.proofs.zsv_message_lemmas.zst_record_lemmas.dnw_encoder_lemmas.PointerLaws.{stays_alike}
use Rattle.zsv_reply.specs.Replies.{ReplyParts, first_labels, leaves_room}
use Rattle.zsv_reply.specs.Writing.{EmitsQuestions, IsEmitted, IsEncoded, LeadsRecords, lets_point}
use Rattle.zsv_reply.proofs.FrontLaws.{in_full_then}

-- A name that was written is kept: this is one writing call.
pub stored_writes : (name : DomainName) (start : ℕ) (a b c : State) → Writes a b → StoresName name start b c → a.offset ≤ start → Writes a c
stored_writes name start a b c w s behind = record {
  keeps = record {
    octets = ap (λ (o : List ℕ). take a.offset o) s.octets ∙ w.keeps.octets;
    no_more = λ r found lt. w.keeps.no_more r (subst (λ (rs : List OpenPlace). In r rs) s.places found) lt;
    stay_open = λ r found le. subst (λ (rs : List OpenPlace). In r rs) (sym s.places) (w.keeps.stay_open r found le);
    candidates = λ x found le. s.keeps x (w.keeps.candidates x found le);
    no_others = λ x found le. elim (s.only x found) [
      | inl before ↦ w.keeps.no_others x before le
      | inr later ↦ absurd (omega (arith, later, le, behind))
    ];
    few = λ n le. omega (arith, s.early n (omega (arith, le, behind)), w.keeps.few n le);
  };
  forward = omega (arith, w.forward, s.offset);
  sound = λ sound. s.sound (w.sound sound);
  modes = modes_then a b c w.modes s.modes;
}

-- Questions without a name.
pub asks_nothing : (asked : Asked) (a b : State) → Sound a → WritesOctets asked.octets a b → length asked.questions ≡ 0 → EmitsQuestions asked a b
asks_nothing asked a b sound p none = record {
  stays = subst (λ (end : ℕ). StaysTrue b b.offset (λ message. Stands message a.offset asked.octets end)) p.offset (puts_stands asked.octets a b sound p);
  offset = p.offset;
  few = omega (arith, ap length p.candidates);
}

pub asks_first : (asked : Asked) (name : DomainName) (a b c : State) → Sound a → WritesOctets asked.octets a b → first_labels asked.questions ≡ length name.labels → StoresName name a.offset b c → EmitsQuestions asked a c
asks_first asked name a b c sound p labels s = record {
  stays = subst (λ (n : ℕ). StaysTrue c n (λ message. Stands message a.offset asked.octets (a.offset + length asked.octets))) (sym s.offset)
      (stays_alike b c b.offset _ s.octets s.places
      (subst (λ (end : ℕ). StaysTrue b b.offset (λ message. Stands message a.offset asked.octets end)) p.offset (puts_stands asked.octets a b sound p)));
  offset = s.offset ∙ p.offset;
  few = omega (arith, s.few, ap length p.candidates, labels);
}

-- How many labels the first question has, if there is one.
pub labels_first : (questions : List Query) (first : Query) → Some first ≡ slice_get questions 0 → first_labels questions ≡ length first.name.labels
labels_first [] first e = absurd (cc e)
labels_first (q ∷ qs) first e = let same : first ≡ q = cc e in ap (λ (x : Query). length x.name.labels) (sym same)

pub labels_none : (questions : List Query) → None ≡ slice_get questions 0 → length questions ≡ 0
labels_none [] e = refl
labels_none (q ∷ qs) e = absurd (cc e)

-- A call that stores a name or refuses to.
pub stored_or_not : (name : DomainName) (start : ℕ) (a b c : State) (r : Result (Unit {0}) ProtoError) → Writes a b → a.offset ≤ start → OnOk r (StoresName name start b c) → OnErr r (c ≡ b) → Writes a c
stored_or_not name start a b c (Ok done) w behind stores same = stored_writes name start a b c w stores behind
stored_or_not name start a b c (Err e) w behind stores same = subst (λ (s : State). Writes a s) (sym same) w

both : (x y : Bool) → (x && y) ≡ true → (x ≡ true) × (y ≡ true)
both true y e = (refl, e)
both false y e = absurd (cc e)

lt_from_test : (a b : ℕ) → nat_lt a b ≡ true → a < b
lt_from_test a b e = grind (arith, nat_tests)

le_from_test : (a b : ℕ) → nat_le a b ≡ true → a ≤ b
le_from_test a b e = grind (arith, nat_tests)

-- A new encoder that writes pointers leaves room for them where the questions do.
pub lets_leave : (s : State) (asked : Asked) → s.points ≡ true → s.candidates ≡ [] → lets_point s asked ≡ leaves_room asked
lets_leave s asked points none =
    ap (λ (b : Bool). b && (nat_lt (12 + length asked.octets) 16383 && nat_le (length s.candidates + first_labels asked.questions) 63)) points
    ∙ ap (λ (n : ℕ). nat_lt (12 + length asked.octets) 16383 && nat_le n 63) (omega (arith, ap length none))

-- What such an encoder wrote is a reply within its maximum.
pub encoded : (s : State) (info : Header) (reply : List ℕ) (parts : ReplyParts) (asked : Asked) (limit : ℕ) → s.points ≡ true → s.candidates ≡ [] → s.maximum ≡ limit → 12 + length asked.octets ≤ limit → IsEmitted (lets_point s asked) info reply parts asked s.maximum → IsEncoded info reply parts asked limit
encoded s info reply parts asked limit points none maximum room e =
    let here = subst (λ (n : ℕ). IsEmitted (lets_point s asked) info reply parts asked n) maximum e in
    record {
      within = here.written.within;
      reserved = here.written.reserved;
      whole = λ fits. subst (λ (b : Bool). IsEmitted b info reply parts asked limit) (lets_leave s asked points none) here;
      bare = λ less. absurd (omega (arith, less, room));
    }

-- Behind the questions of a reply that an encoder begins its records come.
pub leads_first : (asked : Asked) (p : ℕ) (old opened s : State) → Opens p 12 old opened → old.offset ≡ 0 → WritesInFull opened → old.maximum < 2 ^ 16 → Writes opened s → EmitsQuestions asked opened s → LeadsRecords (lets_point old asked) s.offset s
leads_first asked p old opened s opens front full small w asks = record {
  in_full = in_full_then opened s full w;
  small = omega (arith, w.modes.maximum, opens.modes.maximum, small);
  before = omega arith;
  pointing = λ points. w.modes.points ∙ opens.modes.points ∙ (both old.points _ points).0;
  early = λ points.
      let tests = both (nat_lt (12 + length asked.octets) 16383) (nat_le (length old.candidates + first_labels asked.questions) 63) (both old.points _ points).1 in
      omega (arith, lt_from_test (12 + length asked.octets) 16383 tests.0, asks.offset, opens.offset, front);
  room = λ points e.
      let tests = both (nat_lt (12 + length asked.octets) 16383) (nat_le (length old.candidates + first_labels asked.questions) 63) (both old.points _ points).1 in
      omega (arith, le_from_test (length old.candidates + first_labels asked.questions) 63 tests.1, asks.few, ap length opens.candidates);
  known = λ points lt. absurd (omega (arith, lt));
}
