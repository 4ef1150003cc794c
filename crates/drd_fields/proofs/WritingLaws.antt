-- Laws of writing: what puts octets emits their field, fields go one behind the other, and a mode may change between.
use Rattle.std.proofs.Common.{◌≡◌, ℕ, ◌+◌, ◌≤◌, inl, inr, List, [], ◌∷◌, ◌++◌, length, map, take, drop, refl, sym, ap, subst, ◌∙◌, arith, append_assoc, append-nil, ◌⊎◌}
use Rattle.std.proofs.Math.Nat.{eq-or-lt_of_le}
use Rattle.std.proofs.lemmas.List.{length-take, length-append, drop-drop, take_at, drop_at, take-append-drop}
use Rattle.std.specs.Prelude.{Result, Ok, Err, OnOk, OnErr, IfErr}
use Rattle.dnw_encoder.specs.dnw_codes.declared.error.ProtoError.{ProtoError}
use Rattle.dnw_encoder.specs.dnw_codes.declared.error.ProtoError.TheVariants.{MaxBufferSizeExceeded}
use Rattle.dnw_encoder.specs.dnw_decoder.Octets.{Stands, octets_16, octets_32}
use Rattle.dnw_encoder.proofs.dnw_decoder_lemmas.Standing.{length-octets_32, stands_split}
use Rattle.dnw_encoder.specs.dnw_name.DomainName.{DomainName}
use Rattle.dnw_encoder.specs.Effects.{Sound, StaysTrue, Writes, SameModes, WritesOctets, written_at, IsRefusal}
use Rattle.dnw_encoder.proofs.Laws.{holds_map, holds_written, holds_more, modes_then, puts_stands}
use Rattle.dnw_encoder.specs.Names.{EmitsName}
use Rattle.dnw_encoder.specs.State.{Candidate, State, with_encoding, writes_pointers, rdata_encoding}
use Rattle.dnw_encoder.specs.declared.modes.NameEncoding.{NameEncoding}
use Rattle.dnw_encoder.specs.declared.modes.RDataEncoding.{RDataEncoding}
use Rattle.drd_fields.specs.Fields.{Field, octet, short, long, name, string, strings, rest, StringAt, StringsAt, FieldAt, FieldsAt}
use Rattle.drd_fields.specs.FieldLaws.{strings_joined}
use Rattle.std.specs.List.{flat_map}
use Rattle.std.proofs.lemmas.Grind.{flat_map-append}
use Rattle.drd_fields.specs.Writing.{encoded_field, encoded_fields, string_octets, field_octets, fields_octets, EmitsField, EmitsFields, EmitsData, EndsWithin, IsTooLong, SomeTooLong}

-- Octets written behind others that were written.
pub written_then : (o : List ℕ) (place : ℕ) (a b : List ℕ) → place ≤ length o → written_at (written_at o place a) (place + length a) b ≡ written_at o place (a ++ b)
written_then o place a b le =
    let front : length (take place o ++ a) ≡ place + length a = omega (arith, length-append (take place o) a, length-take place o) in
    let w = written_at o place a in
    let first : take (place + length a) w ≡ take place o ++ a = take_at (take place o ++ a) (drop (place + length a) o) (place + length a) front in
    let behind : drop (place + length a) w ≡ drop (place + length a) o = drop_at (take place o ++ a) (drop (place + length a) o) (place + length a) front in
    let last : drop ((place + length a) + length b) w ≡ drop (place + length (a ++ b)) o =
    sym (drop-drop (length b) (place + length a) w) ∙ ap (λ (t : List ℕ). drop (length b) t) behind ∙ drop-drop (length b) (place + length a) o ∙ ap (λ (n : ℕ). drop n o) (omega (arith, length-append a b)) in
    ap (λ (t : List ℕ). t ++ b ++ drop ((place + length a) + length b) w) first
    ∙ ap (λ (t : List ℕ). (take place o ++ a) ++ b ++ t) last
    ∙ ap (λ (t : List ℕ). t ++ drop (place + length (a ++ b)) o) (append_assoc (take place o) a b)

pub puts_then : (a b : List ℕ) (old mid new : State) → old.offset ≤ length old.octets → WritesOctets a old mid → WritesOctets b mid new → WritesOctets (a ++ b) old new
puts_then a b old mid new le p q = record {
  octets = q.octets ∙ ap (λ (o : List ℕ). written_at o mid.offset b) p.octets ∙ ap (λ (n : ℕ). written_at (written_at old.octets old.offset a) n b) p.offset ∙ written_then old.octets old.offset a b le;
  offset = omega (arith, p.offset, q.offset, length-append a b);
  candidates = q.candidates ∙ p.candidates;
  places = q.places ∙ p.places;
  modes = modes_then old mid new p.modes q.modes;
}

pub puts_none : (s : State) → s.offset ≤ length s.octets → WritesOctets [] s s
puts_none s le = record {
  octets = sym (ap (λ (t : List ℕ). t ++ drop (s.offset + 0) s.octets) (append-nil (take s.offset s.octets)) ∙ ap (λ (n : ℕ). take s.offset s.octets ++ drop n s.octets) (omega arith) ∙ take-append-drop s.offset s.octets);
  offset = omega arith;
  candidates = refl;
  places = refl;
  modes = record { maximum = refl; encoding = refl; canonical = refl; points = refl };
}

-- What was put within the maximum ends there; what was refused moved nothing.
pub puts_within : {T E : Type 0} (r : Result T E) (more : List ℕ) (size : ℕ) (old new : State) → length more ≡ size → OnOk r (WritesOctets more old new) → OnOk r (old.offset + size ≤ old.maximum) → OnErr r (new ≡ old) → EndsWithin old new
puts_within (Ok v) more size old new same puts fits stays = λ written. omega (arith, same, puts.offset, fits)
puts_within (Err e) more size old new same puts fits stays = λ written. omega (arith, written, ap (λ (s : State). s.offset) stays)

-- One write behind another: each ends within the maximum.
pub within_then : (old mid new : State) → mid.maximum ≡ old.maximum → mid.offset ≤ new.offset → EndsWithin old mid → EndsWithin mid new → EndsWithin old new
within_then old mid new same forward first later =
    λ written. elim (eq-or-lt_of_le forward) [
      | inl is ↦ omega (arith, first (omega (arith, written, is)), is)
      | inr lt ↦ omega (arith, later lt, same)
    ]

-- Octets that are put are no candidates.
put_none : {old new : List Candidate} → new ≡ old → length new ≤ length old + 0
put_none same = omega (arith, ap length same)

-- A number that is put is its field.
pub puts_octet : (n : ℕ) (old new : State) → WritesOctets (n ∷ []) old new → EmitsField (octet n) old new
puts_octet n old new p = record { stays = λ s. puts_stands (n ∷ []) old new s p; size = omega (arith, p.offset); exact = λ plain. p; candidates = put_none p.candidates }

pub puts_short : (n : ℕ) (old new : State) → WritesOctets (octets_16 n) old new → EmitsField (short n) old new
puts_short n old new p = record { stays = λ s. puts_stands (octets_16 n) old new s p; size = omega (arith, p.offset); exact = λ plain. p; candidates = put_none p.candidates }

pub puts_long : (n : ℕ) (old new : State) → WritesOctets (octets_32 n) old new → EmitsField (long n) old new
puts_long n old new p = record { stays = λ s. puts_stands (octets_32 n) old new s p; size = omega (arith, p.offset); exact = λ plain. p; candidates = put_none p.candidates }

pub puts_rest : (octets : List ℕ) (old new : State) → WritesOctets octets old new → EmitsField (rest octets) old new
puts_rest octets old new p = record { stays = λ s. puts_stands octets old new s p; size = omega (arith, p.offset); exact = λ plain. p; candidates = put_none p.candidates }

pub puts_string : (s : List ℕ) (old new : State) → length s ≤ 255 → WritesOctets (string_octets s) old new → EmitsField (string s) old new
puts_string s old new few p = record {
  stays = λ sound. holds_map new.offset new (λ message. Stands message old.offset (string_octets s) new.offset) (λ message. StringAt message old.offset s new.offset) (λ message there. record { few = few; there = there }) (puts_stands (string_octets s) old new sound p);
  size = omega (arith, p.offset);
  exact = λ plain. p;
  candidates = put_none p.candidates;
}

pub emits_name : (n : DomainName) (old new : State) → EmitsName n old new → EmitsField (name n) old new
emits_name n old new e = record { stays = e.stays; size = e.size; exact = e.exact; candidates = e.at_most }

-- No field.
pub emits_nothing : (s : State) → s.offset ≤ length s.octets → EmitsFields [] s s
emits_nothing s le = record { stays = λ sound. record { of = λ later a. refl }; size = omega arith; exact = λ plain. puts_none s le; candidates = omega arith }

-- One field more at the front.
pub emits_more : (f : Field) (fs : List Field) (old mid new : State) → old.offset ≤ length old.octets → EmitsField f old mid → Writes old mid → EmitsFields fs mid new → Writes mid new → EmitsFields (f ∷ fs) old new
emits_more f fs old mid new le e v d w = record {
  stays = λ sound.
      let first : StaysTrue new new.offset (λ message. FieldAt message old.offset (encoded_field old.encoding f) mid.offset) =
      holds_more mid.offset new.offset new (λ message. FieldAt message old.offset (encoded_field old.encoding f) mid.offset) w.forward
      (holds_written mid.offset mid new (λ message. FieldAt message old.offset (encoded_field old.encoding f) mid.offset) w (omega arith) (e.stays sound)) in
      let later : StaysTrue new new.offset (λ message. FieldsAt message mid.offset (encoded_fields old.encoding fs) new.offset) =
      subst (λ (m : NameEncoding). StaysTrue new new.offset (λ message. FieldsAt message mid.offset (encoded_fields m fs) new.offset)) v.modes.encoding (d.stays (v.sound sound)) in
      record { of = λ octets a. (mid.offset, first.of octets a, later.of octets a) };
  size = omega (arith, e.size, d.size, length-append (field_octets f) (fields_octets fs));
  exact = λ plain.
      puts_then (field_octets (encoded_field old.encoding f)) (fields_octets (encoded_fields old.encoding fs)) old mid new le (e.exact plain)
      (subst (λ (m : NameEncoding). WritesOctets (fields_octets (encoded_fields m fs)) mid new) v.modes.encoding (d.exact (v.modes.points ∙ plain)));
  candidates = omega (arith, e.candidates, d.candidates);
}

-- One field alone.
pub emits_one : (f : Field) (old new : State) → EmitsField f old new → EmitsFields (f ∷ []) old new
emits_one f old new e = record {
  stays = λ sound. holds_map new.offset new (λ message. FieldAt message old.offset (encoded_field old.encoding f) new.offset) (λ message. FieldsAt message old.offset (encoded_field old.encoding f ∷ []) new.offset) (λ message there. (new.offset, there, refl)) (e.stays sound);
  size = omega (arith, e.size, length-append (field_octets f) []);
  exact = λ plain. subst (λ (o : List ℕ). WritesOctets o old new) (sym (append-nil (field_octets (encoded_field old.encoding f)))) (e.exact plain);
  candidates = omega (arith, e.candidates);
}

-- Numbers that stand one behind the other are their fields.
longs_stand : (ns : List ℕ) (m : NameEncoding) (message : List ℕ) (place end : ℕ) → Stands message place (fields_octets (map long ns)) end → FieldsAt message place (encoded_fields m (map long ns)) end
longs_stand [] m message place end s = omega (arith, s.behind)
longs_stand (n ∷ ns) m message place end s =
    let split = stands_split message place (octets_32 n) (fields_octets (map long ns)) end s in
    (_, split.0, longs_stand ns m message _ end split.1)

longs_encoded : (ns : List ℕ) (m : NameEncoding) → encoded_fields m (map long ns) ≡ map long ns
longs_encoded [] m = refl
longs_encoded (n ∷ ns) m = ap (λ (fs : List Field). long n ∷ fs) (longs_encoded ns m)

-- Numbers that are put at once are written one behind the other.
pub puts_longs : (ns : List ℕ) (old new : State) → WritesOctets (fields_octets (map long ns)) old new → EmitsFields (map long ns) old new
puts_longs ns old new p = record {
  stays = λ sound. holds_map new.offset new _ (λ message. FieldsAt message old.offset (encoded_fields old.encoding (map long ns)) new.offset) (λ message. longs_stand ns old.encoding message old.offset new.offset) (puts_stands (fields_octets (map long ns)) old new sound p);
  size = omega (arith, p.offset);
  exact = λ plain. subst (λ (fs : List Field). WritesOctets (fields_octets fs) old new) (sym (longs_encoded ns old.encoding)) p;
  candidates = omega (arith, ap length p.candidates);
}

-- A refusal of what is behind is one of the whole.
pub refused_later : (size front : ℕ) (old mid : State) (e : ProtoError) → SameModes old mid → mid.offset ≤ old.offset + front → IsRefusal mid size e → IsRefusal old (front + size) e
refused_later size front old mid e m far (inl memory) = inl memory
refused_later size front old mid e m far (inr (is, past)) =
    inr (subst (λ (n : ℕ). e ≡ MaxBufferSizeExceeded n) m.maximum is, omega (arith, past, far, m.maximum))

pub refused_front : (size more : ℕ) (old : State) (e : ProtoError) → IsRefusal old size e → IsRefusal old (size + more) e
refused_front size more old e (inl memory) = inl memory
refused_front size more old e (inr (is, past)) = inr (is, omega (arith, past))

-- The mode says nothing of what stands.
holds_mode : (s : State) (m : NameEncoding) (bound : ℕ) (P : List ℕ → Type 0) → StaysTrue s bound P → StaysTrue (with_encoding s m) bound P
holds_mode s m bound P h = record {
  of = λ later a. h.of later (record {
    there = λ i lt f. a.there i lt (record { there = f.there; shut = f.shut });
    same = λ i lt f. a.same i lt (record { there = f.there; shut = f.shut });
  });
}

sound_mode : (s : State) (m : NameEncoding) → Sound s → Sound (with_encoding s m)
sound_mode s m sound = record {
  at_end = sound.at_end;
  stands = record {
    each = λ c found.
        let before = sound.stands.each c found in
        record { within = before.within; small = before.small; spelled = λ labels are e. holds_mode s m c.end _ (before.spelled labels are e) };
    places = sound.stands.places;
    apart = sound.stands.apart;
  };
}

-- Another mode for a while.
pub mode_writes : (m : NameEncoding) (old mid : State) → old.points ≡ writes_pointers old.encoding → Writes (with_encoding old m) mid → Writes old (with_encoding mid old.encoding)
mode_writes m old mid points w = record {
  keeps = record {
    octets = w.keeps.octets;
    no_more = w.keeps.no_more;
    stay_open = w.keeps.stay_open;
    candidates = w.keeps.candidates;
    no_others = w.keeps.no_others;
    few = w.keeps.few;
  };
  forward = w.forward;
  sound = λ s. sound_mode mid old.encoding (w.sound (sound_mode old m s));
  modes = record { maximum = w.modes.maximum; encoding = refl; canonical = w.modes.canonical; points = sym points };
}

pub mode_emits : (kind : RDataEncoding) (fs : List Field) (old mid : State) → old.points ≡ writes_pointers old.encoding → EmitsFields fs (with_encoding old (rdata_encoding kind old.canonical old.encoding)) mid → EndsWithin old mid → EmitsData kind fs old (with_encoding mid old.encoding)
mode_emits kind fs old mid points e within =
    let m = rdata_encoding kind old.canonical old.encoding in
    record {
      stays = λ sound. holds_mode mid old.encoding mid.offset _ (e.stays (sound_mode old m sound));
      size = e.size;
      exact = λ plain.
          let p = e.exact plain in
          record {
            octets = p.octets;
            offset = p.offset;
            candidates = p.candidates;
            places = p.places;
            modes = record { maximum = p.modes.maximum; encoding = refl; canonical = p.modes.canonical; points = sym points };
          };
      candidates = e.candidates;
      within = within;
    }

-- A number of four octets is refused as four octets are.
pub refused_long : (n : ℕ) (s : State) (e : ProtoError) → IsRefusal s 4 e → IsRefusal s (length (octets_32 n)) e
refused_long n s e r = subst (λ (size : ℕ). IsRefusal s size e) (sym (length-octets_32 n)) r

pub on_ok : {T E P Q : Type 0} (r : Result T E) → (P → Q) → OnOk r P → OnOk r Q
on_ok (Ok v) f p = f p
on_ok (Err e) f p = tt

pub if_err : {T E : Type 0} {P Q : E → Type 0} (r : Result T E) → ((e : E) → P e → Q e) → IfErr r P → IfErr r Q
if_err (Ok v) f p = tt
if_err (Err e) f p = f e p

-- No string, and one string more at the end.
pub emits_no_strings : (s : State) → s.offset ≤ length s.octets → EmitsField (strings []) s s
emits_no_strings s le = record { stays = λ sound. record { of = λ later a. refl }; size = omega arith; exact = λ plain. puts_none s le; candidates = omega arith }

flat_one : (front : List (List ℕ)) (s : List ℕ) → flat_map string_octets (front ++ s ∷ []) ≡ flat_map string_octets front ++ string_octets s
flat_one front s = flat_map-append string_octets front (s ∷ []) ∙ ap (λ (o : List ℕ). flat_map string_octets front ++ o) (append-nil (string_octets s))

pub emits_string_more : (front : List (List ℕ)) (s : List ℕ) (old mid new : State) → old.offset ≤ length old.octets → EmitsField (strings front) old mid → Writes old mid → EmitsField (string s) mid new → Writes mid new → EmitsField (strings (front ++ s ∷ [])) old new
emits_string_more front s old mid new le e v d w = record {
  stays = λ sound.
      let first : StaysTrue new new.offset (λ message. StringsAt message old.offset front mid.offset) =
      holds_more mid.offset new.offset new (λ message. StringsAt message old.offset front mid.offset) w.forward
      (holds_written mid.offset mid new (λ message. StringsAt message old.offset front mid.offset) w (omega arith) (e.stays sound)) in
      let last = d.stays (v.sound sound) in
      record { of = λ octets a. strings_joined octets old.offset front mid.offset s new.offset (first.of octets a) (last.of octets a) };
  size = omega (arith, e.size, d.size, ap length (flat_one front s), length-append (flat_map string_octets front) (string_octets s));
  exact = λ plain.
      subst (λ (o : List ℕ). WritesOctets o old new) (sym (flat_one front s))
      (puts_then (flat_map string_octets front) (string_octets s) old mid new le (e.exact plain) (d.exact (v.modes.points ∙ plain)));
  candidates = omega (arith, e.candidates, d.candidates);
}

long_later : (front : List (List ℕ)) (s : List ℕ) (after : List (List ℕ)) (e : ProtoError) → IsTooLong s e → SomeTooLong (front ++ s ∷ after) e
long_later [] s after e is = inl is
long_later (f ∷ fs) s after e is = inr (long_later fs s after e is)

-- A string behind others is refused: so are all of them.
pub strings_refused : (front : List (List ℕ)) (s : List ℕ) (after : List (List ℕ)) (old mid : State) (e : ProtoError) → SameModes old mid → mid.offset ≤ old.offset + length (flat_map string_octets front) → IsTooLong s e ⊎ IsRefusal mid (length s + 1) e → IsRefusal old (length (flat_map string_octets (front ++ s ∷ after))) e ⊎ SomeTooLong (front ++ s ∷ after) e
strings_refused front s after old mid e modes far (inl is) = inr (long_later front s after e is)
strings_refused front s after old mid e modes far (inr refused) =
    let n = length (flat_map string_octets front) in
    let size : (n + (length s + 1)) + length (flat_map string_octets after) ≡ length (flat_map string_octets (front ++ s ∷ after)) =
    omega (arith, ap length (flat_map-append string_octets front (s ∷ after)), length-append (flat_map string_octets front) (string_octets s ++ flat_map string_octets after), length-append (string_octets s) (flat_map string_octets after)) in
    inl (subst (λ (k : ℕ). IsRefusal old k e) size (refused_front (n + (length s + 1)) (length (flat_map string_octets after)) old e (refused_later (length s + 1) n old mid e modes far refused)))
