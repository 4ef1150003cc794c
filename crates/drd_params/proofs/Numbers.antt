-- Numbers that stand one behind the other.
use Rattle.std.proofs.Common.{◌≡◌, ℕ, ◌+◌, ◌⊎◌, inl, inr, List, [], ◌∷◌, ◌++◌, length, drop, refl, sym, ap, subst, ◌∙◌, arith}
use Rattle.std.proofs.lemmas.List.{drop_at}
use Rattle.drd_param_keys.specs.dnw_codes.declared.error.DecodeError.{DecodeError}
use Rattle.drd_fields.specs.dnw_decoder.Octets.{octets_16, octets_32, Stands}
use Rattle.drd_fields.specs.dnw_decoder.Reading.{IsCut, IsWantOfMemory}
use Rattle.drd_fields.proofs.dnw_decoder_lemmas.Standing.{stands_joined, stands_split}
use Rattle.drd_fields.specs.Fields.{Field, octet, short, long, name, string, strings, rest, Kind, an_octet, a_short, a_long, a_name, a_string, all_strings, the_rest, kind_of, kinds_of, FieldAt, FieldsAt}
use Rattle.drd_fields.specs.Reading.{StopsReading}
use Rattle.drd_fields.specs.Writing.{fields_octets}
use Rattle.drd_params.specs.AddressLaws.{length-octets_32}
use Rattle.drd_param_keys.specs.Entries.{IsShortOf}

abbrev pub AreNumbers : List Kind → Type 0
AreNumbers [] = Unit {0}
AreNumbers (an_octet ∷ ks) = AreNumbers ks
AreNumbers (a_short ∷ ks) = AreNumbers ks
AreNumbers (a_long ∷ ks) = AreNumbers ks
AreNumbers (k ∷ ks) = ⊥

pub numbers_stand : (message : List ℕ) (place : ℕ) (fs : List Field) (end : ℕ) → AreNumbers (kinds_of fs) → FieldsAt message place fs end → Stands message place (fields_octets fs) end
numbers_stand message place [] end are there = record { there = ap (λ (p : ℕ). drop p message) (sym there); behind = omega (arith, there) }
numbers_stand message place (octet n ∷ fs) end are there =
    stands_joined message place (n ∷ []) there.0 (fields_octets fs) end there.1 (numbers_stand message there.0 fs end are there.2)
numbers_stand message place (short n ∷ fs) end are there =
    stands_joined message place (octets_16 n) there.0 (fields_octets fs) end there.1 (numbers_stand message there.0 fs end are there.2)
numbers_stand message place (long n ∷ fs) end are there =
    stands_joined message place (octets_32 n) there.0 (fields_octets fs) end there.1 (numbers_stand message there.0 fs end are there.2)
numbers_stand message place (name n ∷ fs) end are there = absurd are
numbers_stand message place (string s ∷ fs) end are there = absurd are
numbers_stand message place (strings ss ∷ fs) end are there = absurd are
numbers_stand message place (rest o ∷ fs) end are there = absurd are

pub stand_numbers : (message : List ℕ) (place : ℕ) (fs : List Field) (end : ℕ) → AreNumbers (kinds_of fs) → Stands message place (fields_octets fs) end → FieldsAt message place fs end
stand_numbers message place [] end are s = omega (arith, s.behind)
stand_numbers message place (octet n ∷ fs) end are s =
    let parts = stands_split message place (n ∷ []) (fields_octets fs) end s in
    (place + length (n ∷ []), parts.0, stand_numbers message (place + length (n ∷ [])) fs end are parts.1)
stand_numbers message place (short n ∷ fs) end are s =
    let parts = stands_split message place (octets_16 n) (fields_octets fs) end s in
    (place + length (octets_16 n), parts.0, stand_numbers message (place + length (octets_16 n)) fs end are parts.1)
stand_numbers message place (long n ∷ fs) end are s =
    let parts = stands_split message place (octets_32 n) (fields_octets fs) end s in
    (place + length (octets_32 n), parts.0, stand_numbers message (place + length (octets_32 n)) fs end are parts.1)
stand_numbers message place (name n ∷ fs) end are s = absurd are
stand_numbers message place (string t ∷ fs) end are s = absurd are
stand_numbers message place (strings ts ∷ fs) end are s = absurd are
stand_numbers message place (rest o ∷ fs) end are s = absurd are

-- How many octets a field of a kind takes.
abbrev pub kind_size : Kind → ℕ
kind_size an_octet = 1
kind_size a_short = 2
kind_size a_long = 4
kind_size other = 0

abbrev pub kinds_size : List Kind → ℕ
kinds_size [] = 0
kinds_size (k ∷ ks) = kind_size k + kinds_size ks

field_behind : (message : List ℕ) (place : ℕ) (f : Field) (behind : ℕ) → AreNumbers (kind_of f ∷ []) → FieldAt message place f behind → behind ≡ place + kind_size (kind_of f)
field_behind message place (octet n) behind are there = there.behind
field_behind message place (short n) behind are there = there.behind
field_behind message place (long n) behind are there = there.behind ∙ ap (λ (m : ℕ). place + m) (length-octets_32 n)
field_behind message place (name n) behind are there = absurd are
field_behind message place (string s) behind are there = absurd are
field_behind message place (strings ss) behind are there = absurd are
field_behind message place (rest o) behind are there = absurd are

number_behind : (message : List ℕ) (place : ℕ) (f : Field) (k : Kind) (behind : ℕ) → AreNumbers (k ∷ []) → kind_of f ≡ k → FieldAt message place f behind → behind ≡ place + kind_size k
number_behind message place f k behind are same there =
    field_behind message place f behind (subst (λ (x : Kind). AreNumbers (x ∷ [])) (sym same) are) there ∙ ap (λ (x : Kind). place + kind_size x) same

later_cut : (message : List ℕ) (place behind first later : ℕ) (e : DecodeError) → behind ≡ place + first → IsCut later message behind e → IsCut (first + later) message place e
later_cut message place behind first later e is cut = (cut.0, omega (arith, is, cut.1))

-- Where a number can't be read, the octets end before the last one would.
numbers_cause : (message : List ℕ) (end : ℕ) (ks : List Kind) (place : ℕ) (e : DecodeError) (at : ℕ) → AreNumbers ks → StopsReading message end ks place e at → IsCut (kinds_size ks) message place e
numbers_cause message end [] place e at are s = absurd s
numbers_cause message end (an_octet ∷ ks) place e at are (inl (inl m, here)) = absurd (cc m.1)
numbers_cause message end (an_octet ∷ ks) place e at are (inl (inr cut, here)) = (cut.0, omega (arith, cut.1))
numbers_cause message end (an_octet ∷ ks) place e at are (inr (f, behind, same, there, later)) =
    later_cut message place behind 1 (kinds_size ks) e (number_behind message place f an_octet behind tt same there) (numbers_cause message end ks behind e at are later)
numbers_cause message end (a_short ∷ ks) place e at are (inl (inl m, here)) = absurd (cc m.1)
numbers_cause message end (a_short ∷ ks) place e at are (inl (inr cut, here)) = (cut.0, omega (arith, cut.1))
numbers_cause message end (a_short ∷ ks) place e at are (inr (f, behind, same, there, later)) =
    later_cut message place behind 2 (kinds_size ks) e (number_behind message place f a_short behind tt same there) (numbers_cause message end ks behind e at are later)
numbers_cause message end (a_long ∷ ks) place e at are (inl (inl m, here)) = absurd (cc m.1)
numbers_cause message end (a_long ∷ ks) place e at are (inl (inr cut, here)) = (cut.0, omega (arith, cut.1))
numbers_cause message end (a_long ∷ ks) place e at are (inr (f, behind, same, there, later)) =
    later_cut message place behind 4 (kinds_size ks) e (number_behind message place f a_long behind tt same there) (numbers_cause message end ks behind e at are later)
numbers_cause message end (a_name ∷ ks) place e at are s = absurd are
numbers_cause message end (a_string ∷ ks) place e at are s = absurd are
numbers_cause message end (all_strings ∷ ks) place e at are s = absurd are
numbers_cause message end (the_rest ∷ ks) place e at are s = absurd are

stands_first : (octets front behind : List ℕ) → octets ≡ front ++ behind → Stands octets 0 front (length front)
stands_first octets front behind is = record {
  there = is ∙ ap (λ (o : List ℕ). front ++ o) (sym (ap (λ (o : List ℕ). drop (length front) o) is ∙ drop_at front behind (length front) refl));
  behind = omega arith;
}

-- Octets that no such numbers are read from are fewer than they take, and begin with none.
pub numbers-refused : {X : Type 0} (fields : X → List Field) (kinds : List Kind) (message : List ℕ) (place : ℕ) (octets : List ℕ) (e : DecodeError) → ((x : X) → AreNumbers (kinds_of (fields x))) → AreNumbers kinds → message ≡ octets → place ≡ 0 → ((end at : ℕ) × StopsReading message end kinds place e at) → IsWantOfMemory e ⊎ ((x : X) (end : ℕ) → FieldsAt message place (fields x) end → ⊥) → IsWantOfMemory e ⊎ (IsShortOf (kinds_size kinds) octets e × ((x : X) (behind : List ℕ) → octets ≡ fields_octets (fields x) ++ behind → ⊥))
numbers-refused fields kinds message place octets e are kind_are same start stops (inl m) = inl m
numbers-refused fields kinds message place octets e are kind_are same start stops (inr none) =
    let cut = numbers_cause message stops.0 kinds place e stops.1 kind_are stops.2 in
    inr (
      (cut.0, omega (arith, cut.1, ap length same, start)),
      λ x behind is.
          let front = fields_octets (fields x) in
          let here : FieldsAt octets 0 (fields x) (length front) = stand_numbers octets 0 (fields x) (length front) (are x) (stands_first octets front behind is) in
          none x (length front) (subst (λ (m : List ℕ). FieldsAt m place (fields x) (length front)) (sym same) (subst (λ (p : ℕ). FieldsAt octets p (fields x) (length front)) (sym start) here)),
    )
