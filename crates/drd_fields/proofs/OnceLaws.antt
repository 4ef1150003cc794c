-- One place holds one list of fields of the same kinds.
use Rattle.std.proofs.Common.{◌≡◌, ℕ, ◌^◌, ◌<◌, Bool, true, false, List, [], ◌∷◌, refl, sym, ap, subst, ◌∙◌, arith}
use Rattle.std.specs.Int.{w16, w32, from_be_bytes}
use Rattle.std.proofs.lemmas.Nat.{from_be_bytes-to_be_bytes_2, from_be_bytes-to_be_bytes_4}
use Rattle.dnw_encoder.specs.dnw_decoder.Octets.{octets_16, octets_32}
use Rattle.dnw_encoder.proofs.dnw_decoder_lemmas.SpellingLaws.{name_once}
use Rattle.dnw_encoder.proofs.dnw_decoder_lemmas.Standing.{stands_same, length-octets_32}
use Rattle.drd_fields.proofs.BackLaws.{strings_once}
use Rattle.drd_fields.specs.FieldLaws.{closed_first, closed_later, field_end, fields_end, no_fields, ordered_more, string_once}
use Rattle.drd_fields.specs.Fields.{Field, octet, short, long, name, string, strings, rest, kind_of, kinds_of, Kind, is_open, are_open, AreOrdered, FieldAt, FieldsAt, Fits, AllFit, IsSameField, AreSameFields}

short_once : (n m : ℕ) → n < 2 ^ 16 → m < 2 ^ 16 → octets_16 n ≡ octets_16 m → n ≡ m
short_once n m few small same = sym (from_be_bytes-to_be_bytes_2 n few) ∙ ap (from_be_bytes w16) same ∙ from_be_bytes-to_be_bytes_2 m small

long_once : (n m : ℕ) → n < 2 ^ 32 → m < 2 ^ 32 → octets_32 n ≡ octets_32 m → n ≡ m
unfolding octets_32
long_once n m few small same = sym (from_be_bytes-to_be_bytes_4 n few) ∙ ap (from_be_bytes w32) same ∙ from_be_bytes-to_be_bytes_4 m small

-- One place holds one field of a kind, but for what octets can't hold of a number.
field_same : (message : List ℕ) (place : ℕ) (f g : Field) (end : ℕ) → kind_of f ≡ kind_of g → FieldAt message place f end → FieldAt message place g end → IsSameField f g
field_same message place (octet n) (octet m) end same s t =
    let octets : n ∷ [] ≡ m ∷ [] = (stands_same message place (n ∷ []) (m ∷ []) end end refl s t).0 in
    ap octet (cc octets)
field_same message place (short n) (short m) end same s t =
    (stands_same message place (octets_16 n) (octets_16 m) end end refl s t).0
field_same message place (long n) (long m) end same s t =
    (stands_same message place (octets_32 n) (octets_32 m) end end (length-octets_32 n ∙ sym (length-octets_32 m)) s t).0
field_same message place (name n) (name m) end same s t = ap name (name_once message place n m end end s t).0
field_same message place (string x) (string y) end same s t = ap string (string_once message place x y end end s t).0
field_same message place (strings xs) (strings ys) end same s t = ap strings (strings_once message place xs ys end s t)
field_same message place (rest x) (rest y) end same s t = ap rest (stands_same message place x y end end (omega (arith, s.behind, t.behind)) s t).0
field_same message place f g end same s t = absurd (grind (arith, same))

field_once : (f g : Field) → IsSameField f g → Fits f → Fits g → f ≡ g
field_once (short n) (short m) same few small = ap short (short_once n m few small same)
field_once (long n) (long m) same few small = ap long (long_once n m few small same)
field_once f g same few small = same

-- The first fields end at one place: by their octets, or since they are the last.
first_end : (message : List ℕ) (place : ℕ) (f g : Field) (fs gs : List Field) (a b end : ℕ) (opens : Bool) → is_open (kind_of f) ≡ opens → kind_of f ≡ kind_of g → kinds_of fs ≡ kinds_of gs → AreOrdered (kind_of f ∷ kinds_of fs) → FieldAt message place f a → FieldsAt message a fs end → FieldAt message place g b → FieldsAt message b gs end → a ≡ b
first_end message place f g fs gs a b end true is same later ordered s ss t ts =
    let none : kinds_of fs ≡ [] = ordered.0 is in
    sym (no_fields message a fs end none ss) ∙ no_fields message b gs end (sym later ∙ none) ts
first_end message place f g fs gs a b end false is same later ordered s ss t ts = field_end message place f g a b same is s t

-- One place holds one list of fields of the same kinds, but for what octets can't hold of numbers.
pub fields_same : (message : List ℕ) (place : ℕ) (fs gs : List Field) (end : ℕ) → kinds_of fs ≡ kinds_of gs → AreOrdered (kinds_of fs) → FieldsAt message place fs end → FieldsAt message place gs end → AreSameFields fs gs
fields_same message place [] [] end same ordered s t = tt
fields_same message place [] (g ∷ gs) end same ordered s t = absurd (cc same)
fields_same message place (f ∷ fs) [] end same ordered s t = absurd (cc same)
fields_same message place (f ∷ fs) (g ∷ gs) end same ordered s t =
    let first : kind_of f ≡ kind_of g = cc same in
    let later : kinds_of fs ≡ kinds_of gs = cc same in
    let ends : s.0 ≡ t.0 = first_end message place f g fs gs s.0 t.0 end (is_open (kind_of f)) refl first later ordered s.1 s.2 t.1 t.2 in (
      field_same message place f g s.0 first s.1 (subst (λ (e : ℕ). FieldAt message place g e) (sym ends) t.1),
      fields_same message s.0 fs gs end later ordered.1 s.2 (subst (λ (p : ℕ). FieldsAt message p gs end) (sym ends) t.2),
    )

-- Where no field goes to the end of the data, none does before the last.
pub closed_ordered : (ks : List Kind) → are_open ks ≡ false → AreOrdered ks
closed_ordered [] closed = tt
closed_ordered (k ∷ ks) closed = ordered_more k ks (closed_first (is_open k) (are_open ks) closed) (closed_ordered ks (closed_later (is_open k) (are_open ks) closed))

-- Closed fields of the same kinds that stand at one place are the same, wherever they end.
pub closed_same : (message : List ℕ) (place : ℕ) (fs gs : List Field) (a b : ℕ) → kinds_of fs ≡ kinds_of gs → are_open (kinds_of fs) ≡ false → FieldsAt message place fs a → FieldsAt message place gs b → AreSameFields fs gs
closed_same message place fs gs a b same closed s t =
    let ends = fields_end message place fs gs a b same closed s t in
    fields_same message place fs gs a same (closed_ordered (kinds_of fs) closed) s (subst (λ (e : ℕ). FieldsAt message place gs e) (sym ends) t)

fields_one : (fs gs : List Field) → AreSameFields fs gs → AllFit fs → AllFit gs → fs ≡ gs
fields_one [] [] same few small = refl
fields_one [] (g ∷ gs) same few small = absurd same
fields_one (f ∷ fs) [] same few small = absurd same
fields_one (f ∷ fs) (g ∷ gs) same few small =
    let one = field_once f g same.0 few.0 small.0 in
    ap (λ (x : Field). x ∷ fs) one ∙ ap (λ (xs : List Field). g ∷ xs) (fields_one fs gs same.1 few.1 small.1)

-- One place holds one list of fields of the same kinds whose numbers fit their octets.
pub fields_once : (message : List ℕ) (place : ℕ) (fs gs : List Field) (end : ℕ) → kinds_of fs ≡ kinds_of gs → AreOrdered (kinds_of fs) → AllFit fs → AllFit gs → FieldsAt message place fs end → FieldsAt message place gs end → fs ≡ gs
fields_once message place fs gs end same ordered few small s t = fields_one fs gs (fields_same message place fs gs end same ordered s t) few small
