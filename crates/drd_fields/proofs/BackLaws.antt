-- What is read where data were written is equal to them.
use Rattle.std.proofs.Common.{◌≡◌, ℕ, Bool, true, false, List, [], ◌∷◌, ◌++◌, length, map, refl, sym, ap, subst, ◌∙◌, arith}
use Rattle.std.specs.List.{flat_map}
use Rattle.std.proofs.lemmas.Bool.Decides.{nat_tests}
use Rattle.std.specs.Char.{to_ascii_lowercase}
use Rattle.std.specs.Str.{str_to_ascii_lowercase}
use Rattle.dnw_encoder.specs.dnw_name.DomainName.{DomainName, domain_name, name_octets}
use Rattle.dnw_encoder.specs.dnw_decoder.Octets.{octets_16, octets_32}
use Rattle.dnw_encoder.proofs.dnw_decoder_lemmas.SpellingLaws.{name_once}
use Rattle.dnw_encoder.proofs.dnw_decoder_lemmas.Standing.{stands_same, length-octets_32}
use Rattle.dnw_encoder.specs.Names.{encoded_name}
use Rattle.dnw_encoder.specs.declared.modes.NameEncoding.{NameEncoding}
use Rattle.dnw_encoder.specs.declared.modes.NameEncoding.TheVariants.{Compressed, Uncompressed, UncompressedLowercase}
use Rattle.drd_fields.specs.Fields.{Field, octet, short, long, name, string, strings, rest, kind_of, kinds_of, is_open, AreOrdered, StringsAt, FieldAt, FieldsAt}
use Rattle.drd_fields.specs.FieldLaws.{field_end, string_once, strings_forward}
use Rattle.drd_fields.specs.Writing.{encoded_field, encoded_fields, canonical_octets}
use Rattle.drd_fields.specs.Equality.{AreFull, canonical_field}

lower_octet : (c : ℕ) → to_ascii_lowercase (to_ascii_lowercase c) ≡ to_ascii_lowercase c
lower_octet c = grind (arith, nat_tests)

lower_label : (label : List ℕ) → str_to_ascii_lowercase (str_to_ascii_lowercase label) ≡ str_to_ascii_lowercase label
lower_label [] = refl
lower_label (c ∷ cs) =
    ap (λ (x : ℕ). x ∷ str_to_ascii_lowercase (str_to_ascii_lowercase cs)) (lower_octet c) ∙ ap (λ (xs : List ℕ). to_ascii_lowercase c ∷ xs) (lower_label cs)

lower_twice : (labels : List (List ℕ)) → map str_to_ascii_lowercase (map str_to_ascii_lowercase labels) ≡ map str_to_ascii_lowercase labels
lower_twice [] = refl
lower_twice (l ∷ ls) =
    ap (λ (x : List ℕ). x ∷ map str_to_ascii_lowercase (map str_to_ascii_lowercase ls)) (lower_label l) ∙ ap (λ (xs : List (List ℕ)). str_to_ascii_lowercase l ∷ xs) (lower_twice ls)

-- A name has the canonical octets of what it is written as.
canonical_encoded : (encoding : NameEncoding) (n : DomainName) → canonical_field (name (encoded_name encoding n)) ≡ canonical_field (name n)
canonical_encoded Compressed n = refl
canonical_encoded Uncompressed n = refl
canonical_encoded UncompressedLowercase n = ap (λ (ls : List (List ℕ)). name_octets (domain_name true ls)) (lower_twice n.labels)

pub strings_once : (message : List ℕ) (place : ℕ) (ss ts : List (List ℕ)) (end : ℕ) → StringsAt message place ss end → StringsAt message place ts end → ss ≡ ts
strings_once message place [] [] end s t = refl
strings_once message place [] (t ∷ ts) end s there =
    absurd (omega (arith, s, there.1.there.behind, strings_forward message there.0 ts end there.2))
strings_once message place (s ∷ ss) [] end there t =
    absurd (omega (arith, t, there.1.there.behind, strings_forward message there.0 ss end there.2))
strings_once message place (s ∷ ss) (t ∷ ts) end a b =
    let first = string_once message place s t a.0 b.0 a.1 b.1 in
    ap (λ (x : List ℕ). x ∷ ss) first.0 ∙ ap (λ (xs : List (List ℕ)). t ∷ xs) (strings_once message a.0 ss ts end a.2 (subst (λ (p : ℕ). StringsAt message p ts end) (sym first.1) b.2))

-- Fields of one kind that stand from one place to one end have the same canonical octets.
field_back : (message : List ℕ) (place : ℕ) (encoding : NameEncoding) (f g : Field) (end : ℕ) → kind_of f ≡ kind_of g → FieldAt message place (encoded_field encoding f) end → FieldAt message place g end → canonical_field f ≡ canonical_field g
field_back message place encoding (octet n) (octet m) end same s t = (stands_same message place (n ∷ []) (m ∷ []) end end refl s t).0
field_back message place encoding (short n) (short m) end same s t = (stands_same message place (octets_16 n) (octets_16 m) end end refl s t).0
field_back message place encoding (long n) (long m) end same s t = (stands_same message place (octets_32 n) (octets_32 m) end end (length-octets_32 n ∙ sym (length-octets_32 m)) s t).0
field_back message place encoding (name n) (name m) end same s t =
    sym (canonical_encoded encoding n) ∙ ap (λ (d : DomainName). canonical_field (name d)) (name_once message place (encoded_name encoding n) m end end s t).0
field_back message place encoding (string x) (string y) end same s t = ap (λ (o : List ℕ). length o ∷ o) (string_once message place x y end end s t).0
field_back message place encoding (strings xs) (strings ys) end same s t = ap (flat_map (λ (o : List ℕ). length o ∷ o)) (strings_once message place xs ys end s t)
field_back message place encoding (rest x) (rest y) end same s t = (stands_same message place x y end end (omega (arith, s.behind, t.behind)) s t).0
field_back message place encoding f g end same s t = absurd (grind (arith, same))

encoded_kind : (encoding : NameEncoding) (f : Field) → kind_of (encoded_field encoding f) ≡ kind_of f
encoded_kind encoding (octet n) = refl
encoded_kind encoding (short n) = refl
encoded_kind encoding (long n) = refl
encoded_kind encoding (name n) = refl
encoded_kind encoding (string s) = refl
encoded_kind encoding (strings ss) = refl
encoded_kind encoding (rest o) = refl

no_fields_end : (message : List ℕ) (place : ℕ) (fs : List Field) (end : ℕ) → kinds_of fs ≡ [] → FieldsAt message place fs end → end ≡ place
no_fields_end message place [] end e there = there
no_fields_end message place (f ∷ fs) end e there = absurd (cc e)

no_encoded_end : (message : List ℕ) (place : ℕ) (encoding : NameEncoding) (fs : List Field) (end : ℕ) → kinds_of fs ≡ [] → FieldsAt message place (encoded_fields encoding fs) end → end ≡ place
no_encoded_end message place encoding [] end e there = there
no_encoded_end message place encoding (f ∷ fs) end e there = absurd (cc e)

-- The first fields end at one place: by their octets, or since they are the last.
firsts_end : (message : List ℕ) (place : ℕ) (encoding : NameEncoding) (f g : Field) (fs gs : List Field) (a b end : ℕ) (opens : Bool) → is_open (kind_of f) ≡ opens → kind_of f ≡ kind_of g → kinds_of fs ≡ kinds_of gs → AreOrdered (kind_of f ∷ kinds_of fs) → FieldAt message place (encoded_field encoding f) a → FieldsAt message a (encoded_fields encoding fs) end → FieldAt message place g b → FieldsAt message b gs end → a ≡ b
firsts_end message place encoding f g fs gs a b end true is same later ordered s ss t ts =
    let none : kinds_of fs ≡ [] = ordered.0 is in
    sym (no_encoded_end message a encoding fs end none ss) ∙ no_fields_end message b gs end (sym later ∙ none) ts
firsts_end message place encoding f g fs gs a b end false is same later ordered s ss t ts =
    field_end message place (encoded_field encoding f) g a b (encoded_kind encoding f ∙ same) (ap is_open (encoded_kind encoding f) ∙ is) s t

pub fields_back : (message : List ℕ) (place : ℕ) (encoding : NameEncoding) (fs gs : List Field) (end : ℕ) → kinds_of fs ≡ kinds_of gs → AreOrdered (kinds_of fs) → FieldsAt message place (encoded_fields encoding fs) end → FieldsAt message place gs end → canonical_octets fs ≡ canonical_octets gs
fields_back message place encoding [] [] end same ordered s t = refl
fields_back message place encoding [] (g ∷ gs) end same ordered s t = absurd (cc same)
fields_back message place encoding (f ∷ fs) [] end same ordered s t = absurd (cc same)
fields_back message place encoding (f ∷ fs) (g ∷ gs) end same ordered s t =
    let first : kind_of f ≡ kind_of g = cc same in
    let later : kinds_of fs ≡ kinds_of gs = cc same in
    let ends : s.0 ≡ t.0 = firsts_end message place encoding f g fs gs s.0 t.0 end (is_open (kind_of f)) refl first later ordered s.1 s.2 t.1 t.2 in
    let one = field_back message place encoding f g s.0 first s.1 (subst (λ (e : ℕ). FieldAt message place g e) (sym ends) t.1) in
    let others = fields_back message s.0 encoding fs gs end later ordered.1 s.2 (subst (λ (p : ℕ). FieldsAt message p gs end) (sym ends) t.2) in
    ap (λ (o : List ℕ). o ++ canonical_octets fs) one ∙ ap (λ (o : List ℕ). canonical_field g ++ o) others

-- Names that are read are fully qualified.
pub fields_full : (message : List ℕ) (place : ℕ) (fs : List Field) (end : ℕ) → FieldsAt message place fs end → AreFull fs
fields_full message place [] end there = tt
fields_full message place (octet n ∷ fs) end there = (tt, fields_full message there.0 fs end there.2)
fields_full message place (short n ∷ fs) end there = (tt, fields_full message there.0 fs end there.2)
fields_full message place (long n ∷ fs) end there = (tt, fields_full message there.0 fs end there.2)
fields_full message place (name n ∷ fs) end there = (there.1.full, fields_full message there.0 fs end there.2)
fields_full message place (string s ∷ fs) end there = (tt, fields_full message there.0 fs end there.2)
fields_full message place (strings ss ∷ fs) end there = (tt, fields_full message there.0 fs end there.2)
fields_full message place (rest o ∷ fs) end there = (tt, fields_full message there.0 fs end there.2)
