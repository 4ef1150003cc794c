-- A printed label is read back.
use Rattle.std.proofs.Common.{◌≡◌, ◌≢◌, ℕ, ◌++◌, ◌||◌, ◌&&◌, ◌==◌, Bool, true, false, List, [], ◌∷◌, refl, sym, subst, arith}
use Rattle.std.specs.List.{flat_map, list_all}
use Rattle.std.proofs.lemmas.Bool.Decides.{nat_tests}
use Rattle.std.proofs.lemmas.List.{append_assoc}
use Rattle.dnw_label.specs.LabelPrint.{is_plain, octet_print, label_print}
use Rattle.dnw_label.specs.LabelText.{OctetText, plain, escaped, quoted, at_dot, LabelText, octet, starts_label, continues_label, is_label_text}

plain-no_dot : (first : Bool) (c : ℕ) → is_plain first c ≡ true → c ≢ 46
plain-no_dot true c h e = absurd (grind (arith, nat_tests))
plain-no_dot false c h e = absurd (grind (arith, nat_tests))

plain-no_slash : (first : Bool) (c : ℕ) → is_plain first c ≡ true → c ≢ 92
plain-no_slash true c h e = absurd (grind (arith, nat_tests))
plain-no_slash false c h e = absurd (grind (arith, nat_tests))

no_dot_test : (c : ℕ) → (c ≡ 46 → ⊥) → (c == 46) ≡ false
no_dot_test c other = grind (arith, nat_tests)

is_dot : (c : ℕ) → (c == 46) ≡ true → c ≡ 46
is_dot c e = grind (arith, nat_tests)

dot-reads : (first : Bool) (rest : List ℕ) → OctetText (octet_print first 46 ++ rest) 46 rest
dot-reads true rest = escaped 92 (46 ∷ rest) 46 rest refl (quoted 46 rest refl)
dot-reads false rest = escaped 92 (46 ∷ rest) 46 rest refl (quoted 46 rest refl)

octet-reads : (first : Bool) (c : ℕ) (rest : List ℕ) → (is_plain first c || c == 46) ≡ true → OctetText (octet_print first c ++ rest) c rest
octet-reads first c rest h = by_test (is_plain first c) refl
  where
    by_test : (b : Bool) → is_plain first c ≡ b → OctetText (octet_print first c ++ rest) c rest
    by_test true e = rw e (plain c rest (plain-no_slash first c e))
    by_test false e =
        let here : (c == 46) ≡ true = rw e at h in
        subst (λ (d : ℕ). OctetText (octet_print first d ++ rest) d rest) (sym (is_dot c here)) (dot-reads first rest)

-- A printed octet begins with no dot.
octet-no_dot : (first : Bool) (c : ℕ) (rest : List ℕ) → (is_plain first c || c == 46) ≡ true → at_dot (octet_print first c ++ rest) ≡ false
octet-no_dot first c rest h = by_test (is_plain first c) refl
  where
    slash_first : (turn : Bool) → at_dot (octet_print turn 46 ++ rest) ≡ false
    slash_first true = refl
    slash_first false = refl

    by_test : (b : Bool) → is_plain first c ≡ b → at_dot (octet_print first c ++ rest) ≡ false
    by_test true e = rw e (no_dot_test c (plain-no_dot first c e))
    by_test false e =
        let here : (c == 46) ≡ true = rw e at h in
        subst (λ (d : ℕ). at_dot (octet_print first d ++ rest) ≡ false) (sym (is_dot c here)) (slash_first first)

starts-printed : (c : ℕ) → starts_label c ≡ true → (is_plain true c || c == 46) ≡ true
starts-printed c h = grind (arith, nat_tests)

continues-printed : (c : ℕ) → continues_label c ≡ true → (is_plain false c || c == 46) ≡ true
continues-printed c h = grind (arith, nat_tests)

and-parts : (a b : Bool) → (a && b) ≡ true → (a ≡ true) × (b ≡ true)
and-parts true b e = (refl, e)
and-parts false b e = absurd (cc)

later-reads : (cs rest : List ℕ) → list_all continues_label cs ≡ true → LabelText rest [] rest → LabelText (flat_map (octet_print false) cs ++ rest) cs rest
later-reads [] rest h end = end
later-reads (c ∷ cs) rest h end =
    let parts = and-parts (continues_label c) (list_all continues_label cs) h in
    subst (λ (text : List ℕ). LabelText text (c ∷ cs) rest) (sym (append_assoc (octet_print false c) (flat_map (octet_print false) cs) rest))
    (octet (octet_print false c ++ (flat_map (octet_print false) cs ++ rest)) c (flat_map (octet_print false) cs ++ rest) cs rest
    (octet-no_dot false c (flat_map (octet_print false) cs ++ rest) (continues-printed c parts.0))
    (octet-reads false c (flat_map (octet_print false) cs ++ rest) (continues-printed c parts.0)) (later-reads cs rest parts.1 end))

pub label-reads : (label rest : List ℕ) → is_label_text label ≡ true → LabelText rest [] rest → LabelText (label_print label ++ rest) label rest
label-reads [] rest h end = absurd (cc)
label-reads (c ∷ cs) rest h end =
    let parts = and-parts (starts_label c) (list_all continues_label cs) h in
    subst (λ (text : List ℕ). LabelText text (c ∷ cs) rest) (sym (append_assoc (octet_print true c) (flat_map (octet_print false) cs) rest))
    (octet (octet_print true c ++ (flat_map (octet_print false) cs ++ rest)) c (flat_map (octet_print false) cs ++ rest) cs rest
    (octet-no_dot true c (flat_map (octet_print false) cs ++ rest) (starts-printed c parts.0))
    (octet-reads true c (flat_map (octet_print false) cs ++ rest) (starts-printed c parts.0)) (later-reads cs rest parts.1 end))
