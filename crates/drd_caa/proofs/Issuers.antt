-- The values of issuers.
use Rattle.std.proofs.Common.{◌≡◌, ◌≢◌, ◌∙◌, ◌++◌, ◌==◌, ◌&&◌, ◌+◌, ℕ, Bool, true, false, not, List, [], ◌∷◌, refl, ap, sym, subst, arith, ◌⊎◌, inl, inr, Option, None, Some, Result, Ok, Err, IfOk, IfErr}
use Rattle.std.specs.Prelude.{MatchResult, All, nat_le, if◌then◌else◌, ◌/◌, ◌%◌}
use Rattle.std.specs.List.{list_all, flat_map}
use Rattle.std.proofs.lemmas.Bool.{and_from}
use Rattle.std.proofs.lemmas.Bool.Decides.{nat_tests}
use Rattle.std.proofs.lemmas.List.{append-nil}
use Rattle.std.proofs.lemmas.List.Elements.{All-head, All-tail}
use Rattle.std.proofs.lemmas.List.Folds.{list_all-append}
use Rattle.drd_words.specs.dnw_codes.declared.error.ProtoError.{ProtoError}
use Rattle.drd_words.specs.dnw_codes.ProtoError.{IsMemory}
use Rattle.drd_words.specs.dnw_label.LabelPrint.{is_plain, octal_print, octet_print, label_print}
use Rattle.drd_words.specs.dnw_name.DomainName.{DomainName}
use Rattle.drd_words.specs.dnw_name.NamePrint.{name_print, labels_print}
use Rattle.drd_words.specs.dnw_name.NameText.{NameText}
use Rattle.drd_words.proofs.dnw_name_lemmas.TextLemmas.{name-same}
use Rattle.drd_words.specs.Words.{EachWord}
use Rattle.drd_words.specs.dnw_codes.Ascii.{is_blank}
use Rattle.drd_caa.specs.Issue.{Parameter, trim, is_key, is_value, IsParameter, AreParameters, IsIssuer, AreIssueParts, IsIssueValue, parameter_print, issue_value, CanIssue, AreFit}
use Rattle.drd_caa.proofs.Blanks.{all_trimmed, trimmed-same, trimmed-space}
use Rattle.drd_caa.proofs.Cuts.{lacks, parts_of_one, parts_of_more}
use Rattle.drd_caa.proofs.Parameters.{parts_of, parameter_once, all_weaker, in_key, in_value, key_octets, are_parameters, no_parameter}

-- Where no issuer or no parameter stands, there is no value.
pub no_issuer : {M : Type 0} (octets front : List ℕ) (parts : List (List ℕ)) → parts_of octets ≡ front ∷ parts → M ⊎ ((issuer : Option DomainName) → IsIssuer issuer front → ⊥) → M ⊎ ((issuer : Option DomainName) (ps : List Parameter) → IsIssueValue octets issuer ps → ⊥)
no_issuer octets front parts e (inl m) = inl m
no_issuer octets front parts e (inr none) = inr (λ issuer ps h.
    none issuer (subst (λ (all : List (List ℕ)). AreIssueParts all issuer ps) e h).0)

pub no_parameters : {M : Type 0} (octets front : List ℕ) (parts : List (List ℕ)) → parts_of octets ≡ front ∷ parts → M ⊎ ((ps : List Parameter) → AreParameters parts ps → ⊥) → M ⊎ ((issuer : Option DomainName) (ps : List Parameter) → IsIssueValue octets issuer ps → ⊥)
no_parameters octets front parts e (inl m) = inl m
no_parameters octets front parts e (inr none) = inr (λ issuer ps h.
    none ps (subst (λ (all : List (List ℕ)). AreIssueParts all issuer ps) e h).1)

pub is_value_of : (octets front : List ℕ) (parts : List (List ℕ)) (issuer : Option DomainName) (ps : List Parameter) → parts_of octets ≡ front ∷ parts → IsIssuer issuer front → AreParameters parts ps → IsIssueValue octets issuer ps
is_value_of octets front parts issuer ps e i p = subst (λ (all : List (List ℕ)). AreIssueParts all issuer ps) (sym e) (i, p)

-- Printed names have no blanks.
abbrev pub solid : List ℕ → Bool
solid xs = list_all (λ c. not (is_blank c)) xs

digit-solid : (n : ℕ) → not (is_blank (48 + n)) ≡ true
digit-solid n = grind (arith, nat_tests)

plain-solid : (first : Bool) (c : ℕ) → is_plain first c ≡ true → not (is_blank c) ≡ true
plain-solid true c h = grind (arith, nat_tests)
plain-solid false c h = grind (arith, nat_tests)

shown-solid : (c : ℕ) → (nat_le 33 c && nat_le c 126) ≡ true → not (is_blank c) ≡ true
shown-solid c h = grind (arith, nat_tests)

octal-solid : (c : ℕ) → solid (92 ∷ octal_print c) ≡ true
octal-solid c =
    and_from (not (is_blank (48 + c / 64))) (solid ((48 + c / 8 % 8) ∷ (48 + c % 8) ∷ [])) (digit-solid (c / 64))
    (and_from (not (is_blank (48 + c / 8 % 8))) (solid ((48 + c % 8) ∷ [])) (digit-solid (c / 8 % 8))
    (and_from (not (is_blank (48 + c % 8))) true (digit-solid (c % 8)) refl))

one-solid : (c : ℕ) (b d : Bool) → (b ≡ true → not (is_blank c) ≡ true) → (d ≡ true → not (is_blank c) ≡ true) → solid (if b then c ∷ [] else (if d then 92 ∷ c ∷ [] else 92 ∷ octal_print c)) ≡ true
one-solid c true d h k = and_from (not (is_blank c)) true (h refl) refl
one-solid c false true h k = and_from (not (is_blank c)) true (k refl) refl
one-solid c false false h k = octal-solid c

octet-solid : (first : Bool) (c : ℕ) → solid (octet_print first c) ≡ true
octet-solid first c = one-solid c (is_plain first c) (nat_le 33 c && nat_le c 126) (plain-solid first c) (shown-solid c)

append-solid : (xs ys : List ℕ) → solid xs ≡ true → solid ys ≡ true → solid (xs ++ ys) ≡ true
append-solid xs ys h k = list_all-append (λ c. not (is_blank c)) xs ys ∙ and_from (solid xs) (solid ys) h k

each-solid : {X : Type 0} (f : X → List ℕ) → ((x : X) → solid (f x) ≡ true) → (xs : List X) → solid (flat_map f xs) ≡ true
each-solid f h [] = refl
each-solid f h (x ∷ xs) = append-solid (f x) (flat_map f xs) (h x) (each-solid f h xs)

label-solid : (label : List ℕ) → solid (label_print label) ≡ true
label-solid [] = refl
label-solid (c ∷ cs) = append-solid (octet_print true c) (flat_map (octet_print false) cs) (octet-solid true c) (each-solid (octet_print false) (octet-solid false) cs)

labels-solid : (ls : List (List ℕ)) → solid (labels_print ls) ≡ true
labels-solid [] = refl
labels-solid (l ∷ ls) = append-solid (label_print l) (flat_map (λ later. 46 ∷ label_print later) ls) (label-solid l) (each-solid (λ later. 46 ∷ label_print later) label-solid ls)

end-solid : (f : Bool) → solid (if f then 46 ∷ [] else []) ≡ true
end-solid true = refl
end-solid false = refl

name-solid : (name : DomainName) → solid (name_print name) ≡ true
name-solid name = append-solid (labels_print name.labels) (if name.fqdn then 46 ∷ [] else []) (labels-solid name.labels) (end-solid name.fqdn)

-- What is written reads back.
abbrev tail_of : Parameter → List ℕ
tail_of p = 32 ∷ (p.key ++ 61 ∷ p.value)

key-solid : (c : ℕ) → in_key c ≡ true → not (is_blank c) ≡ true
key-solid c h = grind (arith, nat_tests)

value-solid : (c : ℕ) → in_value c ≡ true → not (is_blank c) ≡ true
value-solid c h = grind (arith, nat_tests)

key-no_semicolon : (c : ℕ) → in_key c ≡ true → not (c == 59) ≡ true
key-no_semicolon c h = grind (arith, nat_tests)

value-no_semicolon : (c : ℕ) → in_value c ≡ true → not (c == 59) ≡ true
value-no_semicolon c h = grind (arith, nat_tests)

tail-is : (p : Parameter) → is_key p.key ≡ true → is_value p.value ≡ true → IsParameter p (tail_of p)
tail-is p k v = (
  32 ∷ p.key,
  p.value,
  refl,
  trimmed-space p.key ∙ trimmed-same p.key (all_weaker in_key (λ c. not (is_blank c)) key-solid p.key (key_octets p.key k)),
  trimmed-same p.value (all_weaker in_value (λ c. not (is_blank c)) value-solid p.value v),
  k,
  v,
)

tail-lacks : (p : Parameter) → is_key p.key ≡ true → is_value p.value ≡ true → lacks 59 (tail_of p) ≡ true
tail-lacks p k v =
    list_all-append (λ c. not (c == 59)) p.key (61 ∷ p.value)
    ∙ and_from (lacks 59 p.key) (lacks 59 (61 ∷ p.value)) (all_weaker in_key (λ c. not (c == 59)) key-no_semicolon p.key (key_octets p.key k))
    (all_weaker in_value (λ c. not (c == 59)) value-no_semicolon p.value v)

abbrev Fits : Parameter → Type 0
Fits p = (is_key p.key ≡ true) × (is_value p.value ≡ true)

parts-printed : (front : List ℕ) (ps : List Parameter) → lacks 59 front ≡ true → All Fits ps → (parts : List (List ℕ)) × (parts_of (front ++ flat_map parameter_print ps) ≡ front ∷ parts) × EachWord IsParameter ps parts
parts-printed front [] h fit = ([], ap parts_of (append-nil front) ∙ parts_of_one front h, tt)
parts-printed front (p ∷ ps) h fit =
    let one = All-head Fits p ps fit in
    let rest = parts-printed (tail_of p) ps (tail-lacks p one.0 one.1) (All-tail Fits p ps fit) in
    (tail_of p ∷ rest.0, parts_of_more front (tail_of p ++ flat_map parameter_print ps) h ∙ ap (λ l. front ∷ l) rest.1, (tail-is p one.0 one.1, rest.2))

issuer-printed : (name : DomainName) → name_print name ≢ [] → NameText (name_print name) name → IsIssuer (Some name) (name_print name)
issuer-printed name some text =
    let same = trimmed-same (name_print name) (name-solid name) in
    (λ e. some (sym same ∙ e), subst (λ (t : List ℕ). NameText t name) (sym same) text)

pub value-reads : (issuer : Option DomainName) (ps : List Parameter) → CanIssue issuer → AreFit ps → IsIssueValue (issue_value issuer ps) issuer ps
value-reads None [] can fit = (trimmed-same [] refl, trimmed-same [] refl)
value-reads None (p ∷ ps) can fit =
    let found = parts-printed [] (p ∷ ps) refl fit in
    is_value_of (issue_value None (p ∷ ps)) [] found.0 None (p ∷ ps) found.1 (trimmed-same [] refl) (are_parameters found.0 (p ∷ ps) found.2)
value-reads (Some name) ps can fit =
    let found = parts-printed (name_print name) ps can.1 fit in
    is_value_of (issue_value (Some name) ps) (name_print name) found.0 (Some name) ps found.1 (issuer-printed name can.0 can.2) (are_parameters found.0 ps found.2)

-- A value is that of one issuer and of one list of parameters.
issuer-once : (octets : List ℕ) (i j : Option DomainName) → IsIssuer i octets → IsIssuer j octets → i ≡ j
issuer-once octets None None h k = refl
issuer-once octets None (Some m) h k = absurd (k.0 h)
issuer-once octets (Some n) None h k = absurd (h.0 k)
issuer-once octets (Some n) (Some m) h k = ap (λ x. Some x) (name-same (trim octets) n m h.1 k.1)

each-once : (ps qs : List Parameter) (parts : List (List ℕ)) → EachWord IsParameter ps parts → EachWord IsParameter qs parts → ps ≡ qs
each-once [] [] parts h k = refl
each-once [] (q ∷ qs) [] h k = absurd k
each-once [] (q ∷ qs) (o ∷ parts) h k = absurd h
each-once (p ∷ ps) [] [] h k = absurd h
each-once (p ∷ ps) [] (o ∷ parts) h k = absurd k
each-once (p ∷ ps) (q ∷ qs) [] h k = absurd h
each-once (p ∷ ps) (q ∷ qs) (o ∷ parts) h k = ap (λ x. x ∷ ps) (parameter_once o p q h.0 k.0) ∙ ap (λ xs. q ∷ xs) (each-once ps qs parts h.1 k.1)

blank-no_equals : (c : ℕ) → is_blank c ≡ true → not (c == 61) ≡ true
blank-no_equals c h = grind (arith, nat_tests)

no_parameter_blank : (octets : List ℕ) (p : Parameter) → trim octets ≡ [] → IsParameter p octets → ⊥
no_parameter_blank octets p e h = no_parameter octets (all_trimmed (λ c. not (c == 61)) blank-no_equals octets (ap (lacks 61) e)) p h

parameters-once : (parts : List (List ℕ)) (ps qs : List Parameter) → AreParameters parts ps → AreParameters parts qs → ps ≡ qs
parameters-once [] ps qs h k = h ∙ sym k
parameters-once (o ∷ []) [] [] h k = refl
parameters-once (o ∷ []) [] (q ∷ qs) h k = absurd (no_parameter_blank o q h k.0)
parameters-once (o ∷ []) (p ∷ ps) [] h k = absurd (no_parameter_blank o p k h.0)
parameters-once (o ∷ []) (p ∷ ps) (q ∷ qs) h k = each-once (p ∷ ps) (q ∷ qs) (o ∷ []) h k
parameters-once (o ∷ next ∷ parts) [] qs h k = absurd h
parameters-once (o ∷ next ∷ parts) (p ∷ ps) [] h k = absurd k
parameters-once (o ∷ next ∷ parts) (p ∷ ps) (q ∷ qs) h k = each-once (p ∷ ps) (q ∷ qs) (o ∷ next ∷ parts) h k

pub value-once : (parts : List (List ℕ)) (i j : Option DomainName) (ps qs : List Parameter) → AreIssueParts parts i ps → AreIssueParts parts j qs → (i ≡ j) × (ps ≡ qs)
value-once [] i j ps qs h k = absurd h
value-once (o ∷ parts) i j ps qs h k = (issuer-once o i j h.0 k.0, parameters-once parts ps qs h.1 k.1)

-- What is read of a value that was made.
pub reads-back : {V : Type 0} (items : V → List Parameter) (octets : List ℕ) (r : Result (Option DomainName × V) ProtoError) → IfOk r (λ found. IsIssueValue octets found.0 (items found.1)) → IfErr r (λ e. IsMemory e ⊎ ((issuer : Option DomainName) (ps : List Parameter) → IsIssueValue octets issuer ps → ⊥)) → (issuer : Option DomainName) (ps : List Parameter) → octets ≡ issue_value issuer ps → CanIssue issuer → AreFit ps → MatchResult r (λ found. (found.0 ≡ issuer) × (items found.1 ≡ ps)) (λ e. IsMemory e)
reads-back items octets (Ok found) h k issuer ps e can fit =
    value-once (parts_of octets) found.0 issuer (items found.1) ps h (subst (λ (o : List ℕ). IsIssueValue o issuer ps) (sym e) (value-reads issuer ps can fit))
reads-back items octets (Err refused) h (inl m) issuer ps e can fit = m
reads-back items octets (Err refused) h (inr none) issuer ps e can fit =
    absurd (none issuer ps (subst (λ (o : List ℕ). IsIssueValue o issuer ps) (sym e) (value-reads issuer ps can fit)))
