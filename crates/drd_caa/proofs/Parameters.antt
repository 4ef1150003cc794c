-- The parameters of an issuer.
use Rattle.std.proofs.Common.{◌≡◌, ◌∙◌, ◌++◌, ◌==◌, ◌&&◌, ◌||◌, ℕ, Bool, true, false, not, List, [], ◌∷◌, length, refl, ap, sym, subst, arith, ◌⊎◌, inl, inr}
use Rattle.std.specs.Char.{is_ascii_alphanumeric}
use Rattle.std.specs.List.{list_all, slice_split}
use Rattle.std.specs.Prelude.{nat_le, slice_index, ◌-◌}
use Rattle.std.proofs.lemmas.Bool.{and_parts, and_from, both_ways}
use Rattle.std.proofs.lemmas.Bool.Decides.{nat_tests}
use Rattle.std.proofs.lemmas.List.{append_assoc}
use Rattle.std.specs.Str.{IsUtf8}
use Rattle.std.specs.Prelude.{All, ◌<◌}
use Rattle.std.proofs.lemmas.Str.{IsUtf8-from_ascii}
use Rattle.std.proofs.lemmas.Str.Ascii.{IsAscii-from_all}
use Rattle.std.proofs.lemmas.List.Elements.{All-nil, All-cons}
use Rattle.drd_words.specs.Words.{EachWord}
use Rattle.std.specs.Prelude.{MatchOption, Option, None, Some, Result, Ok, Err, IfOk, IfErr}
use Rattle.std.specs.Borrow.{Bor}
use Rattle.std.proofs.lemmas.List.Splits.{join_with_byte-slice_split}
use Rattle.std.specs.List.{join_with_byte}
use Rattle.drd_words.specs.dnw_codes.Ascii.{is_blank}
use Rattle.drd_caa.specs.Issue.{Parameter, parameter, trim, is_key, is_value, IsParameter, AreParameters}
use Rattle.drd_caa.proofs.Blanks.{all_trimmed}
use Rattle.drd_caa.proofs.Cuts.{lacks, semicolon, cut_once, no_cut, parts_of_one, parts_of_more}

-- Of all octets of a list that pass p, each passes q.
pub all_weaker : (p q : ℕ → Bool) → ((c : ℕ) → p c ≡ true → q c ≡ true) → (xs : List ℕ) → list_all p xs ≡ true → list_all q xs ≡ true
all_weaker p q h [] all = refl
all_weaker p q h (x ∷ xs) all =
    let parts = and_parts (p x) (list_all p xs) all in
    and_from (q x) (list_all q xs) (h x parts.0) (all_weaker p q h xs parts.1)

abbrev pub in_key : ℕ → Bool
in_key c = is_ascii_alphanumeric c || c == 45

abbrev pub in_value : ℕ → Bool
in_value c = nat_le 33 c && nat_le c 126 && not (c == 59)

pub key_octets : (key : List ℕ) → is_key key ≡ true → list_all in_key key ≡ true
key_octets key h = (and_parts (is_ascii_alphanumeric (slice_index key 0) && is_ascii_alphanumeric (slice_index key (length key - 1))) (list_all in_key key) h).1

in_key-no_equals : (c : ℕ) → in_key c ≡ true → not (c == 61) ≡ true
in_key-no_equals c h = grind (arith, nat_tests)

blank-no_equals : (c : ℕ) → is_blank c ≡ true → not (c == 61) ≡ true
blank-no_equals c h = grind (arith, nat_tests)

pub key-no_equals : (key : List ℕ) → is_key key ≡ true → lacks 61 key ≡ true
key-no_equals key h = all_weaker in_key (λ c. not (c == 61)) in_key-no_equals key (key_octets key h)

-- What stands before the first `=` is the key, what stands behind it the value.
pub parameter_is : (octets front behind : List ℕ) → lacks 61 front ≡ true → octets ≡ front ++ 61 ∷ behind → (p : Parameter) → IsParameter p octets → (trim front ≡ p.key) × (trim behind ≡ p.value) × (is_key p.key ≡ true) × (is_value p.value ≡ true)
parameter_is octets front behind none e p (first, second, parts, key, value, fit, fits) =
    let lack : lacks 61 first ≡ true = all_trimmed (λ c. not (c == 61)) blank-no_equals first (ap (lacks 61) key ∙ key-no_equals p.key fit) in
    let same = cut_once 61 front first behind second none lack (sym e ∙ parts) in
    (ap trim same.0 ∙ key, ap trim same.1 ∙ value, fit, fits)

pub no_parameter : (octets : List ℕ) → lacks 61 octets ≡ true → (p : Parameter) → IsParameter p octets → ⊥
no_parameter octets none p h = no_cut 61 octets h.0 h.1 none h.2

pub parameter_once : (octets : List ℕ) (p q : Parameter) → IsParameter p octets → IsParameter q octets → p ≡ q
parameter_once octets p q (first, second, parts, key, value, fit, fits) h =
    let lack : lacks 61 first ≡ true = all_trimmed (λ c. not (c == 61)) blank-no_equals first (ap (lacks 61) key ∙ key-no_equals p.key fit) in
    let same = parameter_is octets first second lack parts q h in
    ap (λ k. parameter k p.value) (sym key ∙ same.0) ∙ ap (parameter q.key) (sym value ∙ same.1)

abbrev pub parts_of : List ℕ → List (List ℕ)
parts_of octets = slice_split semicolon octets

-- The parameters that were read, and the octets that are left.
pub record Ahead (octets : List ℕ) (read : List Parameter) (rest : List ℕ) : Type 0 where
  pub sound : (later : List Parameter) → EachWord IsParameter later (parts_of rest) → EachWord IsParameter (read ++ later) (parts_of octets)
  pub only : (all : List Parameter) → EachWord IsParameter all (parts_of octets) → (later : List Parameter) × (all ≡ read ++ later) × EachWord IsParameter later (parts_of rest)

pub ahead-start : (octets : List ℕ) → Ahead octets [] octets
ahead-start octets = record { sound = λ later h. h; only = λ all h. (all, refl, h) }

first_of_each : (p : Parameter) (part : List ℕ) (parts : List (List ℕ)) → IsParameter p part → (all : List Parameter) → EachWord IsParameter all (part ∷ parts) → (later : List Parameter) × (all ≡ p ∷ later) × EachWord IsParameter later parts
first_of_each p part parts one [] h = absurd h
first_of_each p part parts one (q ∷ qs) h = (qs, ap (λ x. x ∷ qs) (parameter_once part q p h.0 one), h.1)

pub ahead-more : (octets : List ℕ) (read longer : List Parameter) (rest part behind : List ℕ) (p : Parameter) → Ahead octets read rest → IsParameter p part → parts_of rest ≡ part ∷ parts_of behind → longer ≡ read ++ p ∷ [] → Ahead octets longer behind
ahead-more octets read longer rest part behind p h one cut e =
    subst (λ (l : List Parameter). Ahead octets l behind) (sym e) (record {
      sound = λ later each.
          subst (λ (l : List Parameter). EachWord IsParameter l (parts_of octets)) (sym (append_assoc read (p ∷ []) later))
          (h.sound (p ∷ later) (subst (λ (ps : List (List ℕ)). EachWord IsParameter (p ∷ later) ps) (sym cut) (one, each)));
      only = λ all each.
          let old = h.only all each in
          let new = first_of_each p part (parts_of behind) one old.0 (subst (λ (ps : List (List ℕ)). EachWord IsParameter old.0 ps) cut old.2) in
          (new.0, old.1 ∙ ap (λ l. read ++ l) new.1 ∙ sym (append_assoc read (p ∷ []) new.0), new.2);
    })

pub ahead-end : (octets : List ℕ) (read longer : List Parameter) (rest part : List ℕ) (p : Parameter) → Ahead octets read rest → IsParameter p part → parts_of rest ≡ part ∷ [] → longer ≡ read ++ p ∷ [] → EachWord IsParameter longer (parts_of octets)
ahead-end octets read longer rest part p h one cut e =
    subst (λ (l : List Parameter). EachWord IsParameter l (parts_of octets)) (sym e)
    (h.sound (p ∷ []) (subst (λ (ps : List (List ℕ)). EachWord IsParameter (p ∷ []) ps) (sym cut) (one, tt)))

none_at_first : (part : List ℕ) (parts : List (List ℕ)) → ((p : Parameter) → IsParameter p part → ⊥) → (all : List Parameter) → EachWord IsParameter all (part ∷ parts) → ⊥
none_at_first part parts none [] h = h
none_at_first part parts none (q ∷ qs) h = none q h.0

pub ahead-none : {M : Type 0} (octets : List ℕ) (read : List Parameter) (rest part : List ℕ) (parts : List (List ℕ)) → Ahead octets read rest → parts_of rest ≡ part ∷ parts → M ⊎ ((p : Parameter) → IsParameter p part → ⊥) → M ⊎ ((ps : List Parameter) → EachWord IsParameter ps (parts_of octets) → ⊥)
ahead-none octets read rest part parts h cut (inl m) = inl m
ahead-none octets read rest part parts h cut (inr none) = inr (λ all each.
    let old = h.only all each in
    none_at_first part parts none old.0 (subst (λ (ps : List (List ℕ)). EachWord IsParameter old.0 ps) cut old.2))

all-ascii : (p : ℕ → Bool) → ((c : ℕ) → p c ≡ true → c < 128) → (xs : List ℕ) → list_all p xs ≡ true → All (λ c. c < 128) xs
all-ascii p h [] all = All-nil (λ c. c < 128)
all-ascii p h (x ∷ xs) all =
    let parts = and_parts (p x) (list_all p xs) all in
    All-cons (λ c. c < 128) x xs (h x parts.0) (all-ascii p h xs parts.1)

in_key-ascii : (c : ℕ) → in_key c ≡ true → c < 128
in_key-ascii c h = grind (arith, nat_tests)

in_value-ascii : (c : ℕ) → in_value c ≡ true → c < 128
in_value-ascii c h = grind (arith, nat_tests)

pub key-IsUtf8 : (key : List ℕ) → is_key key ≡ true → IsUtf8 key
key-IsUtf8 key h = IsUtf8-from_ascii key (IsAscii-from_all key (all-ascii in_key in_key-ascii key (key_octets key h)))

pub value-IsUtf8 : (value : List ℕ) → is_value value ≡ true → IsUtf8 value
value-IsUtf8 value h = IsUtf8-from_ascii value (IsAscii-from_all value (all-ascii in_value in_value-ascii value h))

pub for_memory : {M N U : Type 0} → M ⊎ (N × (U → ⊥)) → U → M
for_memory (inl m) u = m
for_memory (inr h) u = absurd (h.1 u)

pub bad_key : {M : Type 0} (octets front behind key : List ℕ) → lacks 61 front ≡ true → octets ≡ front ++ 61 ∷ behind → key ≡ trim front → is_key key ≡ false → M ⊎ ((p : Parameter) → IsParameter p octets → ⊥)
bad_key octets front behind key none e is bad = inr (λ p h.
    let found = parameter_is octets front behind none e p h in
    both_ways (is_key p.key) (sym (ap is_key (is ∙ found.0)) ∙ bad) found.2)

pub bad_value : {M : Type 0} (octets front behind value : List ℕ) → lacks 61 front ≡ true → octets ≡ front ++ 61 ∷ behind → value ≡ trim behind → is_value value ≡ false → M ⊎ ((p : Parameter) → IsParameter p octets → ⊥)
bad_value octets front behind value none e is bad = inr (λ p h.
    let found = parameter_is octets front behind none e p h in
    both_ways (is_value p.value) (sym (ap is_value (is ∙ found.1)) ∙ bad) found.3)

-- What a cut says of the parts.
pub cut_end : (rest part : List ℕ) → lacks 59 part ≡ true → rest ≡ part → parts_of rest ≡ part ∷ []
cut_end rest part h e = ap parts_of e ∙ parts_of_one part h

pub cut_more : (rest part later : List ℕ) → lacks 59 part ≡ true → rest ≡ part ++ 59 ∷ later → parts_of rest ≡ part ∷ parts_of later
cut_more rest part later h e = ap parts_of e ∙ parts_of_more part later h

pub cut_some : (rest part : List ℕ) (o : Option (Bor (List ℕ))) → lacks 59 part ≡ true → MatchOption o (rest ≡ part) (λ later. rest ≡ part ++ 59 ∷ later.now) → (parts : List (List ℕ)) × (parts_of rest ≡ part ∷ parts)
cut_some rest part None h e = ([], cut_end rest part h e)
cut_some rest part (Some later) h e = (parts_of later.now, cut_more rest part later.now h e)

-- Parameters, or blanks.
pub are_parameters : (parts : List (List ℕ)) (ps : List Parameter) → EachWord IsParameter ps parts → AreParameters parts ps
are_parameters [] [] h = refl
are_parameters [] (p ∷ ps) h = absurd h
are_parameters (o ∷ []) [] h = absurd h
are_parameters (o ∷ []) (p ∷ ps) h = h
are_parameters (o ∷ next ∷ parts) [] h = h
are_parameters (o ∷ next ∷ parts) (p ∷ ps) h = h

each_of : (octets : List ℕ) (parts : List (List ℕ)) → parts_of octets ≡ parts → (trim octets ≡ [] → ⊥) → (ps : List Parameter) → AreParameters parts ps → EachWord IsParameter ps parts
each_of octets [] e some [] h = tt
each_of octets [] e some (p ∷ ps) h = absurd (cc)
each_of octets (o ∷ []) e some [] h =
    let same : octets ≡ o = sym (join_with_byte-slice_split 59 octets) ∙ ap (join_with_byte 59) e in
    some (ap trim same ∙ h)
each_of octets (o ∷ []) e some (p ∷ ps) h = h
each_of octets (o ∷ next ∷ parts) e some [] h = h
each_of octets (o ∷ next ∷ parts) e some (p ∷ ps) h = h

pub none_each : {M : Type 0} (octets : List ℕ) → (trim octets ≡ [] → ⊥) → M ⊎ ((ps : List Parameter) → EachWord IsParameter ps (parts_of octets) → ⊥) → M ⊎ ((ps : List Parameter) → AreParameters (parts_of octets) ps → ⊥)
none_each octets some (inl m) = inl m
none_each octets some (inr none) = inr (λ ps h. none ps (each_of octets (parts_of octets) refl some ps h))

blank-no_semicolon : (c : ℕ) → is_blank c ≡ true → not (c == 59) ≡ true
blank-no_semicolon c h = grind (arith, nat_tests)

pub blanks_alone : (octets : List ℕ) → trim octets ≡ [] → AreParameters (parts_of octets) []
blanks_alone octets e =
    let none : lacks 59 octets ≡ true = all_trimmed (λ c. not (c == 59)) blank-no_semicolon octets (ap (lacks 59) e) in
    subst (λ (parts : List (List ℕ)). AreParameters parts []) (sym (parts_of_one octets none)) e

pub no_octets : (xs : List ℕ) → length xs ≡ 0 → xs ≡ []
no_octets [] e = refl
no_octets (x ∷ xs) e = absurd (omega arith)

pub ok_parameters : {V E : Type 0} (items : V → List Parameter) (octets : List ℕ) (r : Result V E) → IfOk r (λ v. EachWord IsParameter (items v) (parts_of octets)) → IfOk r (λ v. AreParameters (parts_of octets) (items v))
ok_parameters items octets (Ok v) h = are_parameters (parts_of octets) (items v) h
ok_parameters items octets (Err e) h = tt

pub refused_parameters : {V E : Type 0} (M : E → Type 0) (octets : List ℕ) (r : Result V E) → (trim octets ≡ [] → ⊥) → IfErr r (λ e. M e ⊎ ((ps : List Parameter) → EachWord IsParameter ps (parts_of octets) → ⊥)) → IfErr r (λ e. M e ⊎ ((ps : List Parameter) → AreParameters (parts_of octets) ps → ⊥))
refused_parameters M octets (Ok v) some h = tt
refused_parameters M octets (Err e) some h = none_each octets some h
