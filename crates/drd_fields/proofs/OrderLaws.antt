-- Laws of the order of record data.
use Rattle.std.proofs.Common.{◌≡◌, All, zero, suc, ℕ, ◌==◌, ◌&&◌, ◌+◌, ◌*◌, ◌/◌, ◌%◌, ◌^◌, ◌<◌, nat_eq, nat_lt, Bool, true, false, List, [], ◌∷◌, ◌++◌, length, map, refl, sym, ap, ◌∙◌, arith, append_assoc, append-nil}
use Rattle.std.proofs.lemmas.Bool.Decides.{nat_tests}
use Rattle.std.specs.Bool.{beq}
use Rattle.std.specs.Cmp.{IsTotalOrder, on_total, ranked, nat_cmp_is}
use Rattle.std.specs.Hash as fed
use Rattle.std.specs.Hash.{HashWrites}
use Rattle.dnw_encoder.specs.dnw_name.NameHashLaws.{name_writes-alike}
use Rattle.dnw_encoder.specs.dnw_decoder.Octets.{octets_16, octets_32}
use Rattle.std.specs.Cmp.Rules.{comparing}
use Rattle.std.specs.Cmp.Lexicographic.{pointwise, slice_cmp, lists_ties, texts_ties}
use Rattle.std.specs.List.{flat_map}
use Rattle.std.specs.Ordering.{nat_cmp, ordering_then, eq_by_cmp, MatchOrdering}
use Rattle.std.specs.declared.cmp.Ordering.{Ordering}
use Rattle.std.specs.declared.cmp.Ordering.TheVariants.{Less, Equal, Greater}
use Rattle.std.specs.Str.{str_to_ascii_lowercase}
use Rattle.std.proofs.lemmas.List.Elements.{All-head, All-tail}
use Rattle.dnw_encoder.specs.dnw_label.Label.{IsLabel, label_eq}
use Rattle.dnw_encoder.proofs.NameLaws.{lower_name}
use Rattle.dnw_encoder.specs.dnw_name.DomainName.{DomainName, IsDomainName, name_eq}
use Rattle.drd_fields.specs.Fields.{Field, octet, short, long, name, string, strings, rest, kind_of, kinds_of, is_open, AreOrdered}
use Rattle.drd_fields.specs.Writing.{string_octets, canonical_octets}
use Rattle.drd_fields.specs.Equality.{canonical_field, field_eq, fields_eq, Tells}
use Rattle.drd_fields.proofs.EqualityLaws.{same_octets, found_same, string_same, both_true, lower_found, found_lower, true_or_false, octet_apart, rest_tells, strings_tell, from_test, found_strings}
use Rattle.std.proofs.lemmas.List.{length-append}
use Rattle.drd_fields.specs.Order.{field_key, field_cmp, fields_cmp, flag_rank, octets_cmp, Orders, OrdersFronts, OrdersField, string_input, field_input, fields_input, labels_octets}

pub field_total : IsTotalOrder field_cmp
field_total = search comparing depth 12

pub fields_total : IsTotalOrder fields_cmp
fields_total = search comparing depth 12

-- Fronts of one length decide first.
pub cmp_fronts : (xs ys us vs : List ℕ) → length xs ≡ length ys → slice_cmp nat_cmp (xs ++ us) (ys ++ vs) ≡ ordering_then (slice_cmp nat_cmp xs ys) (slice_cmp nat_cmp us vs)
cmp_fronts [] [] us vs e = refl
cmp_fronts [] (y ∷ ys) us vs e = absurd (cc e)
cmp_fronts (x ∷ xs) [] us vs e = absurd (cc e)
cmp_fronts (x ∷ xs) (y ∷ ys) us vs e = by_head (nat_cmp x y) (cmp_fronts xs ys us vs (cc e))
  where
    by_head : (o : Ordering) → slice_cmp nat_cmp (xs ++ us) (ys ++ vs) ≡ ordering_then (slice_cmp nat_cmp xs ys) (slice_cmp nat_cmp us vs) → ordering_then o (slice_cmp nat_cmp (xs ++ us) (ys ++ vs)) ≡ ordering_then (ordering_then o (slice_cmp nat_cmp xs ys)) (slice_cmp nat_cmp us vs)
    by_head Less later = refl
    by_head Equal later = later
    by_head Greater later = refl

-- So do strings behind their lengths.
pub cmp_strings : (s t us vs : List ℕ) → slice_cmp nat_cmp (string_octets s ++ us) (string_octets t ++ vs) ≡ ordering_then (slice_cmp nat_cmp (string_octets s) (string_octets t)) (slice_cmp nat_cmp us vs)
cmp_strings s t us vs = by_length (nat_cmp (length s) (length t)) refl
  where
    tie : (n m : ℕ) → Equal ≡ nat_cmp n m → n ≡ m
    tie n m e = by_test (nat_lt n m) (n == m) refl refl
      where
        by_test : (less same : Bool) → less ≡ nat_lt n m → same ≡ (n == m) → n ≡ m
        by_test true same p q = absurd (cc (e, p))
        by_test false false p q = absurd (cc (e, p, q))
        by_test false true p q = grind (arith, nat_tests)

    by_length : (o : Ordering) → o ≡ nat_cmp (length s) (length t) → ordering_then o (slice_cmp nat_cmp (s ++ us) (t ++ vs)) ≡ ordering_then (ordering_then o (slice_cmp nat_cmp s t)) (slice_cmp nat_cmp us vs)
    by_length Less e = refl
    by_length Equal e = cmp_fronts s t us vs (tie (length s) (length t) e)
    by_length Greater e = refl

pub cmp_one : (n m : ℕ) → slice_cmp nat_cmp (n ∷ []) (m ∷ []) ≡ nat_cmp n m
cmp_one n m = by_head (nat_cmp n m)
  where
    by_head : (o : Ordering) → ordering_then o Equal ≡ o
    by_head Less = refl
    by_head Equal = refl
    by_head Greater = refl

-- Octets that an answer tells apart are equal one by one where it says so.
tells-tested : (same : Bool) (xs ys : List ℕ) → Tells same xs ys → same ≡ pointwise nat_eq xs ys
tells-tested true xs ys t = sym (found_same xs ys (t.equal refl))
tells-tested false xs ys t = by_test (pointwise nat_eq xs ys) refl
  where
    by_test : (b : Bool) → b ≡ pointwise nat_eq xs ys → false ≡ b
    by_test true e = absurd (t.other refl (same_octets xs ys (sym e)))
    by_test false e = refl

-- Labels behind their lengths, up to the end, are those of one list.
labels_whole : (cs bs : List (List ℕ)) → flat_map string_octets cs ++ 0 ∷ [] ≡ flat_map string_octets bs ++ 0 ∷ [] → cs ≡ bs
labels_whole [] [] e = refl
labels_whole [] (b ∷ bs) e = absurd (no_more b bs e)
  where
    no_more : (b : List ℕ) (bs : List (List ℕ)) → 0 ∷ [] ≡ (string_octets b ++ flat_map string_octets bs) ++ 0 ∷ [] → ⊥
    no_more b bs e = omega (arith, ap length e, length-append (b ++ flat_map string_octets bs) (0 ∷ []))
labels_whole (c ∷ cs) [] e = absurd (no_more c cs (sym e))
  where
    no_more : (b : List ℕ) (bs : List (List ℕ)) → 0 ∷ [] ≡ (string_octets b ++ flat_map string_octets bs) ++ 0 ∷ [] → ⊥
    no_more b bs e = omega (arith, ap length e, length-append (b ++ flat_map string_octets bs) (0 ∷ []))
labels_whole (c ∷ cs) (b ∷ bs) e =
    let parts = string_same c b (flat_map string_octets cs ++ 0 ∷ []) (flat_map string_octets bs ++ 0 ∷ [])
    (sym (append_assoc (string_octets c) (flat_map string_octets cs) (0 ∷ [])) ∙ e ∙ append_assoc (string_octets b) (flat_map string_octets bs) (0 ∷ [])) in
    ap (λ (x : List ℕ). x ∷ cs) parts.0 ∙ ap (λ (ls : List (List ℕ)). b ∷ ls) (labels_whole cs bs parts.1)

flags_apart : (f g : Bool) → flag_rank f ≡ flag_rank g → beq f g ≡ true
flags_apart true true e = refl
flags_apart false false e = refl
flags_apart true false e = absurd (cc e)
flags_apart false true e = absurd (cc e)

flags_same : (f g : Bool) → beq f g ≡ true → flag_rank f ≡ flag_rank g
flags_same true true e = refl
flags_same false false e = refl
flags_same true false e = absurd (cc e)
flags_same false true e = absurd (cc e)

names_tell : (a b : DomainName) → Tells (name_eq a b) (field_key (name a)) (field_key (name b))
names_tell a b = record {
  equal = λ e.
      let parts = both_true (beq a.fqdn b.fqdn) (pointwise label_eq a.labels b.labels) e in
      ap (λ (r : ℕ). r ∷ canonical_field (name a)) (flags_same a.fqdn b.fqdn parts.0)
      ∙ ap (λ (ls : List (List ℕ)). flag_rank b.fqdn ∷ (flat_map string_octets ls ++ 0 ∷ [])) (lower_found a.labels b.labels parts.1);
  other = λ e whole.
      let flags : beq a.fqdn b.fqdn ≡ true = flags_apart a.fqdn b.fqdn (cc whole) in
      let octets : canonical_field (name a) ≡ canonical_field (name b) = cc whole in
      let labels = labels_whole (map str_to_ascii_lowercase a.labels) (map str_to_ascii_lowercase b.labels) octets in
      true_or_false (name_eq a b) (ap (λ (t : Bool). t && pointwise label_eq a.labels b.labels) flags ∙ found_lower a.labels b.labels labels) e;
}

strings_test : (s t : List ℕ) → Tells (pointwise nat_eq s t) (string_octets s) (string_octets t)
strings_test s t = record {
  equal = λ e. ap string_octets (same_octets s t e);
  other = λ e whole. true_or_false (pointwise nat_eq s t) (found_same s t (cc whole)) e;
}

numbers_test : (n m : ℕ) → Tells (n == m) (n ∷ []) (m ∷ [])
numbers_test n m = record {
  equal = λ e. (octet_apart n m).equal e;
  other = λ e whole. (octet_apart n m).other e [] [] whole;
}

keys_tell : (same : Bool) (xs ys : List ℕ) → Tells same xs ys → same ≡ eq_by_cmp (slice_cmp nat_cmp) xs ys
keys_tell same xs ys t = tells-tested same xs ys t ∙ texts_ties xs ys

-- Two fields are equal exactly where neither stands before the other.
pub field_ties : (f g : Field) → field_eq f g ≡ eq_by_cmp field_cmp f g
field_ties (octet n) (octet m) = keys_tell (n == m) (n ∷ []) (m ∷ []) (numbers_test n m)
field_ties (short n) (short m) = keys_tell (n == m) (n ∷ []) (m ∷ []) (numbers_test n m)
field_ties (long n) (long m) = keys_tell (n == m) (n ∷ []) (m ∷ []) (numbers_test n m)
field_ties (name a) (name b) = keys_tell (name_eq a b) (field_key (name a)) (field_key (name b)) (names_tell a b)
field_ties (string s) (string t) = keys_tell (pointwise nat_eq s t) (string_octets s) (string_octets t) (strings_test s t)
field_ties (strings ss) (strings ts) = keys_tell (pointwise (pointwise nat_eq) ss ts) (flat_map string_octets ss) (flat_map string_octets ts) (strings_tell ss ts)
field_ties (rest s) (rest t) = keys_tell (pointwise nat_eq s t) s t (rest_tells s t)
field_ties f g = refl

pub fields_ties : (fs gs : List Field) → fields_eq fs gs ≡ eq_by_cmp fields_cmp fs gs
fields_ties = lists_ties field_cmp field_ties

-- The order of values by their fields is a total one, and ties where they are equal.
pub data_total : {X : Type 0} (fields : X → List Field) → IsTotalOrder (λ (a b : X). fields_cmp (fields a) (fields b))
data_total fields = on_total fields fields_total

pub data_ties : {X : Type 0} (fields : X → List Field) (a b : X) → fields_eq (fields a) (fields b) ≡ eq_by_cmp (λ (x y : X). fields_cmp (fields x) (fields y)) a b
data_ties fields a b = fields_ties (fields a) (fields b)

-- Equal fields feed a hasher the same.

strings-alike : (ss ts : List (List ℕ)) → pointwise (pointwise nat_eq) ss ts ≡ true → fed.usize (length ss) ++ flat_map string_input ss ≡ fed.usize (length ts) ++ flat_map string_input ts
strings-alike ss ts e = ap (λ (xs : List (List ℕ)). fed.usize (length xs) ++ flat_map string_input xs) (found_strings ss ts e)

field-alike : (f g : Field) → field_eq f g ≡ true → field_input f ≡ field_input g
field-alike (octet n) (octet m) e = ap fed.u8 (from_test n m e)
field-alike (short n) (short m) e = ap fed.u16 (from_test n m e)
field-alike (long n) (long m) e = ap fed.u32 (from_test n m e)
field-alike (name a) (name b) e = name_writes-alike a b e
field-alike (string s) (string t) e = ap string_input (same_octets s t e)
field-alike (strings ss) (strings ts) e = strings-alike ss ts e
field-alike (rest s) (rest t) e = ap string_input (same_octets s t e)
field-alike f g e = absurd (cc e)

pub fields-alike : (fs gs : List Field) → fields_eq fs gs ≡ true → fields_input fs ≡ fields_input gs
fields-alike [] [] e = refl
fields-alike [] (g ∷ gs) e = absurd (cc e)
fields-alike (f ∷ fs) [] e = absurd (cc e)
fields-alike (f ∷ fs) (g ∷ gs) e =
    let parts = both_true (field_eq f g) (fields_eq fs gs) e in
    ap (λ (w : HashWrites). w ++ fields_input fs) (field-alike f g parts.0) ∙ ap (λ (w : HashWrites). field_input g ++ w) (fields-alike fs gs parts.1)

-- Canonical octets.

pub then_assoc : (o p q : Ordering) → ordering_then o (ordering_then p q) ≡ ordering_then (ordering_then o p) q
then_assoc Less p q = refl
then_assoc Equal p q = refl
then_assoc Greater p q = refl

-- The greater digit decides first.
digits : (a b c d : ℕ) → b < 256 → d < 256 → ordering_then (nat_cmp a c) (nat_cmp b d) ≡ nat_cmp (a * 256 + b) (c * 256 + d)
digits a b c d small few = by_high (nat_cmp a c) (ranked a c (nat_cmp a c) refl)
  where
    by_low : (o : Ordering) → MatchOrdering o (b < d) (b ≡ d) (d < b) → a ≡ c → o ≡ nat_cmp (a * 256 + b) (c * 256 + d)
    by_low Less h e = nat_cmp_is (a * 256 + b) (c * 256 + d) Less (omega (arith, h, e))
    by_low Equal h e = nat_cmp_is (a * 256 + b) (c * 256 + d) Equal (omega (arith, h, e))
    by_low Greater h e = nat_cmp_is (a * 256 + b) (c * 256 + d) Greater (omega (arith, h, e))

    by_high : (o : Ordering) → MatchOrdering o (a < c) (a ≡ c) (c < a) → ordering_then o (nat_cmp b d) ≡ nat_cmp (a * 256 + b) (c * 256 + d)
    by_high Less h = nat_cmp_is (a * 256 + b) (c * 256 + d) Less (omega (arith, h, small, few))
    by_high Equal h = by_low (nat_cmp b d) (ranked b d (nat_cmp b d) refl) h
    by_high Greater h = nat_cmp_is (a * 256 + b) (c * 256 + d) Greater (omega (arith, h, small, few))

pub octet_orders : (n m : ℕ) → OrdersFronts (nat_cmp n m) (n ∷ []) (m ∷ [])
octet_orders n m = record { decides = λ xs ys. refl }

short_digits : (n m : ℕ) → n < 2 ^ 16 → m < 2 ^ 16 → (xs ys : List ℕ) → octets_cmp (octets_16 n ++ xs) (octets_16 m ++ ys) ≡ ordering_then (nat_cmp n m) (octets_cmp xs ys)
short_digits n m small few xs ys =
    then_assoc (nat_cmp (n / 256 % 256) (m / 256 % 256)) (nat_cmp (n % 256) (m % 256)) (octets_cmp xs ys)
    ∙ ap (λ (o : Ordering). ordering_then o (octets_cmp xs ys)) (digits (n / 256 % 256) (n % 256) (m / 256 % 256) (m % 256) (omega arith) (omega arith)
    ∙ ap (λ (k : ℕ). nat_cmp k (m / 256 % 256 * 256 + m % 256)) (omega (arith, small)) ∙ ap (nat_cmp n) (omega (arith, few)))

pub short_orders : (n m : ℕ) → n < 2 ^ 16 → m < 2 ^ 16 → OrdersFronts (nat_cmp n m) (octets_16 n) (octets_16 m)
short_orders n m small few = record { decides = short_digits n m small few }

-- Numbers of four digits.
long_digits : (n m : ℕ) → n < 2 ^ 32 → m < 2 ^ 32 → (xs ys : List ℕ) → octets_cmp (octets_32 n ++ xs) (octets_32 m ++ ys) ≡ ordering_then (nat_cmp n m) (octets_cmp xs ys)
unfolding octets_32
long_digits n m small few xs ys =
    then_assoc (nat_cmp a e) (nat_cmp b f) (ordering_then (nat_cmp c g) (ordering_then (nat_cmp d h) (octets_cmp xs ys)))
    ∙ ap (λ (o : Ordering). ordering_then o (ordering_then (nat_cmp c g) (ordering_then (nat_cmp d h) (octets_cmp xs ys)))) (digits a b e f (omega arith) (omega arith))
    ∙ then_assoc (nat_cmp (a * 256 + b) (e * 256 + f)) (nat_cmp c g) (ordering_then (nat_cmp d h) (octets_cmp xs ys))
    ∙ ap (λ (o : Ordering). ordering_then o (ordering_then (nat_cmp d h) (octets_cmp xs ys))) (digits (a * 256 + b) c (e * 256 + f) g (omega arith) (omega arith))
    ∙ then_assoc (nat_cmp ((a * 256 + b) * 256 + c) ((e * 256 + f) * 256 + g)) (nat_cmp d h) (octets_cmp xs ys)
    ∙ ap (λ (o : Ordering). ordering_then o (octets_cmp xs ys)) (digits ((a * 256 + b) * 256 + c) d ((e * 256 + f) * 256 + g) h (omega arith) (omega arith)
    ∙ ap (λ (k : ℕ). nat_cmp k (((e * 256 + f) * 256 + g) * 256 + h)) (omega (arith, small)) ∙ ap (nat_cmp n) (omega (arith, few)))
  where
    a : ℕ
    a = n / 16777216 % 256

    b : ℕ
    b = n / 65536 % 256

    c : ℕ
    c = n / 256 % 256

    d : ℕ
    d = n % 256

    e : ℕ
    e = m / 16777216 % 256

    f : ℕ
    f = m / 65536 % 256

    g : ℕ
    g = m / 256 % 256

    h : ℕ
    h = m % 256

pub long_orders : (n m : ℕ) → n < 2 ^ 32 → m < 2 ^ 32 → OrdersFronts (nat_cmp n m) (octets_32 n) (octets_32 m)
long_orders n m small few = record { decides = long_digits n m small few }

pub string_orders : (s t : List ℕ) → OrdersFronts (octets_cmp (string_octets s) (string_octets t)) (string_octets s) (string_octets t)
string_orders s t = record { decides = cmp_strings s t }

-- Labels behind their lengths, up to the end.

pub cmp_more : (x y : List ℕ) (xs ys : List (List ℕ)) → octets_cmp (labels_octets (x ∷ xs)) (labels_octets (y ∷ ys)) ≡ ordering_then (octets_cmp (string_octets (str_to_ascii_lowercase x)) (string_octets (str_to_ascii_lowercase y))) (octets_cmp (labels_octets xs) (labels_octets ys))
cmp_more x y xs ys =
    let a = str_to_ascii_lowercase x in
    let b = str_to_ascii_lowercase y in
    let as_ = map str_to_ascii_lowercase xs in
    let bs = map str_to_ascii_lowercase ys in
    ap (λ (o : List ℕ). octets_cmp o ((string_octets b ++ flat_map string_octets bs) ++ 0 ∷ [])) (append_assoc (string_octets a) (flat_map string_octets as_) (0 ∷ []))
    ∙ ap (octets_cmp (string_octets a ++ labels_octets xs)) (append_assoc (string_octets b) (flat_map string_octets bs) (0 ∷ []))
    ∙ cmp_strings a b (labels_octets xs) (labels_octets ys)

zero_first : (n : ℕ) (os : List ℕ) → 0 < length os → octets_cmp (0 ∷ []) (n ∷ os) ≡ Less
zero_first zero [] some = absurd (omega (arith, some))
zero_first zero (o ∷ os) some = refl
zero_first (suc n) os some = ap (λ (o : Ordering). ordering_then o (octets_cmp [] os)) (sym (nat_cmp_is 0 (suc n) Less (omega arith)))

zero_last : (n : ℕ) (os : List ℕ) → 0 < length os → octets_cmp (n ∷ os) (0 ∷ []) ≡ Greater
zero_last zero [] some = absurd (omega (arith, some))
zero_last zero (o ∷ os) some = refl
zero_last (suc n) os some = ap (λ (o : Ordering). ordering_then o (octets_cmp os [])) (sym (nat_cmp_is (suc n) 0 Greater (omega arith)))

pub cmp_ends : (y : List ℕ) (ys : List (List ℕ)) → octets_cmp (labels_octets []) (labels_octets (y ∷ ys)) ≡ Less
cmp_ends y ys =
    let b = str_to_ascii_lowercase y in
    let bs = map str_to_ascii_lowercase ys in
    zero_first (length b) ((b ++ flat_map string_octets bs) ++ 0 ∷ []) (omega (arith, length-append (b ++ flat_map string_octets bs) (0 ∷ [])))

pub cmp_ended : (x : List ℕ) (xs : List (List ℕ)) → octets_cmp (labels_octets (x ∷ xs)) (labels_octets []) ≡ Greater
cmp_ended x xs =
    let a = str_to_ascii_lowercase x in
    let as_ = map str_to_ascii_lowercase xs in
    zero_last (length a) ((a ++ flat_map string_octets as_) ++ 0 ∷ []) (omega (arith, length-append (a ++ flat_map string_octets as_) (0 ∷ [])))

-- The names' octets in canonical form, whatever is behind them.

labels_decide : (as_ bs : List (List ℕ)) (xs ys : List ℕ) → All IsLabel as_ → All IsLabel bs → octets_cmp (flat_map string_octets as_ ++ 0 ∷ xs) (flat_map string_octets bs ++ 0 ∷ ys) ≡ ordering_then (octets_cmp (flat_map string_octets as_ ++ 0 ∷ []) (flat_map string_octets bs ++ 0 ∷ [])) (octets_cmp xs ys)
labels_decide [] [] xs ys p q = refl
labels_decide [] (b ∷ bs) xs ys p q =
    let less : Less ≡ nat_cmp 0 (length b) = nat_cmp_is 0 (length b) Less (omega (arith, (All-head IsLabel b bs q).some)) in
    ap (λ (o : Ordering). ordering_then o (octets_cmp xs ((b ++ flat_map string_octets bs) ++ 0 ∷ ys))) (sym less)
    ∙ ap (λ (o : Ordering). ordering_then (ordering_then o (octets_cmp [] ((b ++ flat_map string_octets bs) ++ 0 ∷ []))) (octets_cmp xs ys)) less
labels_decide (a ∷ as_) [] xs ys p q =
    let more : Greater ≡ nat_cmp (length a) 0 = nat_cmp_is (length a) 0 Greater (omega (arith, (All-head IsLabel a as_ p).some)) in
    ap (λ (o : Ordering). ordering_then o (octets_cmp ((a ++ flat_map string_octets as_) ++ 0 ∷ xs) ys)) (sym more)
    ∙ ap (λ (o : Ordering). ordering_then (ordering_then o (octets_cmp ((a ++ flat_map string_octets as_) ++ 0 ∷ []) [])) (octets_cmp xs ys)) more
labels_decide (a ∷ as_) (b ∷ bs) xs ys p q =
    ap (λ (o : List ℕ). octets_cmp o ((string_octets b ++ flat_map string_octets bs) ++ 0 ∷ ys)) (append_assoc (string_octets a) (flat_map string_octets as_) (0 ∷ xs))
    ∙ ap (octets_cmp (string_octets a ++ (flat_map string_octets as_ ++ 0 ∷ xs))) (append_assoc (string_octets b) (flat_map string_octets bs) (0 ∷ ys))
    ∙ cmp_strings a b (flat_map string_octets as_ ++ 0 ∷ xs) (flat_map string_octets bs ++ 0 ∷ ys)
    ∙ ap (ordering_then (octets_cmp (string_octets a) (string_octets b))) (labels_decide as_ bs xs ys (All-tail IsLabel a as_ p) (All-tail IsLabel b bs q))
    ∙ then_assoc (octets_cmp (string_octets a) (string_octets b)) (octets_cmp (flat_map string_octets as_ ++ 0 ∷ []) (flat_map string_octets bs ++ 0 ∷ [])) (octets_cmp xs ys)
    ∙ ap (λ (o : Ordering). ordering_then o (octets_cmp xs ys)) (
    sym (cmp_strings a b (flat_map string_octets as_ ++ 0 ∷ []) (flat_map string_octets bs ++ 0 ∷ []))
    ∙ ap (λ (o : List ℕ). octets_cmp o (string_octets b ++ (flat_map string_octets bs ++ 0 ∷ []))) (sym (append_assoc (string_octets a) (flat_map string_octets as_) (0 ∷ [])))
    ∙ ap (octets_cmp ((string_octets a ++ flat_map string_octets as_) ++ 0 ∷ [])) (sym (append_assoc (string_octets b) (flat_map string_octets bs) (0 ∷ [])))
    )

pub name_orders : (a b : DomainName) (o : Ordering) → IsDomainName a → IsDomainName b → o ≡ octets_cmp (labels_octets a.labels) (labels_octets b.labels) → OrdersFronts o (canonical_field (name a)) (canonical_field (name b))
name_orders a b o is_name is_other e = record {
  decides = λ xs ys.
      let la = map str_to_ascii_lowercase a.labels in
      let lb = map str_to_ascii_lowercase b.labels in
      ap (λ (z : List ℕ). octets_cmp z ((flat_map string_octets lb ++ 0 ∷ []) ++ ys)) (append_assoc (flat_map string_octets la) (0 ∷ []) xs)
      ∙ ap (octets_cmp (flat_map string_octets la ++ 0 ∷ xs)) (append_assoc (flat_map string_octets lb) (0 ∷ []) ys)
      ∙ labels_decide la lb xs ys (lower_name a is_name).each (lower_name b is_other).each
      ∙ ap (λ (p : Ordering). ordering_then p (octets_cmp xs ys)) (sym e);
}

then_equal : (o : Ordering) → ordering_then o Equal ≡ o
then_equal Less = refl
then_equal Equal = refl
then_equal Greater = refl

-- Where the first differ, what is behind them doesn't count.
pub first_decides : (o p : Ordering) → (o ≡ Equal → ⊥) → o ≡ ordering_then o p
first_decides Less p unequal = refl
first_decides Equal p unequal = absurd (unequal refl)
first_decides Greater p unequal = refl

-- What decides in front is the order of the whole field.
pub front_orders : (o : Ordering) (f g : Field) → OrdersFronts o (canonical_field f) (canonical_field g) → OrdersField o f g
front_orders o f g decides = record {
  whole = sym (ap (λ (xs : List ℕ). octets_cmp xs (canonical_field g)) (sym (append-nil (canonical_field f)))
      ∙ ap (octets_cmp (canonical_field f ++ [])) (sym (append-nil (canonical_field g))) ∙ decides.decides [] [] ∙ then_equal o);
  front = λ closed. decides;
}

pub open_orders : (o : Ordering) (f g : Field) → is_open (kind_of f) ≡ true → Orders o (canonical_field f) (canonical_field g) → OrdersField o f g
open_orders o f g opens orders = record { whole = orders; front = λ closed. absurd (cc (sym opens ∙ closed)) }

then_later : (o p : Ordering) (xs ys : List ℕ) → (o ≡ Equal → Orders p xs ys) → ordering_then o p ≡ ordering_then o (octets_cmp xs ys)
then_later Less p xs ys later = refl
then_later Equal p xs ys later = later refl
then_later Greater p xs ys later = refl

more_order : (opens : Bool) (o p : Ordering) (f g : Field) (fs gs : List Field) → is_open (kind_of f) ≡ opens → kinds_of fs ≡ kinds_of gs → AreOrdered (kind_of f ∷ kinds_of fs) → OrdersField o f g → (o ≡ Equal → Orders p (canonical_octets fs) (canonical_octets gs)) → Orders (ordering_then o p) (canonical_octets (f ∷ fs)) (canonical_octets (g ∷ gs))
more_order false o p f g fs gs is same ordered one later =
    then_later o p (canonical_octets fs) (canonical_octets gs) later ∙ sym ((one.front is).decides (canonical_octets fs) (canonical_octets gs))
more_order true o p f g [] [] is same ordered one later =
    then_later o p [] [] later ∙ then_equal o ∙ one.whole
    ∙ ap (λ (xs : List ℕ). octets_cmp xs (canonical_field g)) (sym (append-nil (canonical_field f)))
    ∙ ap (octets_cmp (canonical_field f ++ [])) (sym (append-nil (canonical_field g)))
more_order true o p f g (h ∷ fs) gs is same ordered one later = absurd (cc (ordered.0 is))
more_order true o p f g [] (h ∷ gs) is same ordered one later = absurd (cc same)

-- The first of two lists of fields and, where those are equal, what is behind them.
pub fields_order : (o p : Ordering) (f g : Field) (fs gs : List Field) → kinds_of fs ≡ kinds_of gs → AreOrdered (kind_of f ∷ kinds_of fs) → OrdersField o f g → (o ≡ Equal → Orders p (canonical_octets fs) (canonical_octets gs)) → Orders (ordering_then o p) (canonical_octets (f ∷ fs)) (canonical_octets (g ∷ gs))
fields_order o p f g fs gs same ordered one later = more_order (is_open (kind_of f)) o p f g fs gs refl same ordered one later
