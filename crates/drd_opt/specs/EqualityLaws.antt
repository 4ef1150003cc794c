-- Options are as often in two lists exactly where one is a permutation of the other.
use Rattle.std.proofs.Common.{◌≡◌, ◌↔◌, ℕ, suc, ◌+◌, ◌<◌, ◌==◌, ◌&&◌, cond, nat_eq, Bool, true, false, List, [], ◌∷◌, length, map, get_or, refl, sym, ap, ◌∙◌, arith, IsTrue}
use Rattle.std.proofs.lemmas.Bool.Decides.{nat_tests}
use Rattle.std.proofs.lemmas.Cmp.{nat_list_eq_equiv}
use Rattle.std.proofs.lemmas.List.Edits.{length-remove}
use Rattle.std.proofs.lemmas.List.Sorted.{IsPermutation-refl, IsPermutation-sym, IsPermutation-trans, IsPermutation-cons, IsPermutation-remove, sum_by-IsPermutation, length_permutation}
use Rattle.std.proofs.lemmas.List.Sums.{sum_by-cons}
use Rattle.std.specs.Cmp.{IsEquivalence}
use Rattle.std.specs.Cmp.Lexicographic.{pointwise, same_text}
use Rattle.std.specs.List.{list_all, count_by, remove, sum_by}
use Rattle.std.specs.List.Sorted.{IsPermutation}
use Rattle.drd_opt.specs.Entries.{RawOption, raw_option, raw_of}
use Rattle.drd_opt.specs.Equality.{same_raw, same_counts, same_entries, hash_number, raws_input, entries_input}
use Rattle.drd_opt.specs.declared.opt.OPT.{OPT}

both : (a b : Bool) → (a && b) ≡ true → (a ≡ true) × (b ≡ true)
both true true e = (refl, refl)
both true false e = absurd (cc e)
both false b e = absurd (cc e)

joined_tests : (a b : Bool) → a ≡ true → b ≡ true → (a && b) ≡ true
joined_tests true true e f = refl
joined_tests true false e f = absurd (cc f)
joined_tests false b e f = absurd (cc e)

one_answer : (a b : Bool) → (a ≡ true → b ≡ true) → (b ≡ true → a ≡ true) → a ≡ b
one_answer true b f g = sym (f refl)
one_answer false true f g = g refl
one_answer false false f g = refl

from_test : (n m : ℕ) → (n == m) ≡ true → n ≡ m
from_test n m e = grind (arith, nat_tests)

to_test : (n m : ℕ) → n ≡ m → (n == m) ≡ true
to_test n m e = grind (arith, nat_tests)

pub raw_same : (a b : RawOption) → same_raw a b ≡ true → a ≡ b
raw_same a b e =
    let tests = both (a.code == b.code) (pointwise nat_eq a.octets b.octets) e in
    ap (λ (c : ℕ). raw_option c a.octets) (from_test a.code b.code tests.0)
    ∙ ap (raw_option b.code) (same_text a.octets b.octets (sym tests.1))

pub raw_refl : (a : RawOption) → same_raw a a ≡ true
raw_refl a =
    joined_tests (a.code == a.code) (pointwise nat_eq a.octets a.octets)
    (to_test a.code a.code refl) (nat_list_eq_equiv.refl a.octets)

abbrev count : RawOption → List RawOption → ℕ
count x xs = count_by (same_raw x) xs

abbrev one_if : RawOption → RawOption → ℕ
one_if x y = cond (same_raw x y) 1 0

count_cons : (z x : RawOption) (xs : List RawOption) → count z (x ∷ xs) ≡ one_if z x + count z xs
count_cons z x xs = sum_by-cons (one_if z) x xs

-- One that is counted stands somewhere.
found_by : (x y : RawOption) (ys : List RawOption) (b : Bool) → same_raw x y ≡ b
    → 0 < count x (y ∷ ys) → (0 < count x ys → (i : ℕ) × (i < length ys) × (x ≡ get_or ys i x))
    → (i : ℕ) × (i < length (y ∷ ys)) × (x ≡ get_or (y ∷ ys) i x)
found_by x y ys true e some later = (0, omega arith, raw_same x y e)
found_by x y ys false e some later =
    let none : one_if x y ≡ 0 = ap (λ (b : Bool). cond b 1 0) e in
    let there = later (omega (arith, some, none, count_cons x y ys)) in
    (suc there.0, omega (arith, there.1), there.2)

found : (x : RawOption) (ys : List RawOption) → 0 < count x ys
    → (i : ℕ) × (i < length ys) × (x ≡ get_or ys i x)
found x [] some = absurd (omega (arith, some))
found x (y ∷ ys) some = found_by x y ys (same_raw x y) refl some (found x ys)

-- Each of these is as often in two lists.
abbrev AreAsOften : List RawOption → List RawOption → List RawOption → Type 0
AreAsOften [] xs ys = Unit {0}
AreAsOften (z ∷ zs) xs ys = (count z xs ≡ count z ys) × AreAsOften zs xs ys

as_often : (zs xs ys : List RawOption) → list_all (λ z. count z xs == count z ys) zs ≡ true
    → AreAsOften zs xs ys
as_often [] xs ys e = tt
as_often (z ∷ zs) xs ys e =
    let tests = both (count z xs == count z ys) (list_all (λ w. count w xs == count w ys) zs) e in
    (from_test (count z xs) (count z ys) tests.0, as_often zs xs ys tests.1)

-- So they are without one that both lists have.
one_less : (zs : List RawOption) (x : RawOption) (xs ys more : List RawOption)
    → ((z : RawOption) → count z ys ≡ count z (x ∷ more)) → AreAsOften zs (x ∷ xs) ys
    → AreAsOften zs xs more
one_less [] x xs ys more same often = tt
one_less (z ∷ zs) x xs ys more same often = (
  omega (arith, often.0, same z, count_cons z x xs, count_cons z x more),
  one_less zs x xs ys
      more same often.1,
)

permuted : (xs ys : List RawOption) → length xs ≡ length ys → AreAsOften xs xs ys
    → IsPermutation xs ys
permuted [] [] long often = IsPermutation-refl []
permuted [] (y ∷ ys) long often = absurd (omega (arith, long))
permuted (x ∷ xs) ys long often =
    let one : one_if x x ≡ 1 = ap (λ (b : Bool). cond b 1 0) (raw_refl x) in
    let there = found x ys (omega (arith, often.0, one, count_cons x x xs)) in
    let more = remove ys there.0 in
    let moved : IsPermutation ys (x ∷ more) = IsPermutation-remove ys there.0 x there.1 there.2 in
    let same : (z : RawOption) → count z ys ≡ count z (x ∷ more) =
    λ z. sym (sum_by-IsPermutation (one_if z) ys (x ∷ more) moved) in
    let left : length xs ≡ length more = omega (arith, long, length-remove ys there.0 there.1) in
    let others : IsPermutation xs more =
    permuted xs more left (one_less xs x xs ys more same often.1) in
    IsPermutation-trans (x ∷ xs) (x ∷ more) ys (IsPermutation-cons x xs more others)
    (IsPermutation-sym ys (x ∷ more) moved)

pub permutation_told : (xs ys : List RawOption) → same_counts xs ys ≡ true → IsPermutation xs ys
permutation_told xs ys e =
    let tests = both (length xs == length ys) (list_all (λ x. count x xs == count x ys) xs) e in
    permuted xs ys (from_test (length xs) (length ys) tests.0) (as_often xs xs ys tests.1)

all_tests : (p : RawOption → Bool) (xs : List RawOption) → ((x : RawOption) → p x ≡ true)
    → list_all p xs ≡ true
all_tests p [] each = refl
all_tests p (x ∷ xs) each = joined_tests (p x) (list_all p xs) (each x) (all_tests p xs each)

pub permutation_tells : (xs ys : List RawOption) → IsPermutation xs ys → same_counts xs ys ≡ true
permutation_tells xs ys moved =
    joined_tests (length xs == length ys) (list_all (λ x. count x xs == count x ys) xs)
    (to_test (length xs) (length ys) (sym (length_permutation xs ys moved)))
    (all_tests (λ x. count x xs == count x ys) xs
    (λ x. to_test (count x xs) (count x ys) (sym (sum_by-IsPermutation (one_if x) xs ys moved))))

pub permuted_exactly : (xs ys : List RawOption) (b : Bool) → b ≡ same_counts xs ys
    → IsTrue b ↔ IsPermutation xs ys
permuted_exactly xs ys b is =
    (λ e. permutation_told xs ys (sym is ∙ e), λ moved. is ∙ permutation_tells xs ys moved)

counts_symm : (xs ys : List RawOption) → same_counts xs ys ≡ same_counts ys xs
counts_symm xs ys =
    one_answer (same_counts xs ys) (same_counts ys xs)
    (λ e. permutation_tells ys xs (IsPermutation-sym xs ys (permutation_told xs ys e)))
    (λ e. permutation_tells xs ys (IsPermutation-sym ys xs (permutation_told ys xs e)))

counts_congr : (xs ys zs : List RawOption) → same_counts xs ys ≡ true
    → same_counts xs zs ≡ same_counts ys zs
counts_congr xs ys zs e =
    let first = permutation_told xs ys e in
    one_answer (same_counts xs zs) (same_counts ys zs)
    (λ f. permutation_tells ys zs
    (IsPermutation-trans ys xs zs (IsPermutation-sym xs ys first) (permutation_told xs zs f)))
    (λ f. permutation_tells xs zs (IsPermutation-trans xs ys zs first (permutation_told ys zs f)))

pub entries_equiv : IsEquivalence (λ (a b : OPT). same_entries a.options.items b.options.items)
entries_equiv = record {
  refl =
      λ a. permutation_tells (map raw_of a.options.items) (map raw_of a.options.items)
      (IsPermutation-refl (map raw_of a.options.items));
  symm = λ a b. counts_symm (map raw_of a.options.items) (map raw_of b.options.items);
  congr =
      λ a b c e. counts_congr (map raw_of a.options.items) (map raw_of b.options.items)
      (map raw_of c.options.items) e;
}

-- What no order changes is the same for lists that are permutations of each other.
raws_fed : (xs ys : List RawOption) → IsPermutation xs ys → raws_input xs ≡ raws_input ys
raws_fed xs ys moved =
    let long : length xs ≡ length ys = sym (length_permutation xs ys moved) in
    let total : sum_by hash_number xs ≡ sum_by hash_number ys =
    sym (sum_by-IsPermutation hash_number xs ys moved) in
    cc (long, total)

pub entries_fed : (a b : OPT) → IsTrue (same_entries a.options.items b.options.items)
    → entries_input a.options.items ≡ entries_input b.options.items
entries_fed a b e =
    raws_fed (map raw_of a.options.items) (map raw_of b.options.items)
    (permutation_told (map raw_of a.options.items) (map raw_of b.options.items) e)
