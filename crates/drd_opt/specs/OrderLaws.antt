-- The order of OPT data is a total one, ties where they are equal, and is that of their canonical
-- octets.
use Rattle.std.proofs.Common.{◌≡◌, ◌++◌, ℕ, cond, List, [], ◌∷◌, length, map, refl, sym, ap, ◌∙◌, append-nil}
use Rattle.std.proofs.Common.{rules}
use Rattle.std.proofs.lemmas.List.Elements.{All-head, All-tail}
use Rattle.std.proofs.lemmas.List.Sorted.{All-permutation, sum_by-IsPermutation}
use Rattle.std.specs.Cmp.{IsTotalOrder, Equal-is, both_ways, on_total, ranked}
use Rattle.std.specs.Cmp.Lexicographic.{slice_cmp, lists_total}
use Rattle.std.specs.Cmp.Rules.{comparing}
use Rattle.std.specs.List.{All}
use Rattle.std.specs.Ordering.{on, nat_cmp, is_eq, is_gt, eq_by_cmp, ordering_then}
use Rattle.std.specs.declared.cmp.Ordering.{Ordering}
use Rattle.std.specs.declared.cmp.Ordering.TheVariants.{Less, Equal, Greater}
use Rattle.drd_fields.specs.dnw_decoder.Octets.{octets_16}
use Rattle.drd_fields.specs.Order.{octets_cmp}
use Rattle.drd_fields.proofs.OrderLaws.{short_orders, cmp_fronts, then_assoc}
use Rattle.drd_opt.specs.Entries.{Entry, RawOption, FitsLengths, raw_of, raw_octets, options_octets}
use Rattle.drd_opt.specs.Equality.{same_raw, same_counts, same_entries}
use Rattle.drd_opt.specs.EqualityLaws.{raw_same, raw_refl, permutation_told, permutation_tells}
use Rattle.drd_opt.specs.Order.{insert_by, sorted_by, raw_cmp, sorted_raws, entries_cmp, canonical_entries}
use Rattle.drd_opt.specs.SortedLaws.{Ranks, as_often_level, level_moves, sorted_moves}
use Rattle.drd_opt.specs.declared.opt.OPT.{OPT}

raw_total : IsTotalOrder raw_cmp
raw_total = search comparing depth 12

raw_ties : (a b : RawOption) → same_raw a b ≡ eq_by_cmp raw_cmp a b
raw_ties = search (comparing, rules) depth 12

pub raw_ranks : Ranks same_raw raw_cmp
raw_ranks = record {
  total = raw_total;
  one = λ a b e. raw_same a b (raw_ties a b ∙ ap is_eq e);
  tells = raw_same;
  itself = raw_refl;
}

pub entries_total : IsTotalOrder (λ (a b : OPT). entries_cmp a.options.items b.options.items)
entries_total = on_total (λ (a : OPT). sorted_raws a.options.items) (lists_total raw_total)

raws_tie : (xs ys : List RawOption)
    → same_counts xs ys ≡ is_eq (slice_cmp raw_cmp (sorted_by raw_cmp xs) (sorted_by raw_cmp ys))
raws_tie xs ys =
    let o = slice_cmp raw_cmp (sorted_by raw_cmp xs) (sorted_by raw_cmp ys) in
    both_ways (same_counts xs ys) (is_eq o)
    (λ e. ap is_eq
    (as_often_level raw_ranks xs ys
    (λ y. sym
    (sum_by-IsPermutation (λ x. cond (same_raw y x) 1 0) xs ys (permutation_told xs ys e)))))
    (λ e. permutation_tells xs ys (level_moves raw_ranks xs ys ((Equal-is o).0 e)))

pub entries_tie : (a b : OPT)
    → same_entries a.options.items b.options.items
    ≡ eq_by_cmp (λ (x y : OPT). entries_cmp x.options.items y.options.items) a b
entries_tie a b = raws_tie (map raw_of a.options.items) (map raw_of b.options.items)

-- Options that fit decide by their octets, whatever is behind them.

length_decides : (s t us vs : List ℕ) (o : Ordering) → o ≡ nat_cmp (length s) (length t)
    → ordering_then o (octets_cmp (s ++ us) (t ++ vs))
    ≡ ordering_then (ordering_then o (octets_cmp s t)) (octets_cmp us vs)
length_decides s t us vs Less e = refl
length_decides s t us vs Equal e = cmp_fronts s t us vs (ranked (length s) (length t) Equal e)
length_decides s t us vs Greater e = refl

raw_decides : (r s : RawOption) (us vs : List ℕ) → FitsLengths r → FitsLengths s
    → octets_cmp (raw_octets r ++ us) (raw_octets s ++ vs)
    ≡ ordering_then (raw_cmp r s) (octets_cmp us vs)
raw_decides r s us vs f g =
    let n = length r.octets in
    let m = length s.octets in
    let codes = nat_cmp r.code s.code in
    (short_orders r.code s.code f.code g.code).decides (octets_16 n ++ (r.octets ++ us))
    (octets_16 m ++ (s.octets ++ vs))
    ∙ ap (ordering_then codes) (
    (short_orders n m f.octets g.octets).decides (r.octets ++ us) (s.octets ++ vs)
    ∙ length_decides r.octets s.octets us vs (nat_cmp n m) refl
    )
    ∙ then_assoc codes (ordering_then (nat_cmp n m) (octets_cmp r.octets s.octets))
    (octets_cmp us vs)

then_equal : (o : Ordering) → ordering_then o Equal ≡ o
then_equal Less = refl
then_equal Equal = refl
then_equal Greater = refl

raw_orders : (r s : RawOption) → FitsLengths r → FitsLengths s
    → raw_cmp r s ≡ octets_cmp (raw_octets r) (raw_octets s)
raw_orders r s f g =
    sym (
    ap (λ (o : List ℕ). octets_cmp o (raw_octets s)) (sym (append-nil (raw_octets r)))
    ∙ ap (octets_cmp (raw_octets r ++ [])) (sym (append-nil (raw_octets s)))
    ∙ raw_decides r s [] [] f g
    ∙ then_equal (raw_cmp r s)
    )

joined_orders : (rs ss : List RawOption) → All FitsLengths rs → All FitsLengths ss
    → slice_cmp raw_cmp rs ss ≡ octets_cmp (options_octets rs) (options_octets ss)
joined_orders [] [] f g = refl
joined_orders [] (s ∷ ss) f g = refl
joined_orders (r ∷ rs) [] f g = refl
joined_orders (r ∷ rs) (s ∷ ss) f g =
    ap (ordering_then (raw_cmp r s))
    (joined_orders rs ss (All-tail FitsLengths r rs f) (All-tail FitsLengths s ss g))
    ∙ sym
    (raw_decides r s (options_octets rs) (options_octets ss) (All-head FitsLengths r rs f)
    (All-head FitsLengths s ss g))

-- So they are put in order by their octets.

insert_alike : (x : RawOption) (ys : List RawOption) → FitsLengths x → All FitsLengths ys
    → insert_by raw_cmp x ys ≡ insert_by (on raw_octets octets_cmp) x ys
insert_alike x [] f g = refl
insert_alike x (y ∷ ys) f g =
    ap (λ (o : Ordering). cond (is_gt o) (y ∷ insert_by raw_cmp x ys) (x ∷ y ∷ ys))
    (raw_orders x y f (All-head FitsLengths y ys g))
    ∙ ap
    (λ (zs : List RawOption). cond (is_gt (octets_cmp (raw_octets x) (raw_octets y))) (y ∷ zs)
    (x ∷ y ∷ ys)) (insert_alike x ys f (All-tail FitsLengths y ys g))

sorted_alike : (xs : List RawOption) → All FitsLengths xs
    → sorted_by raw_cmp xs ≡ sorted_by (on raw_octets octets_cmp) xs
sorted_alike [] f = refl
sorted_alike (x ∷ xs) f =
    let later = All-tail FitsLengths x xs f in
    let ys = sorted_by (on raw_octets octets_cmp) xs in
    ap (insert_by raw_cmp x) (sorted_alike xs later)
    ∙ insert_alike x ys (All-head FitsLengths x xs f)
    (All-permutation FitsLengths xs ys (sorted_moves (on raw_octets octets_cmp) xs) later)

sorted_fit : (xs : List RawOption) → All FitsLengths xs → All FitsLengths (sorted_by raw_cmp xs)
sorted_fit xs f = All-permutation FitsLengths xs (sorted_by raw_cmp xs) (sorted_moves raw_cmp xs) f

pub canonical_orders : (xs ys : List Entry) → All FitsLengths (map raw_of xs)
    → All FitsLengths (map raw_of ys)
    → entries_cmp xs ys ≡ octets_cmp (canonical_entries xs) (canonical_entries ys)
canonical_orders xs ys f g =
    joined_orders (sorted_raws xs) (sorted_raws ys) (sorted_fit (map raw_of xs) f)
    (sorted_fit (map raw_of ys) g)
    ∙ ap (λ (rs : List RawOption). octets_cmp (options_octets rs) (options_octets (sorted_raws ys)))
    (sorted_alike (map raw_of xs) f)
    ∙ ap (λ (rs : List RawOption). octets_cmp (canonical_entries xs) (options_octets rs))
    (sorted_alike (map raw_of ys) g)
