-- Entries that are the same up to their order, and what of them is fed to a hasher.
use Rattle.std.specs.Prelude.{ℕ, ◌==◌, ◌&&◌, ◌%◌, ◌^◌, nat_eq, Bool, List, [], ◌∷◌, ◌++◌, length, map, fold}
use Rattle.std.specs.List.{list_all, count_by, sum_by}
use Rattle.std.specs.Cmp.Lexicographic.{pointwise}
use Rattle.std.specs.Hash as fed
use Rattle.std.specs.Hash.FoldHasher as folding
use Rattle.drd_opt.specs.Entries.{Entry, RawOption, raw_of}

-- The same code and the same octets.
abbrev pub same_raw : RawOption → RawOption → Bool
same_raw a b = (a.code == b.code) && pointwise nat_eq a.octets b.octets

-- As many, and each as often in both.
abbrev pub same_counts : List RawOption → List RawOption → Bool
same_counts xs ys =
    (length xs == length ys)
    && list_all (λ x. count_by (same_raw x) xs == count_by (same_raw x) ys) xs

abbrev pub same_entries : List Entry → List Entry → Bool
same_entries xs ys = same_counts (map raw_of xs) (map raw_of ys)

-- A number made of an option's code and octets.
abbrev pub hash_number : RawOption → ℕ
hash_number raw =
    folding.finish (fold folding.write folding.initial (fed.u16 raw.code ++ raw.octets ∷ []))

-- The number of options, and the sum of their numbers, which no order changes.
abbrev pub raws_input : List RawOption → List (List ℕ)
raws_input raws = fed.usize (length raws) ++ fed.u64 (sum_by hash_number raws % 2 ^ 64)

abbrev pub entries_input : List Entry → List (List ℕ)
entries_input entries = raws_input (map raw_of entries)
