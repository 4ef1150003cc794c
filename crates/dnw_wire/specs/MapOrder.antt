-- The order of sets of types: that of the octets of their bit maps, from the left (RFC 4034 4.1.2,
-- 6.3).
use Rattle.std.specs.Prelude.{ℕ, zero, suc, ◌+◌, ◌-◌, ◌/◌, ◌%◌, ◌^◌, ◌==◌, Bool, false, List, [], ◌∷◌, ◌++◌, cond, replicate, Option, Some, None}
use Rattle.std.specs.Cmp.Lexicographic.{slice_cmp}
use Rattle.std.specs.Ordering.{nat_cmp, on, then_cmp}
use Rattle.std.specs.declared.cmp.Ordering.{Ordering}

-- The place of a type's octet in the map of its window, and its bit there: the top one stands for
-- the lowest type.
abbrev pub octet_place : ℕ → ℕ
octet_place code = code % 256 / 8

abbrev pub octet_bit : ℕ → ℕ
octet_bit code = 2 ^ (7 - code % 8)

-- The window of a type alone: the window's number, the length of its map, and the map up to the
-- type's octet.
abbrev pub window_of : ℕ → List ℕ
window_of code =
    code / 256 ∷ (octet_place code + 1) ∷ (replicate (octet_place code) 0 ++ octet_bit code ∷ [])

-- Octets with a bit more at a place.
abbrev pub with_bit : ℕ → ℕ → List ℕ → List ℕ
with_bit place bit [] = []
with_bit zero bit (octet ∷ octets) = (octet + bit) ∷ octets
with_bit (suc place) bit (octet ∷ octets) = octet ∷ with_bit place bit octets

-- Bit maps with one type more, which is below theirs: its bit in their first window, behind the
-- length, or else a window of its own before them.
abbrev pub with_type : ℕ → List ℕ → List ℕ
with_type code [] = window_of code
with_type code (number ∷ window) =
    cond (number == code / 256) (number ∷ with_bit (suc (octet_place code)) (octet_bit code) window)
    (window_of code ++ number ∷ window)

-- The bit maps of types that rise, as they are written: type by type, the last one first.
unfoldable pub tight_maps : List ℕ → List ℕ
tight_maps [] = []
tight_maps (code ∷ codes) = with_type code (tight_maps codes)

-- By the bit maps. Lists that are no sets, whose bit maps may be the same, follow their numbers.
abbrev pub types_cmp : List ℕ → List ℕ → Ordering
types_cmp = then_cmp (on tight_maps (slice_cmp nat_cmp)) (slice_cmp nat_cmp)

-- The greatest of rising types in the window of the first.
abbrev pub window_end : ℕ → List ℕ → ℕ
window_end code [] = code
window_end code (next ∷ codes) = cond (next / 256 == code / 256) (window_end next codes) code

-- The length of the map of the first's window.
abbrev pub map_len : ℕ → List ℕ → ℕ
map_len code codes = octet_place (window_end code codes) + 1

-- Whether a type, if there is one, lies in the window of another.
abbrev pub shares_window : Option ℕ → ℕ → Bool
shares_window None code = false
shares_window (Some common) code = common / 256 == code / 256

-- Types behind one, if there is one.
abbrev pub codes_after : Option ℕ → List ℕ → List ℕ
codes_after None codes = codes
codes_after (Some code) codes = code ∷ codes
