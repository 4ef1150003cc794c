-- An octet's bits, one by one.
use Rattle.std.proofs.Common.{◌≡◌, ℕ, zero, suc, ◌+◌, ◌-◌, ◌*◌, ◌/◌, ◌%◌, ◌^◌, ◌<◌, ◌==◌, List, [], ◌∷◌, ◌++◌, length, get_or, drop, cond, sym, ap, ◌∙◌, arith, append_assoc, add-one}
use Rattle.std.proofs.lemmas.List.{drop_more}
use Rattle.dnw_wire.specs.BitMaps.{bits_types, octet_types, map_types}

half : (octet k : ℕ) → k < 8 → octet / 2 ^ (7 - k) / 2 ≡ octet / 2 ^ (8 - k)
half octet zero lt = omega arith
half octet (suc zero) lt = omega arith
half octet (suc (suc zero)) lt = omega arith
half octet (suc (suc (suc zero))) lt = omega arith
half octet (suc (suc (suc (suc zero)))) lt = omega arith
half octet (suc (suc (suc (suc (suc zero))))) lt = omega arith
half octet (suc (suc (suc (suc (suc (suc zero)))))) lt = omega arith
half octet (suc (suc (suc (suc (suc (suc (suc zero))))))) lt = omega arith
half octet (suc (suc (suc (suc (suc (suc (suc (suc k)))))))) lt = absurd (omega arith)

-- One bit more.
pub bits_more : (base bit octet : ℕ) → bit < 8 → bits_types base (bit + 1) (octet / 2 ^ (8 - (bit + 1))) ≡ bits_types base bit (octet / 2 ^ (8 - bit)) ++ cond (octet / 2 ^ (7 - bit) % 2 == 1) ((base + bit) ∷ []) []
bits_more base bit octet lt =
    let next : 8 - (bit + 1) ≡ 7 - bit = omega arith in
    ap (λ (k : ℕ). bits_types base (bit + 1) (octet / 2 ^ k)) next
    ∙ ap (λ (n : ℕ). bits_types base n (octet / 2 ^ (7 - bit))) (add-one bit)
    ∙ ap (λ (x : ℕ). bits_types base bit x ++ cond (octet / 2 ^ (7 - bit) % 2 == 1) ((base + bit) ∷ []) []) (half octet bit lt)

-- A whole octet.
pub bits_whole : (base octet : ℕ) → bits_types base 8 (octet / 2 ^ (8 - 8)) ≡ octet_types base octet
unfolding octet_types
bits_whole base octet = let same : octet / 2 ^ (8 - 8) ≡ octet = omega arith in ap (λ (x : ℕ). bits_types base 8 x) same

-- One octet more of a window.
pub map_more : (front : List ℕ) (base : ℕ) (map : List ℕ) (i : ℕ) → i < length map → (front ++ octet_types (base + 8 * i) (get_or map i 0)) ++ map_types (base + 8 * (i + 1)) (drop (i + 1) map) ≡ front ++ map_types (base + 8 * i) (drop i map)
map_more front base map i lt =
    append_assoc front (octet_types (base + 8 * i) (get_or map i 0)) (map_types (base + 8 * (i + 1)) (drop (i + 1) map))
    ∙ ap (λ (n : ℕ). front ++ (octet_types (base + 8 * i) (get_or map i 0) ++ map_types n (drop (i + 1) map))) (omega arith)
    ∙ sym (ap (λ (t : List ℕ). front ++ map_types (base + 8 * i) t) (drop_more map i 0 lt))
