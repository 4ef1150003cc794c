-- Octets written over others, piece by piece.
use Rattle.std.proofs.Common.{◌≡◌, ℕ, ◌+◌, ◌<◌, ◌≤◌, List, [], ◌∷◌, ◌++◌, length, get_or, set, take, drop, sym, ap, ◌∙◌, arith, append_assoc, append-nil, add-zero}
use Rattle.std.proofs.lemmas.List.{length-take, length-append, drop-drop, drop_more, take_more, take_at, drop_at, set_at, take-append-drop, drop_all}
use Rattle.std.proofs.Math.Seq.{take-length}
use Rattle.dnw_encoder.specs.Effects.{written_at}

pub written_none : (octets : List ℕ) (place : ℕ) → written_at octets place [] ≡ octets
written_none octets place =
    ap (λ (front : List ℕ). front ++ drop (place + 0) octets) (append-nil (take place octets))
    ∙ ap (λ (n : ℕ). take place octets ++ drop n octets) (add-zero place)
    ∙ take-append-drop place octets

pub written_more : (octets : List ℕ) (place : ℕ) (more : List ℕ) (i : ℕ) → place + length more ≤ length octets → i < length more → set (written_at octets place (take i more)) (place + i) (get_or more i 0) ≡ written_at octets place (take (i + 1) more)
written_more octets place more i fits lt =
    let x = get_or more i 0 in
    let front = take place octets ++ take i more in
    let some : length (take i more) ≡ i = omega (arith, length-take i more) in
    let next : length (take (i + 1) more) ≡ i + 1 = omega (arith, length-take (i + 1) more) in
    let long : length front ≡ place + i = omega (arith, length-append (take place octets) (take i more), length-take place octets, some) in
    let rest : drop (place + length (take i more)) octets ≡ get_or octets (place + i) 0 ∷ drop (place + i + 1) octets =
    ap (λ (k : ℕ). drop (place + k) octets) some ∙ drop_more octets (place + i) 0 (omega arith) in
    let written : set (front ++ drop (place + length (take i more)) octets) (place + i) x ≡ front ++ x ∷ drop (place + i + 1) octets =
    ap (λ (t : List ℕ). set (front ++ t) (place + i) x) rest ∙ set_at front (get_or octets (place + i) 0) (drop (place + i + 1) octets) x (place + i) long in
    let behind : drop (place + length (take (i + 1) more)) octets ≡ drop (place + i + 1) octets = ap (λ (k : ℕ). drop k octets) (omega arith) in
    let wanted : written_at octets place (take (i + 1) more) ≡ front ++ x ∷ drop (place + i + 1) octets =
    ap (λ (t : List ℕ). (take place octets ++ take (i + 1) more) ++ t) behind
    ∙ ap (λ (t : List ℕ). (take place octets ++ t) ++ drop (place + i + 1) octets) (take_more more i 0 lt)
    ∙ simp append_assoc in
    written ∙ sym wanted

pub written_all : (octets : List ℕ) (place : ℕ) (more : List ℕ) → written_at octets place (take (length more) more) ≡ written_at octets place more
written_all octets place more = ap (λ (t : List ℕ). written_at octets place t) (take-length more)

-- A front, and the rest behind it.
pub written_twice : (octets : List ℕ) (place : ℕ) (front rest : List ℕ) → place + length front ≤ length octets → written_at (written_at octets place front) (place + length front) rest ≡ written_at octets place (front ++ rest)
written_twice octets place front rest fits =
    let n = place + length front in
    let head = take place octets ++ front in
    let long : length head ≡ n = omega (arith, length-append (take place octets) front, length-take place octets) in
    let behind : drop (n + length rest) (head ++ drop n octets) ≡ drop (n + length rest) octets =
    sym (drop-drop (length rest) n (head ++ drop n octets)) ∙ ap (λ (t : List ℕ). drop (length rest) t) (drop_at head (drop n octets) n long) ∙ drop-drop (length rest) n octets in
    ap (λ (t : List ℕ). (t ++ rest) ++ drop (n + length rest) (head ++ drop n octets)) (take_at head (drop n octets) n long)
    ∙ ap (λ (t : List ℕ). (head ++ rest) ++ t) behind
    ∙ ap (λ (t : List ℕ). t ++ drop (n + length rest) octets) (append_assoc (take place octets) front rest)
    ∙ ap (λ (k : ℕ). (take place octets ++ (front ++ rest)) ++ drop k octets) (omega (arith, length-append front rest))

-- To the end and beyond.
pub written_beyond : (octets : List ℕ) (place : ℕ) (front rest : List ℕ) → length octets ≤ place + (length front + length rest) → (take place octets ++ front) ++ rest ≡ written_at octets place (front ++ rest)
written_beyond octets place front rest far =
    let none : drop (place + length (front ++ rest)) octets ≡ [] = drop_all (place + length (front ++ rest)) octets (omega (arith, length-append front rest)) in
    append_assoc (take place octets) front rest
    ∙ sym (ap (λ (t : List ℕ). (take place octets ++ (front ++ rest)) ++ t) none ∙ append-nil (take place octets ++ (front ++ rest)))

-- At the end.
pub written_end : (octets : List ℕ) (place : ℕ) (more : List ℕ) → place ≡ length octets → octets ++ more ≡ written_at octets place more
written_end octets place more end =
    let front : take place octets ≡ octets = ap (λ (n : ℕ). take n octets) end ∙ take-length octets in
    let none : drop (place + length more) octets ≡ [] = drop_all (place + length more) octets (omega (arith, end)) in
    sym (ap (λ (t : List ℕ). (t ++ more) ++ drop (place + length more) octets) front ∙ ap (λ (t : List ℕ). (octets ++ more) ++ t) none ∙ append-nil (octets ++ more))
