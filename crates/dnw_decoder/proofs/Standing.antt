-- What stands in a message: fronts and heads.
use Rattle.std.proofs.Common.{◌≡◌, ℕ, ◌+◌, ◌/◌, ◌%◌, ◌<◌, ◌≤◌, List, [], ◌∷◌, ◌++◌, length, get_or, take, drop, refl, sym, ap, ◌∙◌, arith, add-zero, append_assoc}
use Rattle.std.proofs.lemmas.List.{length-take, length-drop, length-append, get_or-drop, drop-drop, drop_more, take-append-drop, take_at, drop_at}
use Rattle.dnw_decoder.specs.Octets.{Stands, octets_32}
use Rattle.dnw_decoder.specs.Spelling.{pointer_octets}

-- A front of what is left stands there.
pub stands_front : (message : List ℕ) (place n : ℕ) → place + n ≤ length message → Stands message place (take n (drop place message)) (place + n)
stands_front message place n fits = record {
  there = sym (take-append-drop n (drop place message)) ∙ ap (λ (rest : List ℕ). take n (drop place message) ++ rest) (drop-drop n place message);
  behind = omega (arith, length-take n (drop place message), length-drop place message);
}

-- What stands somewhere lies within the message.
pub stands_within : (message : List ℕ) (place : ℕ) (octets : List ℕ) (end : ℕ) → 0 < length octets → Stands message place octets end → end ≤ length message
stands_within message place octets end some s =
    let whole : length (drop place message) ≡ length (octets ++ drop end message) = ap length s.there in
    omega (arith, whole, s.behind, length-drop place message, length-append octets (drop end message), length-drop end message)

-- The first octet of what stands at a place is the octet there.
pub stands_head : (message : List ℕ) (place k : ℕ) (ks : List ℕ) (end : ℕ) → Stands message place (k ∷ ks) end → get_or message place 0 ≡ k
stands_head message place k ks end s =
    let first : get_or (drop place message) 0 0 ≡ k = ap (λ (octets : List ℕ). get_or octets 0 0) s.there in
    sym (get_or-drop place message 0 0 ∙ ap (λ (i : ℕ). get_or message i 0) (add-zero place)) ∙ first

-- The second octet of what stands at a place is the octet behind.
pub stands_second : (message : List ℕ) (place k m : ℕ) (ks : List ℕ) (end : ℕ) → Stands message place (k ∷ m ∷ ks) end → get_or message (place + 1) 0 ≡ m
stands_second message place k m ks end s =
    let second : get_or (drop place message) 1 0 ≡ m = ap (λ (octets : List ℕ). get_or octets 1 0) s.there in
    sym (get_or-drop place message 1 0) ∙ second

-- What stands is as many of the octets from the place on.
pub stands_taken : (message : List ℕ) (place : ℕ) (octets : List ℕ) (end n : ℕ) → length octets ≡ n → Stands message place octets end → octets ≡ take n (drop place message)
stands_taken message place octets end n long s =
    sym (ap (λ (rest : List ℕ). take n rest) s.there ∙ take_at octets (drop end message) n long)

-- Two that stand at one place and are as long are the same.
pub stands_same : (message : List ℕ) (place : ℕ) (xs ys : List ℕ) (e f : ℕ) → length xs ≡ length ys → Stands message place xs e → Stands message place ys f → (xs ≡ ys) × (e ≡ f)
stands_same message place xs ys e f long s t =
    (stands_taken message place xs e (length ys) long s ∙ sym (stands_taken message place ys f (length ys) refl t), omega (arith, s.behind, t.behind, long))

-- One place points to one place.
pub pointer_once : (message : List ℕ) (place t u e f : ℕ) → Stands message place (pointer_octets t) e → Stands message place (pointer_octets u) f → (t ≡ u) × (e ≡ f)
pointer_once message place t u e f s r =
    let high : 192 + t / 256 ≡ 192 + u / 256 = sym (stands_head message place _ _ e s) ∙ stands_head message place _ _ f r in
    let low : t % 256 ≡ u % 256 = sym (stands_second message place _ _ [] e s) ∙ stands_second message place _ _ [] f r in
    (omega arith, s.behind ∙ sym r.behind)

-- Where octets are cut, they don't stand.
pub cut_none : (message : List ℕ) (place wanted : ℕ) (octets : List ℕ) (end : ℕ) → length octets ≡ wanted → 0 < wanted → length message < place + wanted → Stands message place octets end → ⊥
cut_none message place wanted octets end long some cut there =
    omega (arith, stands_within message place octets end (omega arith) there, there.behind)

pub length-octets_32 : (n : ℕ) → length (octets_32 n) ≡ 4
unfolding octets_32
length-octets_32 n = refl

-- A front stands there, and the rest behind it.
pub stands_split : (message : List ℕ) (place : ℕ) (front rest : List ℕ) (end : ℕ) → Stands message place (front ++ rest) end → Stands message place front (place + length front) × Stands message (place + length front) rest end
stands_split message place front rest end s =
    let whole : drop place message ≡ front ++ (rest ++ drop end message) = s.there ∙ append_assoc front rest (drop end message) in
    let behind : drop (place + length front) message ≡ rest ++ drop end message =
    sym (drop-drop (length front) place message) ∙ ap (λ (t : List ℕ). drop (length front) t) whole ∙ drop_at front (rest ++ drop end message) (length front) refl in (
      record { there = whole ∙ ap (λ (t : List ℕ). front ++ t) (sym behind); behind = refl },
      record { there = behind; behind = omega (arith, s.behind, length-append front rest) },
    )

-- One behind the other.
pub stands_joined : (message : List ℕ) (place : ℕ) (front : List ℕ) (middle : ℕ) (rest : List ℕ) (end : ℕ) → Stands message place front middle → Stands message middle rest end → Stands message place (front ++ rest) end
stands_joined message place front middle rest end s t = record {
  there = s.there ∙ ap (λ (o : List ℕ). front ++ o) t.there ∙ sym (append_assoc front rest (drop end message));
  behind = omega (arith, s.behind, t.behind, length-append front rest);
}

-- Where an octet below 64 stands before as many others, a label stands.
pub record LabelStands (message : List ℕ) (place : ℕ) (label : List ℕ) (n : ℕ) : Type 0 where
  pub long : length label ≡ n
  pub there : Stands message place (length label ∷ label) (place + (1 + n))

pub label_stands : (message : List ℕ) (place n : ℕ) → get_or message place 0 ≡ n → place + 1 + n ≤ length message → LabelStands message place (take n (drop (place + 1) message)) n
label_stands message place n head fits =
    let long : length (take n (drop (place + 1) message)) ≡ n = omega (arith, length-take n (drop (place + 1) message), length-drop (place + 1) message) in
    let first : drop place message ≡ n ∷ drop (place + 1) message = drop_more message place 0 (omega (arith, fits)) ∙ ap (λ (k : ℕ). k ∷ drop (place + 1) message) head in
    let rest : drop (place + 1) message ≡ take n (drop (place + 1) message) ++ drop (place + (1 + n)) message = sym (take-append-drop n (drop (place + 1) message)) ∙ ap (λ (r : List ℕ). take n (drop (place + 1) message) ++ r) (drop-drop n (place + 1) message ∙ ap (λ (k : ℕ). drop k message) (omega arith)) in
    record {
      long = long;
      there = record {
        there = first ∙ ap (λ (r : List ℕ). n ∷ r) rest ∙ ap (λ (k : ℕ). k ∷ (take n (drop (place + 1) message) ++ drop (place + (1 + n)) message)) (sym long);
        behind = omega (arith, long);
      };
    }
