-- Windows that were read, and those that are ahead.
use Rattle.std.proofs.Common.{◌≡◌, ℕ, suc, ◌+◌, ◌-◌, ◌*◌, ◌/◌, ◌<◌, ◌≤◌, ◌⊎◌, inl, inr, List, [], ◌∷◌, ◌++◌, length, get_or, Some, None, slice_get, refl, sym, ap, subst, ◌∙◌, arith, append_assoc, append-nil, length-append}
use Rattle.std.proofs.lemmas.List.{get_or_push, nil_from_length}
use Rattle.dnw_wire.specs.BitMaps.{AreOctets, BitMaps, no_window, window, IsMap, IsTightMap, Rises, map_types, octet_types}
use Rattle.dnw_wire.specs.BitMaps.{Begins}
use Rattle.dnw_wire.specs.BitMapLaws.{maps_begin, window_first}

pub not_begun : (above : ℕ) (octets : List ℕ) → 0 < length octets → (Begins above octets → ⊥) → (types : List ℕ) → BitMaps IsMap above octets types → ⊥
not_begun above octets some none types maps =
    elim (maps_begin above octets types maps) [ inl e ↦ let f : length octets ≡ 0 = ap length e in omega arith | inr begun ↦ none begun ]

pub record TypesAhead (octets codes rest : List ℕ) (above : ℕ) : Type 0 where
  pub sound : (later : List ℕ) → BitMaps IsMap above rest later → BitMaps IsMap 0 octets (codes ++ later)
  pub only : (all : List ℕ) → BitMaps IsMap 0 octets all → (later : List ℕ) × (all ≡ codes ++ later) × BitMaps IsMap above rest later

pub ahead_start : (octets : List ℕ) → TypesAhead octets [] octets 0
ahead_start octets = record { sound = λ later maps. maps; only = λ all maps. (all, refl, maps) }

pub ahead_more : (octets codes rest : List ℕ) (above number : ℕ) (map behind : List ℕ) → TypesAhead octets codes rest above → above ≤ number → number < 256 → IsMap map → rest ≡ number ∷ length map ∷ (map ++ behind) → TypesAhead octets (codes ++ map_types (256 * number) map) behind (number + 1)
ahead_more octets codes rest above number map behind a order small fine e = record {
  sound = λ later maps.
      subst (λ (ts : List ℕ). BitMaps IsMap 0 octets ts) (sym (append_assoc codes (map_types (256 * number) map) later))
      (a.sound (map_types (256 * number) map ++ later) (window order small fine e refl maps));
  only = λ all maps.
      let before = a.only all maps in
      let first = window_first above number map behind rest before.0 fine.few e before.2 in
      (first.0, before.1 ∙ ap (λ (ts : List ℕ). codes ++ ts) first.1 ∙ sym (append_assoc codes (map_types (256 * number) map) first.0), first.2);
}

pub ahead_end : (octets codes rest : List ℕ) (above : ℕ) → TypesAhead octets codes rest above → rest ≡ [] → BitMaps IsMap 0 octets codes
ahead_end octets codes rest above a e =
    subst (λ (ts : List ℕ). BitMaps IsMap 0 octets ts) (append-nil codes) (a.sound [] (subst (λ (r : List ℕ). BitMaps IsMap above r []) (sym e) no_window))

pub ahead_none : (octets codes rest : List ℕ) (above : ℕ) → TypesAhead octets codes rest above → ((types : List ℕ) → BitMaps IsMap above rest types → ⊥) → (types : List ℕ) → BitMaps IsMap 0 octets types → ⊥
ahead_none octets codes rest above a none types maps = let found = a.only types maps in none found.0 found.2

-- A window that is filled octet by octet.
pub map_types_push : (base : ℕ) (map : List ℕ) (octet : ℕ) → map_types base (map ++ octet ∷ []) ≡ map_types base map ++ octet_types (base + 8 * length map) octet
map_types_push base [] octet = append-nil (octet_types base octet) ∙ ap (λ (n : ℕ). octet_types n octet) (omega arith)
map_types_push base (o ∷ os) octet =
    ap (λ (t : List ℕ). octet_types base o ++ t) (map_types_push (base + 8) os octet)
    ∙ ap (λ (n : ℕ). octet_types base o ++ (map_types (base + 8) os ++ octet_types n octet)) (omega arith)
    ∙ sym (append_assoc (octet_types base o) (map_types (base + 8) os) (octet_types (base + 8 * length (o ∷ os)) octet))

zero_types : (base : ℕ) → octet_types base 0 ≡ []
unfolding octet_types
zero_types base = refl

pub record Filling (base limit : ℕ) (codes map rest : List ℕ) (at : ℕ) : Type 0 where
  pub types : codes ≡ map_types base map ++ rest
  pub place : at ≡ base + 8 * length map
  pub bound : at ≤ limit
  pub rises : Rises at rest 65536
  pub tight : (length map ≡ 0) ⊎ (get_or map (length map - 1) 0 ≡ 0) → (0 < length rest) × (get_or rest 0 0 < limit)

pub filling_start : (base limit : ℕ) (codes : List ℕ) → base ≤ limit → Rises base codes 65536 → 0 < length codes → get_or codes 0 0 < limit → Filling base limit codes [] codes base
filling_start base limit codes le rises some first = record {
  types = refl;
  place = omega arith;
  bound = le;
  rises = rises;
  tight = λ e. (some, first);
}

rises_first : (low high : ℕ) (codes : List ℕ) → Rises low codes high → 0 < length codes → low ≤ get_or codes 0 0
rises_first low high [] r some = absurd (omega arith)
rises_first low high (c ∷ cs) r some = r.0

pub filling_at : (base : ℕ) (codes map rest : List ℕ) (at : ℕ) → Filling base (base + 256) codes map rest at → 0 < length rest → get_or rest 0 0 < base + 256 → at + 8 ≤ base + 256
filling_at base codes map rest at f some first = omega (arith, f.place, rises_first at 65536 rest f.rises some)

pub filling_more : (base : ℕ) (codes map rest : List ℕ) (at octet : ℕ) (behind : List ℕ) → Filling base (base + 256) codes map rest at → 0 < length rest → get_or rest 0 0 < base + 256 → rest ≡ octet_types at octet ++ behind → Rises (at + 8) behind 65536 → Filling base (base + 256) codes (map ++ octet ∷ []) behind (at + 8)
filling_more base codes map rest at octet behind f some first e rises = record {
  types =
      f.types ∙ ap (λ (t : List ℕ). map_types base map ++ t) e
      ∙ sym (append_assoc (map_types base map) (octet_types at octet) behind)
      ∙ ap (λ (n : ℕ). (map_types base map ++ octet_types n octet) ++ behind) f.place
      ∙ ap (λ (t : List ℕ). t ++ behind) (sym (map_types_push base map octet));
  place = omega (arith, f.place, length-append map (octet ∷ []));
  bound = filling_at base codes map rest at f some first;
  rises = rises;
  tight = λ zero.
      let long : length (map ++ octet ∷ []) ≡ length map + 1 = length-append map (octet ∷ []) in
      let last : get_or (map ++ octet ∷ []) (length (map ++ octet ∷ []) - 1) 0 ≡ octet = ap (λ (n : ℕ). get_or (map ++ octet ∷ []) n 0) (omega arith) ∙ get_or_push map octet 0 (length map) refl in
      let none : octet ≡ 0 = elim zero [ inl empty ↦ absurd (omega arith) | inr z ↦ sym last ∙ z ] in
      let same : rest ≡ behind = e ∙ ap (λ (n : ℕ). octet_types at n ++ behind) none ∙ ap (λ (t : List ℕ). t ++ behind) (zero_types at) in
      subst (λ (r : List ℕ). (0 < length r) × (get_or r 0 0 < base + 256)) same (some, first);
}

positive : (n : ℕ) → (n ≡ 0 → ⊥) → 0 < n
positive n h = grind (arith, h)

rises_from : (limit at : ℕ) (codes : List ℕ) → limit ≤ 65536 → (0 < length codes → limit ≤ get_or codes 0 0) → Rises at codes 65536 → Rises limit codes 65536
rises_from limit at [] fits over r = fits
rises_from limit at (c ∷ cs) fits over r = (over (omega arith), r.1)

rises_at : (limit at : ℕ) (codes : List ℕ) → limit ≤ get_or codes 0 0 → Rises at codes 65536 → Rises limit codes 65536
rises_at limit at [] le r = omega (arith, le, r)
rises_at limit at (c ∷ cs) le r = (le, r.1)

shorter : (codes front rest : List ℕ) (limit : ℕ) → codes ≡ front ++ rest → (0 < length rest → limit ≤ get_or rest 0 0) → 0 < length codes → get_or codes 0 0 < limit → length rest < length codes
shorter codes [] rest limit e over some first =
    let same : length codes ≡ length rest = ap length e in
    let head : get_or codes 0 0 ≡ get_or rest 0 0 = ap (λ (t : List ℕ). get_or t 0 0) e in
    absurd (omega (arith, over (omega arith)))
shorter codes (f ∷ fs) rest limit e over some first = omega (arith, ap length e, length-append fs rest)

pub filling_tight : (base : ℕ) (codes map rest : List ℕ) (at : ℕ) → Filling base (base + 256) codes map rest at → (0 < length rest → base + 256 ≤ get_or rest 0 0) → IsTightMap map
filling_tight base codes map rest at f over = record {
  some = positive (length map) (λ e. let h = f.tight (inl e) in omega (arith, over h.0, h.1));
  few = omega (arith, f.place, f.bound);
  tight = positive (get_or map (length map - 1) 0) (λ e. let h = f.tight (inr e) in omega (arith, over h.0, h.1));
}

pub filling_rises : (base : ℕ) (codes map rest : List ℕ) (at : ℕ) → base + 256 ≤ 65536 → Filling base (base + 256) codes map rest at → (0 < length rest → base + 256 ≤ get_or rest 0 0) → Rises (base + 256) rest 65536
filling_rises base codes map rest at fits f over = rises_from (base + 256) at rest fits over f.rises

pub filling_shorter : (base : ℕ) (codes map rest : List ℕ) (at : ℕ) → Filling base (base + 256) codes map rest at → (0 < length rest → base + 256 ≤ get_or rest 0 0) → 0 < length codes → get_or codes 0 0 < base + 256 → length rest < length codes
filling_shorter base codes map rest at f over some first = shorter codes (map_types base map) rest (base + 256) f.types over some first

-- Windows that were written, and the types that are ahead.
pub record Writing (octets codes rest : List ℕ) : Type 0 where
  pub above : ℕ
  pub sound : (later : List ℕ) → BitMaps IsTightMap above later rest → BitMaps IsTightMap 0 (octets ++ later) codes
  pub rises : Rises (256 * above) rest 65536

pub writing_start : (codes : List ℕ) → Rises 0 codes 65536 → Writing [] codes codes
writing_start codes rises = record { above = 0; sound = λ later maps. maps; rises = rises }

pub writing_rises : (octets codes rest : List ℕ) (number : ℕ) → Writing octets codes rest → 0 < length rest → number ≡ get_or rest 0 0 / 256 → Rises (256 * number) rest 65536
writing_rises octets codes rest number w some e = rises_at (256 * number) (256 * w.above) rest (omega arith) w.rises

pub writing_more : (octets codes rest : List ℕ) (number : ℕ) (map behind : List ℕ) → Writing octets codes rest → 0 < length rest → number ≡ get_or rest 0 0 / 256 → number < 256 → IsTightMap map → rest ≡ map_types (256 * number) map ++ behind → Rises (256 * number + 256) behind 65536 → Writing (((octets ++ number ∷ []) ++ length map ∷ []) ++ map) codes behind
writing_more octets codes rest number map behind w some e small fine types rises = record {
  above = number + 1;
  sound = λ later maps.
      let order : w.above ≤ number = omega (arith, rises_first (256 * w.above) 65536 rest w.rises some) in
      let joined : octets ++ (number ∷ length map ∷ (map ++ later)) ≡ (((octets ++ number ∷ []) ++ length map ∷ []) ++ map) ++ later = sym (simp append_assoc) in
      subst (λ (o : List ℕ). BitMaps IsTightMap 0 o codes) joined (w.sound (number ∷ length map ∷ (map ++ later)) (window order small fine refl types maps));
  rises = subst (λ (n : ℕ). Rises n behind 65536) (omega arith) rises;
}

pub writing_end : (octets codes rest : List ℕ) → Writing octets codes rest → length rest ≡ 0 → BitMaps IsTightMap 0 octets codes
writing_end octets codes rest w e =
    let none : rest ≡ [] = nil_from_length rest e in
    subst (λ (o : List ℕ). BitMaps IsTightMap 0 o codes) (append-nil octets) (w.sound [] (subst (λ (r : List ℕ). BitMaps IsTightMap w.above [] r) (sym none) no_window))

pub first_some : (rest : List ℕ) (x : ℕ) → Some x ≡ slice_get rest 0 → (0 < length rest) × (x ≡ get_or rest 0 0)
first_some [] x e = absurd (cc e)
first_some (y ∷ ys) x e = (omega arith, cc e)

pub first_none : (rest : List ℕ) → slice_get rest 0 ≡ None → length rest ≡ 0
first_none [] e = refl
first_none (y ∷ ys) e = absurd (cc e)

-- Numbers that fit octets.
pub small_octets : (octets : List ℕ) → ((i : ℕ) → get_or octets i 0 < 256) → AreOctets octets
small_octets [] fits = tt
small_octets (octet ∷ octets) fits = (fits 0, small_octets octets (λ i. fits (suc i)))
