-- Laws of the names that are kept.
use Rattle.std.proofs.Common.{◌≡◌, ℕ, ◌+◌, ◌-◌, ◌<◌, ◌≤◌, ◌⊎◌, inl, inr, Bool, true, false, nat_le, List, zero, suc, [], ◌∷◌, ◌++◌, length, take, drop, map, filter, cond, get_or, Option, Some, None, Result, Ok, Err, refl, sym, ap, subst, ◌∙◌, arith}
use Rattle.std.specs.List.{slice_range}
use Rattle.std.specs.Result.{OnOk, OnErr, is_err}
use Rattle.std.proofs.lemmas.List.{length-take, length-drop, length-append, take-append-le, drop-append-le, take-append-drop, take_all, take_at, take_more, append_cancel_left}
use Rattle.dnw_encoder.specs.Candidates.{AreWithin, FindsAmong, IsWithin, candidate_of, candidates_of}
use Rattle.dnw_encoder.specs.Members.{In}
use Rattle.dnw_encoder.specs.State.{Candidate, State}
use Rattle.dnw_encoder.specs.Effects.{FindsCandidate}
use Rattle.dnw_encoder.specs.declared.candidates.Entry.{Entry}
use Rattle.dnw_encoder.proofs.MemberLaws.{in_push}

-- Octets in the front of a list are there in the whole.
pub slice_grown : (xs ys : List ℕ) (from to : ℕ) → from ≤ to → to ≤ length xs → slice_range (xs ++ ys) from to ≡ slice_range xs from to
slice_grown xs ys from to order within =
    ap (λ (t : List ℕ). take (to - from) t) (drop-append-le from xs ys (omega arith))
    ∙ take-append-le (to - from) (drop from xs) ys (omega (arith, length-drop from xs))

pub slice_cut : (xs : List ℕ) (n from to : ℕ) → from ≤ to → to ≤ length xs → to ≤ n → slice_range (take n xs) from to ≡ slice_range xs from to
slice_cut xs n from to order within cut =
    sym (slice_grown (take n xs) (drop n xs) from to order (omega (arith, length-take n xs)))
    ∙ ap (λ (t : List ℕ). slice_range t from to) (take-append-drop n xs)

entry_grown : (octets more : List ℕ) (e : Entry) → IsWithin octets e → candidate_of (octets ++ more) e ≡ candidate_of octets e
entry_grown octets more e w =
    ap (λ (o : List ℕ). let c : Candidate = record { place = e.place; octets = o; end = e.end } in c) (slice_grown octets more e.from e.to w.order w.within)

entry_cut : (octets : List ℕ) (n : ℕ) (e : Entry) → IsWithin octets e → e.to ≤ n → candidate_of (take n octets) e ≡ candidate_of octets e
entry_cut octets n e w cut =
    ap (λ (o : List ℕ). let c : Candidate = record { place = e.place; octets = o; end = e.end } in c) (slice_cut octets n e.from e.to w.order w.within cut)

-- Octets behind others, or those behind all names, change none.
pub candidates_grown : (octets more : List ℕ) (es : List Entry) → AreWithin octets es → candidates_of (octets ++ more) es ≡ candidates_of octets es
candidates_grown octets more [] within = refl
candidates_grown octets more (e ∷ es) within =
    ap (λ (c : Candidate). c ∷ candidates_of (octets ++ more) es) (entry_grown octets more e (within e (inl refl)))
    ∙ ap (λ (cs : List Candidate). candidate_of octets e ∷ cs) (candidates_grown octets more es (λ x found. within x (inr found)))

pub candidates_cut : (octets : List ℕ) (n : ℕ) (es : List Entry) → AreWithin octets es → ((e : Entry) → In e es → e.to ≤ n) → candidates_of (take n octets) es ≡ candidates_of octets es
candidates_cut octets n [] within cut = refl
candidates_cut octets n (e ∷ es) within cut =
    ap (λ (c : Candidate). c ∷ candidates_of (take n octets) es) (entry_cut octets n e (within e (inl refl)) (cut e (inl refl)))
    ∙ ap (λ (cs : List Candidate). candidate_of octets e ∷ cs) (candidates_cut octets n es (λ x found. within x (inr found)) (λ x found. cut x (inr found)))

pub within_grown : (octets more : List ℕ) (es : List Entry) → AreWithin octets es → AreWithin (octets ++ more) es
within_grown octets more es within e found =
    let w = within e found in
    record { order = w.order; within = omega (arith, w.within, length-append octets more); small = w.small }

pub within_cut : (octets : List ℕ) (n : ℕ) (es : List Entry) → AreWithin octets es → ((e : Entry) → In e es → e.to ≤ n) → AreWithin (take n octets) es
within_cut octets n es within cut e found =
    let w = within e found in
    record { order = w.order; within = omega (arith, w.within, cut e found, length-take n octets); small = w.small }

-- One more of a list's front.
pub in_more : {X : Type 0} (xs : List X) (i : ℕ) (d y : X) → i < length xs → In y (take (i + 1) xs) → In y (take i xs) ⊎ (get_or xs i d ≡ y)
in_more {X} xs i d y lt found = in_push y (get_or xs i d) (take i xs) (subst (λ (l : List X). In y l) (take_more xs i d lt) found)

pub in_get : {X : Type 0} (xs : List X) (i : ℕ) (d : X) → i < length xs → In (get_or xs i d) xs
in_get [] i d lt = absurd (omega (arith, lt))
in_get (y ∷ ys) zero d lt = inl refl
in_get (y ∷ ys) (suc i) d lt = inr (in_get ys i d (omega (arith, lt)))

pub in_map : {X Y : Type 0} (f : X → Y) (y : Y) (xs : List X) → In y (map f xs) → (x : X) × In x xs × (f x ≡ y)
in_map f y [] found = absurd found
in_map f y (x ∷ xs) (inl e) = (x, inl refl, e)
in_map f y (x ∷ xs) (inr later) = let h = in_map f y xs later in (h.0, inr h.1, h.2)

pub in_map_back : {X Y : Type 0} (f : X → Y) (x : X) (xs : List X) → In x xs → In (f x) (map f xs)
in_map_back f x [] found = absurd found
in_map_back f x (z ∷ zs) (inl e) = inl (ap f e)
in_map_back f x (z ∷ zs) (inr later) = inr (in_map_back f x zs later)

-- Those that end by an offset, told of entries and of names.
filter_step : (octets : List ℕ) (offset : ℕ) (e : Entry) (es : List Entry) (b : Bool) → candidates_of octets (filter (λ x. nat_le x.end offset) es) ≡ filter (λ c. nat_le c.end offset) (candidates_of octets es) → candidates_of octets (cond b (e ∷ filter (λ x. nat_le x.end offset) es) (filter (λ x. nat_le x.end offset) es)) ≡ cond b (candidate_of octets e ∷ filter (λ c. nat_le c.end offset) (candidates_of octets es)) (filter (λ c. nat_le c.end offset) (candidates_of octets es))
filter_step octets offset e es true rest = ap (λ (cs : List Candidate). candidate_of octets e ∷ cs) rest
filter_step octets offset e es false rest = rest

pub candidates_filter : (octets : List ℕ) (offset : ℕ) (es : List Entry) → candidates_of octets (filter (λ x. nat_le x.end offset) es) ≡ filter (λ c. nat_le c.end offset) (candidates_of octets es)
candidates_filter octets offset [] = refl
candidates_filter octets offset (e ∷ es) = filter_step octets offset e es (nat_le e.end offset) (candidates_filter octets offset es)

pub in_append : {X : Type 0} (x : X) (xs ys : List X) → In x (xs ++ ys) → In x xs ⊎ In x ys
in_append x [] ys found = inr found
in_append x (z ∷ zs) ys (inl e) = inl (inl e)
in_append x (z ∷ zs) ys (inr later) = elim (in_append x zs ys later) [ inl found ↦ inl (inr found) | inr found ↦ inr found ]

pub in_back : {X : Type 0} (x : X) (xs ys : List X) → In x ys → In x (xs ++ ys)
in_back x [] ys found = found
in_back x (z ∷ zs) ys found = inr (in_back x zs ys found)

-- The front is the whole.
pub in_all : {X : Type 0} (xs : List X) (i : ℕ) (x : X) → length xs ≤ i → In x xs → In x (take i xs)
in_all {X} xs i x le found = subst (λ (l : List X). In x l) (sym (take_all i xs le)) found

-- What is read where no entry stands.
abbrev pub blank : Entry
blank = record { from = 0; to = 0; place = 0; end = 0 }

-- The last of some octets and those before it are the whole.
pub last_of : (octets front : List ℕ) (end : ℕ) → octets ≡ front ++ end ∷ [] → (labels : List ℕ) → octets ≡ labels ++ 0 ∷ [] → (front ≡ labels) × (end ≡ 0)
last_of octets front end split labels is =
    let long : length front ≡ length labels = omega (arith, ap length split, ap length is, length-append front (end ∷ []), length-append labels (0 ∷ [])) in
    let whole : front ++ end ∷ [] ≡ labels ++ 0 ∷ [] = sym split ∙ is in
    let same : front ≡ labels = sym (take_at front (end ∷ []) (length labels) long) ∙ ap (λ (t : List ℕ). take (length labels) t) whole ∙ take_at labels (0 ∷ []) (length labels) refl in
    let rest : end ∷ [] ≡ 0 ∷ [] = append_cancel_left labels (end ∷ []) (0 ∷ []) (ap (λ (t : List ℕ). t ++ end ∷ []) (sym same) ∙ whole) in
    (same, ap (λ (t : List ℕ). get_or t 0 0) rest)

-- What is told of an accepted call.
pub on_accepted : {T E P : Type 0} (r : Result T E) → is_err r ≡ false → OnOk r P → P
on_accepted (Ok x) e p = p
on_accepted (Err x) e p = absurd (cc e)

pub on_refused : {T E P : Type 0} (r : Result T E) → is_err r ≡ true → OnErr r P → P
on_refused (Ok x) e p = absurd (cc e)
on_refused (Err x) e p = p

pub on_either : {T E P : Type 0} (r : Result T E) → OnOk r P → OnErr r P → P
on_either (Ok x) p q = p
on_either (Err x) p q = q

pub on_both : {T E P Q R : Type 0} (r : Result T E) → (P → Q → R) → OnOk r P → OnOk r Q → OnOk r R
on_both (Ok x) f p q = f p q
on_both (Err x) f p q = p

-- Octets behind those of all names change nothing.
pub record Unchanged (octets new : List ℕ) (es : List Entry) : Type 0 where
  pub within : AreWithin new es
  pub same : candidates_of new es ≡ candidates_of octets es

pub unchanged : (octets more new : List ℕ) (es : List Entry) → AreWithin octets es → new ≡ octets ++ more → Unchanged octets new es
unchanged octets more new es within grown = record {
  within = subst (λ (t : List ℕ). AreWithin t es) (sym grown) (within_grown octets more es within);
  same = ap (λ (t : List ℕ). candidates_of t es) grown ∙ candidates_grown octets more es within;
}

-- The place of one, or that none has the octets.
pub finds_candidate : (s : State) (octets : List ℕ) (found : Option ℕ) → FindsAmong s.candidates octets found → FindsCandidate s octets found
finds_candidate s octets (Some place) f = f
finds_candidate s octets None f = λ has. f has.0 has.1 has.2
