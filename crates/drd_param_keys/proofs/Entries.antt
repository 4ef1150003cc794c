-- Entries that are read one behind the other.
use Rattle.std.proofs.Common.{◌≡◌, ℕ, ◌<◌, ◌⊎◌, inl, inr, List, [], ◌∷◌, ◌++◌, length, sym, ap, ◌∙◌, arith, append_assoc, append-nil}
use Rattle.std.specs.List.{flat_map}
use Rattle.std.proofs.lemmas.Grind.{flat_map-append}
use Rattle.std.proofs.lemmas.List.Concat.{flat_map-cons}
use Rattle.drd_words.specs.dnw_codes.declared.error.DecodeError.{DecodeError}
use Rattle.drd_param_keys.specs.Entries.{RefusesNext}

-- What stands behind the first entries of any list of these octets is a list too.
abbrev pub Ahead : {T : Type 0} → (T → List ℕ) → List ℕ → List ℕ → Type 0
Ahead {T} spelled octets left = (entries : List T) → flat_map spelled entries ≡ octets → (later : List T) × (flat_map spelled later ≡ left)

module _ {T : Type 0} (spelled : T → List ℕ) where
  pub front-more : (found : List T) (e : T) (left behind octets : List ℕ) → flat_map spelled found ++ left ≡ octets → left ≡ spelled e ++ behind → flat_map spelled (found ++ e ∷ []) ++ behind ≡ octets
  front-more found e left behind octets front at =
      let one : flat_map spelled (found ++ e ∷ []) ≡ flat_map spelled found ++ spelled e = flat_map-append spelled found (e ∷ []) ∙ ap (λ (o : List ℕ). flat_map spelled found ++ o) (flat_map-cons spelled e [] ∙ append-nil (spelled e)) in
      ap (λ (o : List ℕ). o ++ behind) one ∙ append_assoc (flat_map spelled found) (spelled e) behind ∙ ap (λ (o : List ℕ). flat_map spelled found ++ o) (sym at) ∙ front

  -- Octets that are a list begin with an entry, if there are any.
  pub begins : (later : List T) (left : List ℕ) → 0 < length left → flat_map spelled later ≡ left → (e : T) × (more : List T) × (left ≡ spelled e ++ flat_map spelled more)
  begins [] left some is = absurd (omega (arith, ap length is))
  begins (e ∷ more) left some is = (e, more, sym is ∙ flat_map-cons spelled e more)

  pub ahead-more : (once : (a b : T) (xs ys : List ℕ) → spelled a ++ xs ≡ spelled b ++ ys → xs ≡ ys) (octets left : List ℕ) (e : T) (behind : List ℕ) → 0 < length left → left ≡ spelled e ++ behind → Ahead spelled octets left → Ahead spelled octets behind
  ahead-more once octets left e behind some at ahead entries is =
      let later = ahead entries is in
      let first = begins later.0 left some later.1 in
      (first.1, once first.0 e (flat_map spelled first.1) behind (sym first.2 ∙ at))

  -- Where the octets left begin with no entry, the octets are no list.
  pub next-refused : {M : Type 0} (refuses : List ℕ → DecodeError → Type 0) (octets : List ℕ) (found : List T) (left : List ℕ) (e : DecodeError) → flat_map spelled found ++ left ≡ octets → 0 < length left → Ahead spelled octets left → M ⊎ (refuses left e × ((x : T) (behind : List ℕ) → left ≡ spelled x ++ behind → ⊥)) → M ⊎ (RefusesNext spelled refuses octets e × ((entries : List T) → flat_map spelled entries ≡ octets → ⊥))
  next-refused refuses octets found left e front some ahead (inl m) = inl m
  next-refused refuses octets found left e front some ahead (inr why) = inr (
    record { front = found; rest = left; parts = front; some = some; cause = why.0 },
    λ entries is.
        let later = ahead entries is in
        let first = begins later.0 left some later.1 in
        why.1 first.0 (flat_map spelled first.1) first.2,
  )
