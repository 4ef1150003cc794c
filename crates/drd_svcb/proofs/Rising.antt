-- Parameters that are told one by one.
use Rattle.std.proofs.Common.{◌≡◌, ℕ, ◌+◌, ◌<◌, ◌≤◌, List, [], ◌∷◌, refl, sym, ap, subst, arith}
use Rattle.drd_param_keys.specs.Keys.{key_number}
use Rattle.drd_params.specs.Params.{AreParams, IsParam, Param, Rise}

-- The keys rise from a number on.
abbrev pub RiseFrom : ℕ → List Param → Type 0
RiseFrom least params = (above : ℕ) × Rise least params above

-- All are parameters of a record exactly where those left are, from the least key that may stand there.
pub record Left (params : List Param) (least : ℕ) (rest : List Param) : Type 0 where
  pub some : AreParams params → RiseFrom least rest
  pub all : RiseFrom least rest → AreParams params

pub all_left : (params : List Param) → Left params 0 params
all_left params = record { some = λ are. are; all = λ are. are }

pub no_param : (params : List Param) (least : ℕ) (rest : List Param) (p : Param) (later : List Param) → Left params least rest → rest ≡ p ∷ later → (IsParam p → ⊥) → AreParams params → ⊥
no_param params least [] p later left same none are = absurd (cc same)
no_param params least (q ∷ rest) p later left same none are =
    let first : q ≡ p = cc same in
    let rises = left.some are in
    none (subst IsParam first rises.1.0)

pub below : (params : List Param) (least : ℕ) (rest : List Param) (p : Param) (later : List Param) → Left params least rest → rest ≡ p ∷ later → key_number p.0 < least → AreParams params → ⊥
below params least [] p later left same lt are = absurd (cc same)
below params least (q ∷ rest) p later left same lt are =
    let first : q ≡ p = cc same in
    let rises = left.some are in
    omega (arith, lt, rises.1.1, ap (λ (x : Param). key_number x.0) first)

pub one_less : (params : List Param) (least : ℕ) (rest : List Param) (p : Param) (later : List Param) (next : ℕ) → Left params least rest → rest ≡ p ∷ later → IsParam p → least ≤ key_number p.0 → next ≡ key_number p.0 + 1 → Left params next later
one_less params least rest p later next left same is le more =
    let here : Left params least (p ∷ later) = subst (λ (ps : List Param). Left params least ps) same left in
    subst (λ (n : ℕ). Left params n later) (sym more) (record {
      some = λ are. let rises = here.some are in (rises.0, rises.1.2);
      all = λ rises. here.all (rises.0, (is, le, rises.1));
    })

pub none_left : (params : List Param) (least : ℕ) → Left params least [] → AreParams params
none_left params least left = left.all (least, refl)
