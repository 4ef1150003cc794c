-- Names under their keys.
use Rattle.std.proofs.Common.{◌≡◌, ℕ, suc, set, get_or, subst, Bool, true, false, cond, List, [], ◌∷◌, Option, Some, None, arith, refl, ap, sym, ◌∙◌}
use Rattle.std.proofs.Math.Bool.{◌||◌}
use Rattle.std.specs.Prelude.{is_some, MatchOption}
use Rattle.std.specs.List.{list_any}
use Rattle.std.specs.List.{swap}
use Rattle.std.specs.List.Sorted.{IsPermutation, SwapsInRange, apply_swaps}
use Rattle.std.specs.Map.{keys_of, lookup}
use Rattle.std.proofs.lemmas.List.{length-map}
use Rattle.std.proofs.Math.ListN.{get_or-map}
use Rattle.std.proofs.Math.Seq.{map-set}
use Rattle.dnw_name.specs.DomainName.{DomainName, lowercase_name, name_eq}
use Rattle.zst_key.proofs.KeyLemmas.{eq-lower-first, one-lower}
use Rattle.zsv_blocked.specs.BlockedNames.{is_listed}
use Rattle.zsv_blocked.specs.Entries.{AreLower}

-- A search of the entries finds what is listed.
pub holds-listed : (es : List (DomainName × DomainName)) (name : DomainName) → is_some (lookup (name_eq name) es) ≡ is_listed (keys_of es) name
holds-listed [] name = refl
holds-listed (e ∷ es) name = by (name_eq name e.0) (holds-listed es name)
  where
    by : (b : Bool) → is_some (lookup (name_eq name) es) ≡ is_listed (keys_of es) name → is_some (cond b (Some e.1) (lookup (name_eq name) es)) ≡ (b || is_listed (keys_of es) name)
    by true later = refl
    by false later = later

-- What it finds by a name's key is the name in lower case.
pub lower-found : (es : List (DomainName × DomainName)) (name : DomainName) → AreLower es
    → lookup (name_eq (lowercase_name name)) es ≡ cond (is_listed (keys_of es) name) (Some (lowercase_name name)) None
lower-found [] name lower = refl
lower-found (e ∷ es) name lower =
    ap (λ (b : Bool). cond b (Some e.1) (lookup (name_eq (lowercase_name name)) es)) (eq-lower-first name e.0)
    ∙ by (name_eq name e.0) refl (lower-found es name (λ k d few. lower (suc k) d (omega (arith, few))))
  where
    by : (b : Bool) → name_eq name e.0 ≡ b → lookup (name_eq (lowercase_name name)) es ≡ cond (is_listed (keys_of es) name) (Some (lowercase_name name)) None
        → cond b (Some e.1) (lookup (name_eq (lowercase_name name)) es) ≡ cond (b || is_listed (keys_of es) name) (Some (lowercase_name name)) None
    by true same later = ap Some (lower 0 e (omega arith) ∙ sym (one-lower name e.0 same))
    by false other later = later

none-of : {X : Type 0} (found : Option X) → is_some found ≡ false → found ≡ None
none-of None none = refl
none-of (Some x) none = absurd (cc)

put-anew : {X : Type 0} (old : Option X) (P : Type 0) (Q : X → Type 0) → old ≡ None → MatchOption old P Q → P
put-anew None P Q none puts = puts
put-anew (Some x) P Q none puts = absurd (cc)

-- An entry whose key isn't listed is a new one.
is-new : (es : List (DomainName × DomainName)) (key : DomainName) (was : Option DomainName) → was ≡ lookup (name_eq key) es → is_listed (keys_of es) key ≡ false → was ≡ None
is-new es key was found gone = none-of was (ap is_some found ∙ holds-listed es key ∙ gone)

pub entry-put : (es new : List (DomainName × DomainName)) (key value : DomainName) (was : Option DomainName) (Q : DomainName → Type 0) → was ≡ lookup (name_eq key) es → is_listed (keys_of es) key ≡ false
    → MatchOption was (IsPermutation ((key, value) ∷ es) new) Q → IsPermutation ((key, value) ∷ es) new
entry-put es new key value was Q found gone puts = put-anew was (IsPermutation ((key, value) ∷ es) new) Q (is-new es key was found gone) puts

-- Whether one of the keys passes a test.
pub any-key : (p : DomainName → Bool) (es : List (DomainName × DomainName)) → list_any p (keys_of es) ≡ list_any (λ e. p e.0) es
any-key p [] = refl
any-key p (e ∷ es) = ap (λ (b : Bool). p e.0 || b) (any-key p es)

-- ---- one name more
-- Entries that change places take their keys with them.
keys-swap : (es : List (DomainName × DomainName)) (i j : ℕ) → keys_of (swap es i j) ≡ swap (keys_of es) i j
keys-swap [] i j = refl
keys-swap (d ∷ ds) i j =
    let es = d ∷ ds in
    let key : DomainName × DomainName → DomainName = λ e. e.0 in
    map-set key (set es i (get_or es j d)) j (get_or es i d)
    ∙ ap (λ (ks : List DomainName). set ks j (key (get_or es i d))) (map-set key es i (get_or es j d))
    ∙ ap (λ (k : DomainName). set (set (keys_of es) i k) j (key (get_or es i d))) (sym (get_or-map key es j d))
    ∙ ap (λ (k : DomainName). set (set (keys_of es) i (get_or (keys_of es) j (key d))) j k) (sym (get_or-map key es i d))

keys-moved : (es : List (DomainName × DomainName)) (moves : List (ℕ × ℕ)) → keys_of (apply_swaps es moves) ≡ apply_swaps (keys_of es) moves
keys-moved es [] = refl
keys-moved es (p ∷ moves) =
    keys-swap (apply_swaps es moves) p.0 p.1 ∙ ap (λ (ks : List DomainName). swap ks p.0 p.1) (keys-moved es moves)

pub keys-permuted : (es fs : List (DomainName × DomainName)) → IsPermutation es fs → IsPermutation (keys_of es) (keys_of fs)
keys-permuted es fs p = record {
  moves = p.moves;
  below = subst (λ (n : ℕ). SwapsInRange n p.moves) (sym (length-map es (λ e. e.0))) p.below;
  is = ap keys_of p.is ∙ keys-moved es p.moves;
}
