-- Octets that begin with no text.
use Rattle.std.proofs.Common.{◌≡◌, ℕ, ◌+◌, ◌<◌, List, ◌∷◌, ◌++◌, inr, length, take, drop, get_or, refl, sym, ap, subst, ◌∙◌, arith}
use Rattle.std.proofs.lemmas.List.{take-append-drop}
use Rattle.std.specs.Prelude.{String}
use Rattle.std.specs.declared.alloc.Global.{Global}
use Rattle.std.specs.Str.{IsUtf8}
use Rattle.std.specs.String.{string_bytes}
use Rattle.std.proofs.lemmas.Str.{IsUtf8-string_bytes}
use Rattle.drd_words.specs.dnw_codes.declared.error.DecodeError.TheVariants.{InsufficientBytes, Utf8}
use Rattle.drd_param_keys.specs.EntryLaws.{strings_same}
use Rattle.drd_param_keys.specs.Entries.{IsShortOf, RefusesText, text_octets}

pub text-cut : (octets : List ℕ) (n : ℕ) (rest : List ℕ) → octets ≡ n ∷ rest → length rest < n → IsShortOf (1 + get_or octets 0 0) octets InsufficientBytes
text-cut octets n rest is short = (refl, omega (arith, short, ap length is, ap (λ (o : List ℕ). get_or o 0 0) is))

-- A string that is no UTF-8 is whole, and no text begins where it does.
pub no-text : (octets : List ℕ) (n k : ℕ) (rest text behind : List ℕ) → octets ≡ n ∷ rest → k ≡ n → text ≡ take k rest → behind ≡ drop k rest → length text ≡ k → (IsUtf8 text → ⊥) → RefusesText octets Utf8 × ((entry : String Global) (after : List ℕ) → octets ≡ text_octets entry ++ after → ⊥)
no-text octets n k rest text behind first mid front back long none =
    let split : rest ≡ text ++ behind = sym (take-append-drop k rest) ∙ ap (λ (o : List ℕ). o ++ drop k rest) (sym front) ∙ ap (λ (o : List ℕ). text ++ o) (sym back) in
    let here : length text ∷ (text ++ behind) ≡ octets = ap (λ (c : ℕ). c ∷ (text ++ behind)) (long ∙ mid) ∙ ap (λ (o : List ℕ). n ∷ o) (sym split) ∙ sym first in (
      inr (record { cause = refl; string = text; behind = behind; there = sym here; other = none }),
      λ entry after is.
          let same = strings_same text (string_bytes entry) behind after (here ∙ is) in
          none (subst (λ (o : List ℕ). IsUtf8 o) (sym same.0) (IsUtf8-string_bytes entry)),
    )
