-- Laws of keys and texts in octets: each takes octets, and octets that begin with one end it in one
-- place.
use Rattle.std.proofs.Common.{◌≡◌, ℕ, ◌<◌, List, ◌∷◌, ◌++◌, length, take, refl, sym, ap, ◌∙◌, arith}
use Rattle.std.proofs.lemmas.List.{take_at, append_cancel_left}
use Rattle.std.specs.Prelude.{String}
use Rattle.std.specs.declared.alloc.Global.{Global}
use Rattle.std.specs.String.{string_bytes}
use Rattle.dnw_encoder.specs.dnw_decoder.Octets.{octets_16}
use Rattle.drd_param_keys.specs.Entries.{text_octets}
use Rattle.drd_param_keys.specs.Keys.{key_number}
use Rattle.drd_param_keys.specs.Texts.{IsKeyText, IsProtocolText}
use Rattle.drd_param_keys.specs.declared.key.SvcParamKey.{SvcParamKey}

-- Fronts of one length are the same, and so is what stands behind them.
pub fronts_same : (a b xs ys : List ℕ) → length a ≡ length b → a ++ xs ≡ b ++ ys
    → (a ≡ b) × (xs ≡ ys)
fronts_same a b xs ys long whole =
    let first : a ≡ b =
    sym (take_at a xs (length b) long) ∙ ap (λ (o : List ℕ). take (length b) o) whole
    ∙ take_at b ys (length b) refl in
    (first, append_cancel_left b xs ys (ap (λ (o : List ℕ). o ++ xs) (sym first) ∙ whole))

pub strings_same : (s t xs ys : List ℕ) → length s ∷ (s ++ xs) ≡ length t ∷ (t ++ ys)
    → (s ≡ t) × (xs ≡ ys)
strings_same s t xs ys whole =
    let long : length s ≡ length t = cc whole in
    let tails : s ++ xs ≡ t ++ ys = cc whole in
    fronts_same s t xs ys long tails

pub key_laws : ((key : SvcParamKey) → 0 < length (octets_16 (key_number key)))
    × ((a b : SvcParamKey) (xs ys : List ℕ)
    → octets_16 (key_number a) ++ xs ≡ octets_16 (key_number b) ++ ys → xs ≡ ys)
key_laws = (
  λ key. omega arith,
  λ a b xs ys whole. (fronts_same (octets_16 (key_number a)) (octets_16 (key_number b)) xs ys
      refl whole).1,
)

pub string_laws : ((text : String Global) → 0 < length (text_octets text))
    × ((a b : String Global) (xs ys : List ℕ)
    → text_octets a ++ xs ≡ text_octets b ++ ys → xs ≡ ys)
string_laws = (
  λ text. omega arith,
  λ a b xs ys whole. (strings_same (string_bytes a) (string_bytes b) xs ys whole).1,
)

pub key_told : (a b : SvcParamKey) (text : List ℕ) → IsKeyText a text → IsKeyText b text
    → length (octets_16 (key_number a)) ≡ length (octets_16 (key_number b))
key_told a b text is other = refl

pub string_told : (a b : String Global) (text : List ℕ) → IsProtocolText a text
    → IsProtocolText b text
    → length (text_octets a) ≡ length (text_octets b)
string_told a b text is other = omega (arith, ap length is.0, ap length other.0)
