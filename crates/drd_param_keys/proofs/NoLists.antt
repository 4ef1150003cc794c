-- Octets that are no list of keys or of protocols.
use Rattle.std.proofs.Common.{◌≡◌, ℕ, ◌<◌, ◌⊎◌, inl, inr, List, [], ◌∷◌, length, length-append, refl, ap, ◌∙◌, arith}
use Rattle.std.specs.List.{flat_map}
use Rattle.std.specs.Prelude.{String}
use Rattle.std.specs.declared.alloc.Global.{Global}
use Rattle.std.proofs.lemmas.List.Concat.{flat_map-cons}
use Rattle.drd_param_keys.specs.dnw_codes.declared.error.DecodeError.{DecodeError}
use Rattle.drd_param_keys.specs.dnw_codes.declared.error.DecodeError.TheVariants.{SvcParamMissingValue}
use Rattle.dnw_encoder.specs.dnw_decoder.Reading.{IsWantOfMemory}
use Rattle.drd_param_keys.specs.Entries.{IsShortOf, RefusesNext, RefusesText, key_octets, text_octets}
use Rattle.drd_param_keys.specs.EntryLaws.{key_laws, string_laws}
use Rattle.drd_param_keys.specs.declared.key.SvcParamKey.{SvcParamKey}
use Rattle.drd_param_keys.specs.Lists.{NoKeys, NoProtocols}

-- A list of no octets has no entries, and one of some octets has some.
pub none-some : {T : Type 0} (spelled : T → List ℕ) → ((x : T) → 0 < length (spelled x)) → (xs : List T) → 0 < length xs → length (flat_map spelled xs) ≡ 0 → ⊥
none-some spelled takes [] some e = omega (arith, some)
none-some spelled takes (x ∷ xs) some e =
    omega (arith, ap length (flat_map-cons spelled x xs), length-append (spelled x) (flat_map spelled xs), takes x, e)

pub some-some : {T : Type 0} (spelled : T → List ℕ) (xs : List T) (octets : List ℕ) → flat_map spelled xs ≡ octets → 0 < length octets → 0 < length xs
some-some spelled [] octets e some = absurd (omega (arith, ap length e, some))
some-some spelled (x ∷ xs) octets e some = omega arith

module _ (octets : List ℕ) where
  pub no-keys-empty : length octets ≡ 0 → NoKeys octets SvcParamMissingValue
  no-keys-empty empty = (inl (refl, empty), λ keys are e. none-some key_octets key_laws.0 keys are.0 (ap length e ∙ empty))

  pub no-protocols-empty : length octets ≡ 0 → NoProtocols octets SvcParamMissingValue
  no-protocols-empty empty = (inl (refl, empty), λ texts are e. none-some text_octets string_laws.0 texts are.0 (ap length e ∙ empty))

  pub no-keys : (e : DecodeError) → IsWantOfMemory e ⊎ (RefusesNext key_octets (IsShortOf 2) octets e × ((keys : List SvcParamKey) → flat_map key_octets keys ≡ octets → ⊥)) → IsWantOfMemory e ⊎ NoKeys octets e
  no-keys e (inl m) = inl m
  no-keys e (inr why) = inr (inr why.0, λ keys are is. why.1 keys is)

  pub no-protocols : (e : DecodeError) → IsWantOfMemory e ⊎ (RefusesNext text_octets RefusesText octets e × ((texts : List (String Global)) → flat_map text_octets texts ≡ octets → ⊥)) → IsWantOfMemory e ⊎ NoProtocols octets e
  no-protocols e (inl m) = inl m
  no-protocols e (inr why) = inr (inr why.0, λ texts are is. why.1 texts is)
