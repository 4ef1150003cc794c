-- Where no fields of a value stand.
use Rattle.std.proofs.Common.{ℕ, List, ◌⊎◌, inl, inr, Result, IfErr}
use Rattle.std.proofs.lemmas.Result.{IfErr-weaker}
use Rattle.dnw_encoder.specs.dnw_codes.declared.error.DecodeError.{DecodeError}
use Rattle.dnw_encoder.specs.dnw_decoder.Reading.{IsWantOfMemory}
use Rattle.drd_fields.specs.Fields.{Field, FieldsAt}

-- Nothing holds of a value but that its fields stand.
pub none_there : {V : Type 0} (fields : V → List Field) (message : List ℕ) (place : ℕ) (r : Result V DecodeError) → IfErr r (λ e. IsWantOfMemory e ⊎ ((value : V) (end : ℕ) → FieldsAt message place (fields value) end → Unit {0} → ⊥)) → IfErr r (λ e. IsWantOfMemory e ⊎ ((value : V) (end : ℕ) → FieldsAt message place (fields value) end → ⊥))
none_there fields message place r none =
    IfErr-weaker r _ _ (λ e why. elim why [
      | inl memory ↦ inl memory
      | inr none ↦ inr (λ value end there. none value end there tt)
    ]) none

-- Or something does.
pub none_valid : {V : Type 0} (fields : V → List Field) (Valid : V → Type 0) (message : List ℕ) (place : ℕ) (r : Result V DecodeError) → IfErr r (λ e. IsWantOfMemory e ⊎ ((value : V) (end : ℕ) → FieldsAt message place (fields value) end → Valid value → ⊥)) → IfErr r (λ e. IsWantOfMemory e ⊎ ((value : V) (end : ℕ) → FieldsAt message place (fields value) end × Valid value → ⊥))
none_valid fields Valid message place r none =
    IfErr-weaker r _ _ (λ e why. elim why [
      | inl memory ↦ inl memory
      | inr none ↦ inr (λ value end there. none value end there.0 there.1)
    ]) none
