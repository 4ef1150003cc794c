-- Parameters that are written one behind the other.
use Rattle.std.proofs.Common.{◌≡◌, ◌≤◌, ◌+◌, ℕ, ◌⊎◌, inl, inr, List, ◌++◌, length, subst, arith}
use Rattle.std.specs.List.{Contains, flat_map}
use Rattle.std.specs.Prelude.{String, Result, Ok, Err, IfErr, OnOk}
use Rattle.std.specs.String.{string_bytes}
use Rattle.std.specs.declared.alloc.Global.{Global}
use Rattle.drd_params.specs.dnw_codes.declared.error.ProtoError.{ProtoError}
use Rattle.drd_params.specs.dnw_decoder.Octets.{octets_16}
use Rattle.drd_params.specs.dnw_encoder.Effects.{IsRefusal, WritesOctets}
use Rattle.drd_params.specs.dnw_encoder.State.{State}
use Rattle.drd_params.specs.drd_fields.Writing.{IsTooLong}
use Rattle.drd_fields.proofs.WritingLaws.{puts_then}
use Rattle.drd_param_keys.proofs.Emitting.{refused-behind}
use Rattle.drd_param_keys.specs.Entries.{text_octets}
use Rattle.drd_param_keys.specs.declared.lists.Alpn.{Alpn}
use Rattle.drd_params.specs.Params.{Param, param_octets}
use Rattle.drd_params.specs.Values.{value_octets}
use Rattle.drd_params.specs.Writing.{HasLongText, IsOversized, RefusesEmitParams, RefusesValueWriting}
use Rattle.drd_params.specs.declared.value.SvcParamValue.TheVariants as value

-- Why no encoder writes a parameter.
abbrev pub IsUnwritable : Param → ProtoError → Type 0
IsUnwritable param e = HasLongText param.1 e ⊎ IsOversized param.1 e

pub alpn-refused : {V : Type 0} (r : Result V ProtoError) (alpn : Alpn) (texts : List (String Global)) (old : State) → texts ≡ alpn.0.items → IfErr r (λ e. IsRefusal old (length (flat_map text_octets texts)) e ⊎ ((text : String Global) × Contains texts text × IsTooLong (string_bytes text) e)) → IfErr r (RefusesValueWriting (value.Alpn alpn) old)
alpn-refused r alpn texts old same why =
    subst (λ (ts : List (String Global)). IfErr r (λ e. IsRefusal old (length (flat_map text_octets ts)) e ⊎ ((text : String Global) × Contains ts text × IsTooLong (string_bytes text) e))) same why

-- Octets were put behind a number.
pub number-put : {V E : Type 0} (r : Result V E) (n m : ℕ) (octets : List ℕ) (old mid new : State) → n ≡ m → old.offset ≤ length old.octets → WritesOctets (octets_16 n) old mid → OnOk r (WritesOctets octets mid new) → OnOk r (WritesOctets (octets_16 m ++ octets) old new)
number-put (Ok v) n m octets old mid new same le first put = puts_then (octets_16 m) octets old mid new le (subst (λ (k : ℕ). WritesOctets (octets_16 k) old mid) same first) put
number-put (Err e) n m octets old mid new same le first put = tt

-- A parameter is refused behind its key.
pub param-refused : {V : Type 0} (r : Result V ProtoError) (param : Param) (old mid : State) → mid.offset ≡ old.offset + 2 → mid.maximum ≡ old.maximum → IfErr r (RefusesEmitParams param.1 mid) → IfErr r (λ e. IsRefusal old (length (param_octets param)) e ⊎ IsUnwritable param e)
param-refused (Ok v) param old mid at same why = tt
param-refused (Err e) param old mid at same (inl refused) =
    inl (refused-behind old mid 2 (2 + length (value_octets param.1)) (length (param_octets param)) e at same (omega arith) refused)
param-refused (Err e) param old mid at same (inr why) = inr why
