-- Parameters of records are written.
use Rattle.std.proofs.Common.{◌+◌, ℕ, ◌⊎◌, inl, inr, List, [], ◌∷◌, All, arith}
use Rattle.std.specs.Prelude.{String, Result, Ok, Err, IfErr}
use Rattle.std.specs.String.{string_bytes}
use Rattle.std.specs.declared.alloc.Global.{Global}
use Rattle.std.proofs.lemmas.List.Elements.{All-nil, All-cons, All-contains}
use Rattle.drd_params.specs.dnw_codes.declared.error.ProtoError.{ProtoError}
use Rattle.drd_params.specs.drd_fields.Writing.{IsTooLong}
use Rattle.drd_param_keys.specs.Keys.{key_number}
use Rattle.drd_params.specs.Params.{Param, IsParam, Rise, AreParams}
use Rattle.drd_param_keys.specs.Entries.{IsShortText}
use Rattle.drd_params.specs.Values.{IsValueOf}
use Rattle.drd_params.specs.Writing.{HasLongText, IsOversized, RefusesWriting}
use Rattle.drd_param_keys.specs.declared.key.SvcParamKey.{SvcParamKey}
use Rattle.drd_param_keys.specs.declared.key.SvcParamKey.TheVariants as key
use Rattle.drd_params.specs.declared.value.SvcParamValue.{SvcParamValue}
use Rattle.drd_params.specs.declared.value.SvcParamValue.TheVariants as value

all-params : (ps : List Param) (least above : ℕ) → Rise least ps above → All IsParam ps
all-params [] least above rise = All-nil IsParam
all-params (p ∷ ps) least above rise = All-cons IsParam p ps rise.0 (all-params ps (key_number p.0 + 1) above rise.2)

no-long : (text : String Global) (e : ProtoError) → IsShortText text → IsTooLong (string_bytes text) e → ⊥
no-long text e short long = omega (arith, short, long.1)

no-long-text : (k : SvcParamKey) (v : SvcParamValue) (e : ProtoError) → IsValueOf k v → HasLongText v e → ⊥
no-long-text key.Alpn (value.Alpn alpn) e is long = no-long long.0 e (All-contains IsShortText alpn.0.items long.0 is.1 long.1) long.2
no-long-text key.Mandatory (value.Alpn alpn) e is long = absurd is
no-long-text key.NoDefaultAlpn (value.Alpn alpn) e is long = absurd is
no-long-text key.Port (value.Alpn alpn) e is long = absurd is
no-long-text key.Ipv4Hint (value.Alpn alpn) e is long = absurd is
no-long-text key.EchConfigList (value.Alpn alpn) e is long = absurd is
no-long-text key.Ipv6Hint (value.Alpn alpn) e is long = absurd is
no-long-text (key.Key n) (value.Alpn alpn) e is long = absurd is
no-long-text key.Key65535 (value.Alpn alpn) e is long = absurd is
no-long-text (key.Unknown n) (value.Alpn alpn) e is long = absurd is
no-long-text k v e is long = absurd long

-- No value of a record's parameters refuses to be written.
pub params-written : (ps : List Param) (e : ProtoError) → AreParams ps → RefusesWriting ps e → ⊥
params-written ps e are (p, in_list, why) = by_cause why
  where
    is : IsParam p
    is = All-contains IsParam ps p (all-params ps 0 are.0 are.1) in_list

    by_cause : HasLongText p.1 e ⊎ IsOversized p.1 e → ⊥
    by_cause (inl long) = no-long-text p.0 p.1 e is.value long
    by_cause (inr over) = omega (arith, is.few, over.1)

-- Where they are refused, it is for another cause.
pub only-others : {V : Type 0} (M : ProtoError → Type 0) (r : Result V ProtoError) (ps : List Param) → IfErr r (λ e. M e ⊎ RefusesWriting ps e) → AreParams ps → IfErr r M
only-others M (Ok v) ps why are = tt
only-others M (Err e) ps (inl m) are = m
only-others M (Err e) ps (inr why) are = absurd (params-written ps e are why)
