-- Octets that are no value of a key.
use Rattle.std.proofs.Common.{◌≡◌, ℕ, ◌<◌, ◌⊎◌, inl, inr, List, [], ◌∷◌, length, refl, sym, ap, ◌∙◌, arith}
use Rattle.std.specs.List.{flat_map}
use Rattle.std.specs.Prelude.{String}
use Rattle.std.specs.declared.alloc.Global.{Global}
use Rattle.drd_params.specs.dnw_codes.declared.error.DecodeError.{DecodeError}
use Rattle.drd_params.specs.dnw_codes.declared.error.DecodeError.TheVariants.{IncorrectRDataLengthRead, InsufficientBytes}
use Rattle.drd_params.specs.dnw_decoder.Reading.{IsWantOfMemory}
use Rattle.drd_params.specs.declared.a.A.{A}
use Rattle.drd_params.specs.declared.aaaa.AAAA.{AAAA}
use Rattle.drd_param_keys.specs.Entries.{IsShortOf, RefusesNext, key_octets, text_octets}
use Rattle.drd_param_keys.specs.Lists.{AreKeys, AreProtocols, NoKeys, NoProtocols}
use Rattle.drd_params.specs.Refusals.{NoValue}
use Rattle.drd_params.specs.Values.{IsValueOf, value_octets}
use Rattle.drd_params.specs.AddressEntries.{a_octets, aaaa_octets}
use Rattle.drd_param_keys.specs.declared.key.SvcParamKey.{SvcParamKey}
use Rattle.drd_param_keys.specs.declared.key.SvcParamKey.TheVariants as key
use Rattle.drd_params.specs.declared.value.SvcParamValue.{SvcParamValue}
use Rattle.drd_params.specs.declared.value.SvcParamValue.TheVariants as value

module _ (octets : List ℕ) where
  mandatory-not : ((keys : List SvcParamKey) → AreKeys keys → flat_map key_octets keys ≡ octets → ⊥) → (v : SvcParamValue) → IsValueOf key.Mandatory v → value_octets v ≡ octets → ⊥
  mandatory-not none (value.Mandatory m) is e = none m.0.items is e
  mandatory-not none v is e = absurd is

  alpn-not : ((texts : List (String Global)) → AreProtocols texts → flat_map text_octets texts ≡ octets → ⊥) → (v : SvcParamValue) → IsValueOf key.Alpn v → value_octets v ≡ octets → ⊥
  alpn-not none (value.Alpn m) is e = none m.0.items is e
  alpn-not none v is e = absurd is

  nothing-not : 0 < length octets → (v : SvcParamValue) → IsValueOf key.NoDefaultAlpn v → value_octets v ≡ octets → ⊥
  nothing-not some value.NoDefaultAlpn is e = omega (arith, ap length e, some)
  nothing-not some v is e = absurd is

  port-not : (length octets ≡ 2 → ⊥) → (v : SvcParamValue) → IsValueOf key.Port v → value_octets v ≡ octets → ⊥
  port-not none (value.Port p) is e = none (sym (ap length e))
  port-not none v is e = absurd is

  ipv4-not : ((xs : List A) → flat_map a_octets xs ≡ octets → ⊥) → (v : SvcParamValue) → IsValueOf key.Ipv4Hint v → value_octets v ≡ octets → ⊥
  ipv4-not none (value.Ipv4Hint h) is e = none h.0.items e
  ipv4-not none v is e = absurd is

  ipv6-not : ((xs : List AAAA) → flat_map aaaa_octets xs ≡ octets → ⊥) → (v : SvcParamValue) → IsValueOf key.Ipv6Hint v → value_octets v ≡ octets → ⊥
  ipv6-not none (value.Ipv6Hint h) is e = none h.0.items e
  ipv6-not none v is e = absurd is

  pub no-mandatory : (e : DecodeError) → IsWantOfMemory e ⊎ NoKeys octets e → IsWantOfMemory e ⊎ NoValue key.Mandatory octets e
  no-mandatory e (inl m) = inl m
  no-mandatory e (inr why) = inr (why.0, mandatory-not why.1)

  pub no-alpn : (e : DecodeError) → IsWantOfMemory e ⊎ NoProtocols octets e → IsWantOfMemory e ⊎ NoValue key.Alpn octets e
  no-alpn e (inl m) = inl m
  no-alpn e (inr why) = inr (why.0, alpn-not why.1)

  pub no-nothing : 0 < length octets → NoValue key.NoDefaultAlpn octets (IncorrectRDataLengthRead 0 (length octets))
  no-nothing some = ((refl, some), nothing-not some)

  pub no-port-short : length octets < 2 → NoValue key.Port octets InsufficientBytes
  no-port-short short = (inl (refl, short), port-not (λ two. omega (arith, short, two)))

  pub no-port-long : 2 < length octets → NoValue key.Port octets (IncorrectRDataLengthRead 2 (length octets))
  no-port-long long = (inr (refl, long), port-not (λ two. omega (arith, long, two)))

  pub no-ipv4 : (e : DecodeError) → IsWantOfMemory e ⊎ (RefusesNext a_octets (IsShortOf 4) octets e × ((xs : List A) → flat_map a_octets xs ≡ octets → ⊥)) → IsWantOfMemory e ⊎ NoValue key.Ipv4Hint octets e
  no-ipv4 e (inl m) = inl m
  no-ipv4 e (inr why) = inr (why.0, ipv4-not why.1)

  pub no-ipv6 : (e : DecodeError) → IsWantOfMemory e ⊎ (RefusesNext aaaa_octets (IsShortOf 16) octets e × ((xs : List AAAA) → flat_map aaaa_octets xs ≡ octets → ⊥)) → IsWantOfMemory e ⊎ NoValue key.Ipv6Hint octets e
  no-ipv6 e (inl m) = inl m
  no-ipv6 e (inr why) = inr (why.0, ipv6-not why.1)
