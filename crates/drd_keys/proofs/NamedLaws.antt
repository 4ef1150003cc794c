-- Every number has a code of its own: where data of any codes stand, data of those that the numbers stand for do.
use Rattle.std.proofs.Common.{◌≡◌, ℕ, ◌==◌, Bool, true, false, List, [], ◌∷◌, Some, refl, sym, ap, subst}
use Rattle.std.specs.Prelude.{◌&&◌, nat_le, cond, if◌then◌else◌, find, unwrap_or}
use Rattle.drd_fields.proofs.EqualityLaws.{from_test}
use Rattle.drd_fields.specs.Fields.{octet, short, rest, FieldsAt}
use Rattle.drd_keys.specs.Cert.{cert_type_number, cert_type_of, named_cert_types, cert_algorithm_number, cert_algorithm_of, named_cert_algorithms, IsNamedCert}
use Rattle.drd_keys.specs.Fields.{cert_fields, sshfp_fields, tlsa_fields}
use Rattle.drd_keys.specs.Sshfp.{sshfp_algorithm_number, sshfp_algorithm_of, named_sshfp_algorithms, fingerprint_type_number, fingerprint_type_of, named_fingerprint_types, IsNamedSshfp}
use Rattle.drd_keys.specs.Tlsa.{cert_usage_number, cert_usage_of, named_cert_usages, selector_number, selector_of, named_selectors, matching_number, matching_of, named_matchings, IsNamedTlsa}
use Rattle.drd_keys.specs.declared.cert.Algorithm.TheVariants as key_algorithm
use Rattle.drd_keys.specs.declared.cert.CERT.{CERT}
use Rattle.drd_keys.specs.declared.cert.CertType.TheVariants as cert_type
use Rattle.drd_keys.specs.declared.sshfp.Algorithm.TheVariants as host_algorithm
use Rattle.drd_keys.specs.declared.sshfp.FingerprintType.TheVariants as fingerprint_type
use Rattle.drd_keys.specs.declared.sshfp.SSHFP.{SSHFP}
use Rattle.drd_keys.specs.declared.tlsa.CertUsage.TheVariants as usage
use Rattle.drd_keys.specs.declared.tlsa.Matching.TheVariants as matching
use Rattle.drd_keys.specs.declared.tlsa.Selector.TheVariants as selector
use Rattle.drd_keys.specs.declared.tlsa.TLSA.{TLSA}

-- A code that is found by a number has it, and so has the one that stands for the number where none is found.
own_number : {X : Type 0} (number_of : X → ℕ) (number : ℕ) (named : List X) (other : X) → number_of other ≡ number → number_of (unwrap_or (find (λ code. number_of code == number) named) other) ≡ number
own_number number_of number [] other own = own
own_number {X = X} number_of number (code ∷ codes) other own = by (number_of code == number) refl (own_number number_of number codes other own)
  where
    by : (same : Bool) → (number_of code == number) ≡ same → number_of (unwrap_or (find (λ c. number_of c == number) codes) other) ≡ number → number_of (unwrap_or (cond same (Some code) (find (λ c. number_of c == number) codes)) other) ≡ number
    by true is later = from_test (number_of code) number is
    by false is later = later

unnamed : (experimental : Bool) (number : ℕ) → cert_type_number (if experimental then cert_type.Experimental number else cert_type.Unassigned number) ≡ number
unnamed true number = refl
unnamed false number = refl

pub own_cert_type : (number : ℕ) → cert_type_number (cert_type_of number) ≡ number
own_cert_type number = own_number cert_type_number number named_cert_types _ (unnamed (nat_le 65280 number && nat_le number 65534) number)

pub own_cert_algorithm : (number : ℕ) → cert_algorithm_number (cert_algorithm_of number) ≡ number
own_cert_algorithm number = own_number cert_algorithm_number number named_cert_algorithms (key_algorithm.Unassigned number) refl

pub own_sshfp_algorithm : (number : ℕ) → sshfp_algorithm_number (sshfp_algorithm_of number) ≡ number
own_sshfp_algorithm number = own_number sshfp_algorithm_number number named_sshfp_algorithms (host_algorithm.Unassigned number) refl

pub own_fingerprint_type : (number : ℕ) → fingerprint_type_number (fingerprint_type_of number) ≡ number
own_fingerprint_type number = own_number fingerprint_type_number number named_fingerprint_types (fingerprint_type.Unassigned number) refl

pub own_cert_usage : (number : ℕ) → cert_usage_number (cert_usage_of number) ≡ number
own_cert_usage number = own_number cert_usage_number number named_cert_usages (usage.Unassigned number) refl

pub own_selector : (number : ℕ) → selector_number (selector_of number) ≡ number
own_selector number = own_number selector_number number named_selectors (selector.Unassigned number) refl

pub own_matching : (number : ℕ) → matching_number (matching_of number) ≡ number
own_matching number = own_number matching_number number named_matchings (matching.Unassigned number) refl

-- The data with the codes that the numbers stand for.
abbrev pub named_cert : CERT → CERT
named_cert cert = record { cert_type = cert_type_of (cert_type_number cert.cert_type); key_tag = cert.key_tag; algorithm = cert_algorithm_of (cert_algorithm_number cert.algorithm); cert_data = cert.cert_data }

abbrev pub named_sshfp : SSHFP → SSHFP
named_sshfp sshfp = record { algorithm = sshfp_algorithm_of (sshfp_algorithm_number sshfp.algorithm); fingerprint_type = fingerprint_type_of (fingerprint_type_number sshfp.fingerprint_type); fingerprint = sshfp.fingerprint }

abbrev pub named_tlsa : TLSA → TLSA
named_tlsa tlsa = record { cert_usage = cert_usage_of (cert_usage_number tlsa.cert_usage); selector = selector_of (selector_number tlsa.selector); matching = matching_of (matching_number tlsa.matching); cert_data = tlsa.cert_data }

pub cert_named : (message : List ℕ) (place : ℕ) (cert : CERT) (end : ℕ) → FieldsAt message place (cert_fields cert) end → FieldsAt message place (cert_fields (named_cert cert)) end × IsNamedCert (named_cert cert)
cert_named message place cert end there =
    let kind = own_cert_type (cert_type_number cert.cert_type) in
    let key = own_cert_algorithm (cert_algorithm_number cert.algorithm) in (
      subst (λ (n : ℕ). FieldsAt message place (short n ∷ short cert.key_tag ∷ octet (cert_algorithm_number (named_cert cert).algorithm) ∷ rest cert.cert_data.items ∷ []) end) (sym kind)
          (subst (λ (n : ℕ). FieldsAt message place (short (cert_type_number cert.cert_type) ∷ short cert.key_tag ∷ octet n ∷ rest cert.cert_data.items ∷ []) end) (sym key) there),
      record { kind = ap cert_type_of (sym kind); algorithm = ap cert_algorithm_of (sym key) },
    )

pub sshfp_named : (message : List ℕ) (place : ℕ) (sshfp : SSHFP) (end : ℕ) → FieldsAt message place (sshfp_fields sshfp) end → FieldsAt message place (sshfp_fields (named_sshfp sshfp)) end × IsNamedSshfp (named_sshfp sshfp)
sshfp_named message place sshfp end there =
    let key = own_sshfp_algorithm (sshfp_algorithm_number sshfp.algorithm) in
    let hash = own_fingerprint_type (fingerprint_type_number sshfp.fingerprint_type) in (
      subst (λ (n : ℕ). FieldsAt message place (octet n ∷ octet (fingerprint_type_number (named_sshfp sshfp).fingerprint_type) ∷ rest sshfp.fingerprint.items ∷ []) end) (sym key)
          (subst (λ (n : ℕ). FieldsAt message place (octet (sshfp_algorithm_number sshfp.algorithm) ∷ octet n ∷ rest sshfp.fingerprint.items ∷ []) end) (sym hash) there),
      record { algorithm = ap sshfp_algorithm_of (sym key); hash = ap fingerprint_type_of (sym hash) },
    )

pub tlsa_named : (message : List ℕ) (place : ℕ) (tlsa : TLSA) (end : ℕ) → FieldsAt message place (tlsa_fields tlsa) end → FieldsAt message place (tlsa_fields (named_tlsa tlsa)) end × IsNamedTlsa (named_tlsa tlsa)
tlsa_named message place tlsa end there =
    let use_of = own_cert_usage (cert_usage_number tlsa.cert_usage) in
    let part = own_selector (selector_number tlsa.selector) in
    let form = own_matching (matching_number tlsa.matching) in (
      subst (λ (n : ℕ). FieldsAt message place (octet n ∷ octet (selector_number (named_tlsa tlsa).selector) ∷ octet (matching_number (named_tlsa tlsa).matching) ∷ rest tlsa.cert_data.items ∷ []) end) (sym use_of)
          (subst (λ (n : ℕ). FieldsAt message place (octet (cert_usage_number tlsa.cert_usage) ∷ octet n ∷ octet (matching_number (named_tlsa tlsa).matching) ∷ rest tlsa.cert_data.items ∷ []) end) (sym part)
          (subst (λ (n : ℕ). FieldsAt message place (octet (cert_usage_number tlsa.cert_usage) ∷ octet (selector_number tlsa.selector) ∷ octet n ∷ rest tlsa.cert_data.items ∷ []) end) (sym form) there)),
      record { usage = ap cert_usage_of (sym use_of); part = ap selector_of (sym part); form = ap matching_of (sym form) },
    )
