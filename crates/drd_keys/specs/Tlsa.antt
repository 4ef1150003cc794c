-- The numbers of TLSA data (RFC 6698 2.1, RFC 7218 2).
use Rattle.std.specs.Prelude.{ℕ, ◌≡◌, ◌==◌, Bool, List, [], ◌∷◌, unwrap_or, find}
use Rattle.std.specs.Ordering.{on}
use Rattle.drd_keys.specs.declared.tlsa.CertUsage.{CertUsage}
use Rattle.drd_keys.specs.declared.tlsa.CertUsage.TheVariants as usage
use Rattle.drd_keys.specs.declared.tlsa.Selector.{Selector}
use Rattle.drd_keys.specs.declared.tlsa.Selector.TheVariants as selector
use Rattle.drd_keys.specs.declared.tlsa.Matching.{Matching}
use Rattle.drd_keys.specs.declared.tlsa.Matching.TheVariants as matching
use Rattle.drd_keys.specs.declared.tlsa.TLSA.{TLSA}

-- The number of the use of a certificate.
abbrev pub cert_usage_number : CertUsage → ℕ
cert_usage_number usage.PkixTa = 0
cert_usage_number usage.PkixEe = 1
cert_usage_number usage.DaneTa = 2
cert_usage_number usage.DaneEe = 3
cert_usage_number usage.Private = 255
cert_usage_number (usage.Unassigned number) = number

-- The uses that have a name, by rising number.
abbrev pub named_cert_usages : List CertUsage
named_cert_usages =
    usage.PkixTa ∷ usage.PkixEe ∷ usage.DaneTa ∷ usage.DaneEe ∷ usage.Private ∷ []

-- The use of a certificate that a number stands for.
abbrev pub cert_usage_of : ℕ → CertUsage
cert_usage_of number =
    unwrap_or (find (λ named. cert_usage_number named == number) named_cert_usages)
    (usage.Unassigned number)

-- Two are the same where their numbers are.
abbrev pub same_cert_usage : CertUsage → CertUsage → Bool
same_cert_usage = on cert_usage_number ◌==◌

-- The number of the part of a certificate.
abbrev pub selector_number : Selector → ℕ
selector_number selector.Full = 0
selector_number selector.Spki = 1
selector_number selector.Private = 255
selector_number (selector.Unassigned number) = number

-- The parts that have a name, by rising number.
abbrev pub named_selectors : List Selector
named_selectors =
    selector.Full ∷ selector.Spki ∷ selector.Private ∷ []

-- The part of a certificate that a number stands for.
abbrev pub selector_of : ℕ → Selector
selector_of number =
    unwrap_or (find (λ named. selector_number named == number) named_selectors)
    (selector.Unassigned number)

-- Two are the same where their numbers are.
abbrev pub same_selector : Selector → Selector → Bool
same_selector = on selector_number ◌==◌

-- The number of the form of that part.
abbrev pub matching_number : Matching → ℕ
matching_number matching.Raw = 0
matching_number matching.Sha256 = 1
matching_number matching.Sha512 = 2
matching_number matching.Private = 255
matching_number (matching.Unassigned number) = number

-- The forms that have a name, by rising number.
abbrev pub named_matchings : List Matching
named_matchings =
    matching.Raw ∷ matching.Sha256 ∷ matching.Sha512 ∷ matching.Private ∷ []

-- The form of that part that a number stands for.
abbrev pub matching_of : ℕ → Matching
matching_of number =
    unwrap_or (find (λ named. matching_number named == number) named_matchings)
    (matching.Unassigned number)

-- Two are the same where their numbers are.
abbrev pub same_matching : Matching → Matching → Bool
same_matching = on matching_number ◌==◌

-- Use, part and form are those that their numbers stand for.
pub record IsNamedTlsa (tlsa : TLSA) : Type 0 where
  pub usage : tlsa.cert_usage ≡ cert_usage_of (cert_usage_number tlsa.cert_usage)
  pub part : tlsa.selector ≡ selector_of (selector_number tlsa.selector)
  pub form : tlsa.matching ≡ matching_of (matching_number tlsa.matching)
