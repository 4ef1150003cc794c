-- What words write has the numbers that they write: the parts that are read.
use Rattle.std.specs.Prelude.{ℕ, List, [], ◌∷◌}
use Rattle.drd_words.specs.Data.{IsBase64Words, IsHexWords}
use Rattle.drd_words.specs.Word.{IsNumberWord}
use Rattle.drd_words.specs.Words.{OneThen}
use Rattle.drd_words.specs.declared.data.Base64Data.{Base64Data}
use Rattle.drd_words.specs.declared.data.HexData.{HexData}
use Rattle.drd_keys.specs.Texts.{IsCertText, IsSshfpText, IsTlsaText}
use Rattle.drd_keys.specs.declared.cert.CERT.{CERT}
use Rattle.drd_keys.specs.declared.sshfp.SSHFP.{SSHFP}
use Rattle.drd_keys.specs.declared.tlsa.TLSA.{TLSA}

abbrev CertParts : Type 0
CertParts = ℕ × (ℕ × (ℕ × Base64Data))

abbrev AreCertParts : List (List ℕ) → CertParts → Type 0
AreCertParts words parts =
    OneThen (IsNumberWord 16 parts.0)
    (OneThen (IsNumberWord 16 parts.1.0)
    (OneThen (IsNumberWord 8 parts.1.1.0) (IsBase64Words parts.1.1.1.0.items))) words

pub cert_parts : (words : List (List ℕ)) (cert : CERT) → IsCertText words cert
    → (parts : CertParts) × AreCertParts words parts
cert_parts [] cert there = absurd there
cert_parts (kind ∷ []) cert there = absurd there.1
cert_parts (kind ∷ tag ∷ []) cert there = absurd there.1.1
cert_parts (kind ∷ tag ∷ algorithm ∷ octets) cert there = (
  (there.0.0, (cert.key_tag, (there.1.1.0.0, record { 0 = cert.cert_data }))),
  (there.0.1, (there.1.0, (there.1.1.0.1, there.1.1.1))),
)

abbrev SshfpParts : Type 0
SshfpParts = ℕ × (ℕ × HexData)

abbrev AreSshfpParts : List (List ℕ) → SshfpParts → Type 0
AreSshfpParts words parts =
    OneThen (IsNumberWord 8 parts.0)
    (OneThen (IsNumberWord 8 parts.1.0) (IsHexWords parts.1.1.0.items)) words

pub sshfp_parts : (words : List (List ℕ)) (sshfp : SSHFP) → IsSshfpText words sshfp
    → (parts : SshfpParts) × AreSshfpParts words parts
sshfp_parts [] sshfp there = absurd there
sshfp_parts (algorithm ∷ []) sshfp there = absurd there.1
sshfp_parts (algorithm ∷ hash ∷ octets) sshfp there = (
  (there.0.0, (there.1.0.0, record { 0 = sshfp.fingerprint })),
  (there.0.1, (there.1.0.1, there.1.1)),
)

abbrev TlsaParts : Type 0
TlsaParts = ℕ × (ℕ × (ℕ × HexData))

abbrev AreTlsaParts : List (List ℕ) → TlsaParts → Type 0
AreTlsaParts words parts =
    OneThen (IsNumberWord 8 parts.0)
    (OneThen (IsNumberWord 8 parts.1.0)
    (OneThen (IsNumberWord 8 parts.1.1.0) (IsHexWords parts.1.1.1.0.items))) words

pub tlsa_parts : (words : List (List ℕ)) (tlsa : TLSA) → IsTlsaText words tlsa
    → (parts : TlsaParts) × AreTlsaParts words parts
tlsa_parts [] tlsa there = absurd there
tlsa_parts (usage ∷ []) tlsa there = absurd there.1
tlsa_parts (usage ∷ selector ∷ []) tlsa there = absurd there.1.1
tlsa_parts (usage ∷ selector ∷ matching ∷ octets) tlsa there = (
  (there.0.0, (there.1.0.0, (there.1.1.0.0, record { 0 = tlsa.cert_data }))),
  (there.0.1, (there.1.0.1, (there.1.1.0.1, there.1.1.1))),
)
