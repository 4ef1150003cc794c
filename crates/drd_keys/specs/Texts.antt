-- The words of record data of keys, certificates and fingerprints: decimal numbers, and octets in
-- base64 or in hex, in one word or several, which are joined.
use Rattle.std.specs.Prelude.{ℕ, ◌≡◌, List, codes}
use Rattle.drd_words.specs.Data.{IsBase64Text, IsBase64Words, IsHexText, IsHexWords}
use Rattle.drd_words.specs.Refusals.{RefusesJoined, RefusesNumber, RefusesOneThen}
use Rattle.drd_words.specs.Word.{IsNumberWord}
use Rattle.drd_words.specs.Words.{OneThen}
use Rattle.drd_words.specs.dnw_codes.declared.error.ParseError.{ParseError}
use Rattle.drd_keys.specs.Cert.{cert_type_of, cert_algorithm_of}
use Rattle.drd_keys.specs.Sshfp.{sshfp_algorithm_of, fingerprint_type_of}
use Rattle.drd_keys.specs.Tlsa.{cert_usage_of, selector_of, matching_of}
use Rattle.drd_keys.specs.declared.cert.CERT.{CERT}
use Rattle.drd_keys.specs.declared.openpgpkey.OPENPGPKEY.{OPENPGPKEY}
use Rattle.drd_keys.specs.declared.smimea.SMIMEA.{SMIMEA}
use Rattle.drd_keys.specs.declared.sshfp.SSHFP.{SSHFP}
use Rattle.drd_keys.specs.declared.tlsa.TLSA.{TLSA}

-- A word writes a number of so many bits, and this is what the number stands for.
abbrev pub IsCodeWord : {X : Type 0} → ℕ → (ℕ → X) → X → List ℕ → Type 0
IsCodeWord bits code_of code word =
    (number : ℕ) × IsNumberWord bits number word × (code ≡ code_of number)

-- The first word is missing, or no number of so many bits, or the rest is refused. Every number has
-- a code.
abbrev pub RefusesNumberThen : ℕ → (List (List ℕ) → ParseError → Type 0) → List (List ℕ)
    → ParseError → Type 0
RefusesNumberThen bits RefusesRest =
    RefusesOneThen (IsNumberWord bits) (RefusesNumber bits) RefusesRest

-- No word is left, or those that are left make up no base64 (RFC 4648 4).
abbrev pub RefusesBase64Words : List (List ℕ) → ParseError → Type 0
RefusesBase64Words = RefusesJoined (codes "base64") IsBase64Text

-- No word is left, or those that are left make up no hex (RFC 4648 8).
abbrev pub RefusesHexWords : List (List ℕ) → ParseError → Type 0
RefusesHexWords = RefusesJoined (codes "hex") IsHexText

-- RFC 4398 2.2: the certificate's kind, the key tag, the key's algorithm, and the certificate in
-- base64.
abbrev pub IsCertText : List (List ℕ) → CERT → Type 0
IsCertText words cert =
    OneThen (IsCodeWord 16 cert_type_of cert.cert_type)
    (OneThen (IsNumberWord 16 cert.key_tag)
    (OneThen (IsCodeWord 8 cert_algorithm_of cert.algorithm)
    (IsBase64Words cert.cert_data.items))) words

-- Words that write no such certificate, and the error (RFC 4398 2.2).
abbrev pub RefusesCertText : List (List ℕ) → ParseError → Type 0
RefusesCertText =
    RefusesNumberThen 16 (RefusesNumberThen 16 (RefusesNumberThen 8 RefusesBase64Words))

-- RFC 7929 2.3: the key in base64.
abbrev pub IsOpenpgpkeyText : List (List ℕ) → OPENPGPKEY → Type 0
IsOpenpgpkeyText words key = IsBase64Words key.public_key.items words

-- Words that write no such key, and the error (RFC 7929 2.3).
abbrev pub RefusesOpenpgpkeyText : List (List ℕ) → ParseError → Type 0
RefusesOpenpgpkeyText = RefusesBase64Words

-- RFC 4255 3.2: the key's algorithm, the fingerprint's hash, and the fingerprint in hex.
abbrev pub IsSshfpText : List (List ℕ) → SSHFP → Type 0
IsSshfpText words sshfp =
    OneThen (IsCodeWord 8 sshfp_algorithm_of sshfp.algorithm)
    (OneThen (IsCodeWord 8 fingerprint_type_of sshfp.fingerprint_type)
    (IsHexWords sshfp.fingerprint.items)) words

-- Words that write no such fingerprint, and the error (RFC 4255 3.2).
abbrev pub RefusesSshfpText : List (List ℕ) → ParseError → Type 0
RefusesSshfpText = RefusesNumberThen 8 (RefusesNumberThen 8 RefusesHexWords)

-- RFC 6698 2.2: the certificate's use, the part that is meant, its form, and the octets in hex.
abbrev pub IsTlsaText : List (List ℕ) → TLSA → Type 0
IsTlsaText words tlsa =
    OneThen (IsCodeWord 8 cert_usage_of tlsa.cert_usage)
    (OneThen (IsCodeWord 8 selector_of tlsa.selector)
    (OneThen (IsCodeWord 8 matching_of tlsa.matching) (IsHexWords tlsa.cert_data.items))) words

-- Words that write no such data, and the error (RFC 6698 2.2).
abbrev pub RefusesTlsaText : List (List ℕ) → ParseError → Type 0
RefusesTlsaText = RefusesNumberThen 8 (RefusesNumberThen 8 (RefusesNumberThen 8 RefusesHexWords))

-- RFC 8162 2: those of TLSA.
abbrev pub IsSmimeaText : List (List ℕ) → SMIMEA → Type 0
IsSmimeaText words smimea = IsTlsaText words smimea.0

-- The same words, and the same errors (RFC 8162 2).
abbrev pub RefusesSmimeaText : List (List ℕ) → ParseError → Type 0
RefusesSmimeaText = RefusesTlsaText
