-- The fields of record data of keys, certificates and fingerprints: numbers, and octets to the end.
use Rattle.std.specs.Prelude.{List, [], ◌∷◌}
use Rattle.drd_fields.specs.Fields.{Field, octet, short, rest, Kind, an_octet, a_short, the_rest}
use Rattle.drd_keys.specs.Cert.{cert_type_number, cert_algorithm_number}
use Rattle.drd_keys.specs.Sshfp.{sshfp_algorithm_number, fingerprint_type_number}
use Rattle.drd_keys.specs.Tlsa.{cert_usage_number, selector_number, matching_number}
use Rattle.drd_keys.specs.declared.cert.CERT.{CERT}
use Rattle.drd_keys.specs.declared.openpgpkey.OPENPGPKEY.{OPENPGPKEY}
use Rattle.drd_keys.specs.declared.smimea.SMIMEA.{SMIMEA}
use Rattle.drd_keys.specs.declared.sshfp.SSHFP.{SSHFP}
use Rattle.drd_keys.specs.declared.tlsa.TLSA.{TLSA}

-- RFC 4398 2: the certificate's kind, the key tag, the key's algorithm and the certificate.
abbrev pub cert_fields : CERT → List Field
cert_fields cert =
    short (cert_type_number cert.cert_type) ∷ short cert.key_tag
    ∷ octet (cert_algorithm_number cert.algorithm) ∷ rest cert.cert_data.items ∷ []

abbrev pub cert_kinds : List Kind
cert_kinds = a_short ∷ a_short ∷ an_octet ∷ the_rest ∷ []

-- RFC 7929 2.1: the key.
abbrev pub openpgpkey_fields : OPENPGPKEY → List Field
openpgpkey_fields key = rest key.public_key.items ∷ []

abbrev pub openpgpkey_kinds : List Kind
openpgpkey_kinds = the_rest ∷ []

-- RFC 4255 3.1: the key's algorithm, the fingerprint's hash and the fingerprint.
abbrev pub sshfp_fields : SSHFP → List Field
sshfp_fields sshfp =
    octet (sshfp_algorithm_number sshfp.algorithm)
    ∷ octet (fingerprint_type_number sshfp.fingerprint_type) ∷ rest sshfp.fingerprint.items ∷ []

abbrev pub sshfp_kinds : List Kind
sshfp_kinds = an_octet ∷ an_octet ∷ the_rest ∷ []

-- RFC 6698 2.1: the certificate's use, the part that is meant, its form and the octets in that
-- form.
abbrev pub tlsa_fields : TLSA → List Field
tlsa_fields tlsa =
    octet (cert_usage_number tlsa.cert_usage) ∷ octet (selector_number tlsa.selector)
    ∷ octet (matching_number tlsa.matching) ∷ rest tlsa.cert_data.items ∷ []

abbrev pub tlsa_kinds : List Kind
tlsa_kinds = an_octet ∷ an_octet ∷ an_octet ∷ the_rest ∷ []

-- RFC 8162 2: those of TLSA.
abbrev pub smimea_fields : SMIMEA → List Field
smimea_fields smimea = tlsa_fields smimea.0

abbrev pub smimea_kinds : List Kind
smimea_kinds = tlsa_kinds
