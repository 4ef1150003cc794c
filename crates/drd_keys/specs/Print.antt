-- Printed record data of keys, certificates and fingerprints: decimal numbers, and octets in hex in
-- lower case or in base64, one space apart.
use Rattle.std.specs.Prelude.{ℕ, List, ◌++◌, codes}
use Rattle.std.specs.Fmt.{decimal}
use Rattle.base64.specs.Engines.{standard}
use Rattle.base64.specs.GeneralPurpose.{encode_of}
use Rattle.hex.specs.Hex.{encode_lower}
use Rattle.drd_keys.specs.Cert.{cert_type_number, cert_algorithm_number}
use Rattle.drd_keys.specs.Sshfp.{sshfp_algorithm_number, fingerprint_type_number}
use Rattle.drd_keys.specs.Tlsa.{cert_usage_number, selector_number, matching_number}
use Rattle.drd_keys.specs.declared.cert.CERT.{CERT}
use Rattle.drd_keys.specs.declared.openpgpkey.OPENPGPKEY.{OPENPGPKEY}
use Rattle.drd_keys.specs.declared.smimea.SMIMEA.{SMIMEA}
use Rattle.drd_keys.specs.declared.sshfp.SSHFP.{SSHFP}
use Rattle.drd_keys.specs.declared.tlsa.TLSA.{TLSA}

-- RFC 4398 2.2: three numbers, and the certificate in base64.
abbrev pub cert_print : CERT → List ℕ
cert_print cert =
    decimal (cert_type_number cert.cert_type) ++ codes " " ++ decimal cert.key_tag ++ codes " "
    ++ decimal (cert_algorithm_number cert.algorithm) ++ codes " "
    ++ encode_of standard cert.cert_data.items

-- RFC 7929 2.3: the key in base64.
abbrev pub openpgpkey_print : OPENPGPKEY → List ℕ
openpgpkey_print key = encode_of standard key.public_key.items

-- RFC 4255 3.2: two numbers, and the fingerprint in hex.
abbrev pub sshfp_print : SSHFP → List ℕ
sshfp_print sshfp =
    decimal (sshfp_algorithm_number sshfp.algorithm) ++ codes " "
    ++ decimal (fingerprint_type_number sshfp.fingerprint_type)
    ++ codes " " ++ encode_lower sshfp.fingerprint.items

-- RFC 6698 2.2: three numbers, and the octets in hex.
abbrev pub tlsa_print : TLSA → List ℕ
tlsa_print tlsa =
    decimal (cert_usage_number tlsa.cert_usage) ++ codes " "
    ++ decimal (selector_number tlsa.selector) ++ codes " "
    ++ decimal (matching_number tlsa.matching) ++ codes " " ++ encode_lower tlsa.cert_data.items

-- RFC 8162 2: that of TLSA.
abbrev pub smimea_print : SMIMEA → List ℕ
smimea_print smimea = tlsa_print smimea.0
