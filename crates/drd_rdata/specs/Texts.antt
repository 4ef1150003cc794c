-- Record data of every type in words (RFC 1035 5.1).
use Rattle.std.specs.Prelude.{ℕ, Bool, true, false, List, [], codes, Option}
use Rattle.drd_svcb.specs.dnw_name.DomainName.{DomainName}
use Rattle.drd_types.specs.dnw_codes.declared.error.ParseError.{ParseError}
use Rattle.drd_types.specs.dnw_codes.declared.record_type.RecordType.{RecordType}
use Rattle.drd_types.specs.dnw_codes.declared.record_type.RecordType.TheVariants as kind
use Rattle.drd_svcb.specs.dnw_name.NamePrint.{name_print}
use Rattle.drd_types.specs.drd_caa.Print.{caa_print}
use Rattle.drd_types.specs.drd_caa.Words.{IsCaaText, RefusesCaaText}
use Rattle.drd_names_keys.specs.drd_csync.Texts.{IsCsyncText, RefusesCsyncText, csync_print}
use Rattle.drd_names_keys.specs.drd_keys.Print.{cert_print, openpgpkey_print, smimea_print, sshfp_print, tlsa_print}
use Rattle.drd_names_keys.specs.drd_keys.Texts.{IsCertText, IsOpenpgpkeyText, IsSmimeaText, IsSshfpText, IsTlsaText, RefusesCertText, RefusesOpenpgpkeyText, RefusesSmimeaText, RefusesSshfpText, RefusesTlsaText}
use Rattle.drd_names_keys.specs.drd_names.Texts.{IsAnameText, IsCnameText, IsMxText, IsNsText, IsPtrText, IsSoaText, IsSrvText, RefusesMxText, RefusesOneName, RefusesSoaText, RefusesSrvText, mx_print, soa_print, srv_print}
use Rattle.drd_types.specs.drd_opt.Entries.{entries_print}
use Rattle.drd_svcb.specs.drd_params.AddressPrint.{a_print, aaaa_print}
use Rattle.drd_types.specs.drd_plain.Print.{hinfo_print, naptr_print, null_print, txt_print}
use Rattle.drd_svcb.specs.drd_params.AddressWords.{IsAText, IsAaaaText, RefusesAText, RefusesAaaaText}
use Rattle.drd_types.specs.drd_plain.Words.{IsHinfoText, IsNaptrText, IsTxtText, RefusesHinfoText, RefusesNaptrText, RefusesTxtText}
use Rattle.drd_svcb.specs.Print.{svcb_print}
use Rattle.drd_svcb.specs.ParamRefusals.{RefusesSvcbText}
use Rattle.drd_svcb.specs.Texts.{IsSvcbText}
use Rattle.drd_rdata.specs.Types.{Is}
use Rattle.drd_rdata.specs.declared.rdata.RData.{RData}
use Rattle.drd_rdata.specs.declared.rdata.RData.TheVariants as rdata

-- The words write these data of a record of this type; an origin completes relative names. Other
-- types have no text.
abbrev pub IsTextOf : RecordType → List (List ℕ) → Option DomainName → RData → Type 0
IsTextOf kind.A words origin value = Is rdata.A (λ a. IsAText words a) value
IsTextOf kind.AAAA words origin value = Is rdata.AAAA (λ aaaa. IsAaaaText words aaaa) value
IsTextOf kind.ANAME words origin value =
    Is rdata.ANAME (λ aname. IsAnameText words origin aname) value
IsTextOf kind.CAA words origin value = Is rdata.CAA (λ caa. IsCaaText words caa) value
IsTextOf kind.CERT words origin value = Is rdata.CERT (λ cert. IsCertText words cert) value
IsTextOf kind.CNAME words origin value =
    Is rdata.CNAME (λ cname. IsCnameText words origin cname) value
IsTextOf kind.CSYNC words origin value = Is rdata.CSYNC (λ csync. IsCsyncText words csync) value
IsTextOf kind.HINFO words origin value = Is rdata.HINFO (λ hinfo. IsHinfoText words hinfo) value
IsTextOf kind.HTTPS words origin value =
    Is rdata.HTTPS (λ https. IsSvcbText words origin https.0) value
IsTextOf kind.MX words origin value = Is rdata.MX (λ mx. IsMxText words origin mx) value
IsTextOf kind.NAPTR words origin value =
    Is rdata.NAPTR (λ naptr. IsNaptrText words origin naptr) value
IsTextOf kind.NS words origin value = Is rdata.NS (λ ns. IsNsText words origin ns) value
IsTextOf kind.OPENPGPKEY words origin value =
    Is rdata.OPENPGPKEY (λ openpgpkey. IsOpenpgpkeyText words openpgpkey) value
IsTextOf kind.PTR words origin value = Is rdata.PTR (λ ptr. IsPtrText words origin ptr) value
IsTextOf kind.SMIMEA words origin value =
    Is rdata.SMIMEA (λ smimea. IsSmimeaText words smimea) value
IsTextOf kind.SOA words origin value = Is rdata.SOA (λ soa. IsSoaText words origin soa) value
IsTextOf kind.SRV words origin value = Is rdata.SRV (λ srv. IsSrvText words origin srv) value
IsTextOf kind.SSHFP words origin value = Is rdata.SSHFP (λ sshfp. IsSshfpText words sshfp) value
IsTextOf kind.SVCB words origin value = Is rdata.SVCB (λ svcb. IsSvcbText words origin svcb) value
IsTextOf kind.TLSA words origin value = Is rdata.TLSA (λ tlsa. IsTlsaText words tlsa) value
IsTextOf kind.TXT words origin value = Is rdata.TXT (λ txt. IsTxtText words txt) value
IsTextOf other words origin value = ⊥

-- Why the words write no data of a record of this type: by the first that is missing, one too many,
-- or unfit.
abbrev pub RefusesTextOf : RecordType → List (List ℕ) → Option DomainName → ParseError → Type 0
RefusesTextOf kind.A words origin e = RefusesAText words e
RefusesTextOf kind.AAAA words origin e = RefusesAaaaText words e
RefusesTextOf kind.ANAME words origin e = RefusesOneName words origin e
RefusesTextOf kind.CAA words origin e = RefusesCaaText words e
RefusesTextOf kind.CERT words origin e = RefusesCertText words e
RefusesTextOf kind.CNAME words origin e = RefusesOneName words origin e
RefusesTextOf kind.CSYNC words origin e = RefusesCsyncText words e
RefusesTextOf kind.HINFO words origin e = RefusesHinfoText words e
RefusesTextOf kind.HTTPS words origin e = RefusesSvcbText words origin e
RefusesTextOf kind.MX words origin e = RefusesMxText words origin e
RefusesTextOf kind.NAPTR words origin e = RefusesNaptrText words origin e
RefusesTextOf kind.NS words origin e = RefusesOneName words origin e
RefusesTextOf kind.OPENPGPKEY words origin e = RefusesOpenpgpkeyText words e
RefusesTextOf kind.PTR words origin e = RefusesOneName words origin e
RefusesTextOf kind.SMIMEA words origin e = RefusesSmimeaText words e
RefusesTextOf kind.SOA words origin e = RefusesSoaText words origin e
RefusesTextOf kind.SRV words origin e = RefusesSrvText words origin e
RefusesTextOf kind.SSHFP words origin e = RefusesSshfpText words e
RefusesTextOf kind.SVCB words origin e = RefusesSvcbText words origin e
RefusesTextOf kind.TLSA words origin e = RefusesTlsaText words e
RefusesTextOf kind.TXT words origin e = RefusesTxtText words e
RefusesTextOf other words origin e = ⊥

-- The types whose data have a text.
abbrev pub has_text : RecordType → Bool
has_text kind.A = true
has_text kind.AAAA = true
has_text kind.ANAME = true
has_text kind.CAA = true
has_text kind.CERT = true
has_text kind.CNAME = true
has_text kind.CSYNC = true
has_text kind.HINFO = true
has_text kind.HTTPS = true
has_text kind.MX = true
has_text kind.NAPTR = true
has_text kind.NS = true
has_text kind.OPENPGPKEY = true
has_text kind.PTR = true
has_text kind.SMIMEA = true
has_text kind.SOA = true
has_text kind.SRV = true
has_text kind.SSHFP = true
has_text kind.SVCB = true
has_text kind.TLSA = true
has_text kind.TXT = true
has_text other = false

-- What is printed of the data. Those of an update that has none are a word of their own, those of
-- type 0 nothing.
abbrev pub rdata_print : RData → List ℕ
rdata_print (rdata.A a) = a_print a
rdata_print (rdata.AAAA aaaa) = aaaa_print aaaa
rdata_print (rdata.ANAME aname) = name_print aname.0
rdata_print (rdata.CAA caa) = caa_print caa
rdata_print (rdata.CERT cert) = cert_print cert
rdata_print (rdata.CNAME cname) = name_print cname.0
rdata_print (rdata.CSYNC csync) = csync_print csync
rdata_print (rdata.HINFO hinfo) = hinfo_print hinfo
rdata_print (rdata.HTTPS https) = svcb_print https.0
rdata_print (rdata.MX mx) = mx_print mx
rdata_print (rdata.NAPTR naptr) = naptr_print naptr
rdata_print (rdata.NULL null) = null_print null
rdata_print (rdata.NS ns) = name_print ns.0
rdata_print (rdata.OPENPGPKEY openpgpkey) = openpgpkey_print openpgpkey
rdata_print (rdata.OPT opt) = entries_print opt.options.items
rdata_print (rdata.PTR ptr) = name_print ptr.0
rdata_print (rdata.SMIMEA smimea) = smimea_print smimea
rdata_print (rdata.SOA soa) = soa_print soa
rdata_print (rdata.SRV srv) = srv_print srv
rdata_print (rdata.SSHFP sshfp) = sshfp_print sshfp
rdata_print (rdata.SVCB svcb) = svcb_print svcb
rdata_print (rdata.TLSA tlsa) = tlsa_print tlsa
rdata_print (rdata.TXT txt) = txt_print txt
rdata_print (rdata.Unknown code null) = null_print null
rdata_print (rdata.Update0 code) = codes "UPDATE"
rdata_print rdata.ZERO = []
