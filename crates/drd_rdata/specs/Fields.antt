-- Record data of every type as fields (RFC 1035 3.3), and how their names are written.
use Rattle.std.specs.Prelude.{List, [], ◌∷◌}
use Rattle.drd_types.specs.dnw_codes.declared.record_type.RecordType.{RecordType}
use Rattle.drd_types.specs.dnw_codes.declared.record_type.RecordType.TheVariants as kind
use Rattle.drd_types.specs.dnw_encoder.declared.modes.RDataEncoding.{RDataEncoding}
use Rattle.drd_types.specs.dnw_encoder.declared.modes.RDataEncoding.TheVariants.{StandardRecord, Canonical, Other}
use Rattle.drd_names_keys.specs.dnw_wire.MapOrder.{tight_maps}
use Rattle.drd_types.specs.drd_caa.Fields.{caa_fields, caa_kinds}
use Rattle.drd_names_keys.specs.drd_csync.Data.{csync_fields}
use Rattle.drd_types.specs.drd_fields.Fields.{Field, rest, Kind, a_long, a_short, the_rest}
use Rattle.drd_names_keys.specs.drd_keys.Fields.{cert_fields, cert_kinds, openpgpkey_fields, openpgpkey_kinds, smimea_fields, smimea_kinds, sshfp_fields, sshfp_kinds, tlsa_fields, tlsa_kinds}
use Rattle.drd_names_keys.specs.drd_names.Fields.{aname_fields, cname_fields, mx_fields, mx_kinds, ns_fields, one_name, ptr_fields, soa_fields, soa_kinds, srv_fields, srv_kinds}
use Rattle.drd_types.specs.drd_opt.Entries.{entries_octets}
use Rattle.drd_types.specs.drd_plain.Fields.{hinfo_fields, hinfo_kinds, naptr_fields, naptr_kinds, null_fields, null_kinds, txt_fields, txt_kinds}
use Rattle.drd_svcb.specs.Fields.{svcb_fields, svcb_kinds}
use Rattle.drd_svcb.specs.drd_params.AddressFields.{a_fields, a_kinds, aaaa_fields, aaaa_kinds}
use Rattle.drd_rdata.specs.declared.rdata.RData.{RData}
use Rattle.drd_rdata.specs.declared.rdata.RData.TheVariants as rdata

-- The data field by field, as they are written. Data of an update and of type 0 have no octets.
abbrev pub rdata_fields : RData → List Field
rdata_fields (rdata.A a) = a_fields a
rdata_fields (rdata.AAAA aaaa) = aaaa_fields aaaa
rdata_fields (rdata.ANAME aname) = aname_fields aname
rdata_fields (rdata.CAA caa) = caa_fields caa
rdata_fields (rdata.CERT cert) = cert_fields cert
rdata_fields (rdata.CNAME cname) = cname_fields cname
rdata_fields (rdata.CSYNC csync) = csync_fields csync (tight_maps csync.type_bit_maps)
rdata_fields (rdata.HINFO hinfo) = hinfo_fields hinfo
rdata_fields (rdata.HTTPS https) = svcb_fields https.0
rdata_fields (rdata.MX mx) = mx_fields mx
rdata_fields (rdata.NAPTR naptr) = naptr_fields naptr
rdata_fields (rdata.NULL null) = null_fields null
rdata_fields (rdata.NS ns) = ns_fields ns
rdata_fields (rdata.OPENPGPKEY openpgpkey) = openpgpkey_fields openpgpkey
rdata_fields (rdata.OPT opt) = rest (entries_octets opt.options.items) ∷ []
rdata_fields (rdata.PTR ptr) = ptr_fields ptr
rdata_fields (rdata.SMIMEA smimea) = smimea_fields smimea
rdata_fields (rdata.SOA soa) = soa_fields soa
rdata_fields (rdata.SRV srv) = srv_fields srv
rdata_fields (rdata.SSHFP sshfp) = sshfp_fields sshfp
rdata_fields (rdata.SVCB svcb) = svcb_fields svcb
rdata_fields (rdata.TLSA tlsa) = tlsa_fields tlsa
rdata_fields (rdata.TXT txt) = txt_fields txt
rdata_fields (rdata.Unknown code null) = null_fields null
rdata_fields (rdata.Update0 code) = []
rdata_fields rdata.ZERO = []

-- The kinds of the fields of a type's data. Those of a type without a form of its own are octets.
abbrev pub kinds_for : RecordType → List Kind
kinds_for kind.A = a_kinds
kinds_for kind.AAAA = aaaa_kinds
kinds_for kind.ANAME = one_name
kinds_for kind.CAA = caa_kinds
kinds_for kind.CERT = cert_kinds
kinds_for kind.CNAME = one_name
kinds_for kind.CSYNC = a_long ∷ a_short ∷ the_rest ∷ []
kinds_for kind.HINFO = hinfo_kinds
kinds_for kind.HTTPS = svcb_kinds
kinds_for kind.MX = mx_kinds
kinds_for kind.NAPTR = naptr_kinds
kinds_for kind.NS = one_name
kinds_for kind.OPENPGPKEY = openpgpkey_kinds
kinds_for kind.PTR = one_name
kinds_for kind.SMIMEA = smimea_kinds
kinds_for kind.SOA = soa_kinds
kinds_for kind.SRV = srv_kinds
kinds_for kind.SSHFP = sshfp_kinds
kinds_for kind.SVCB = svcb_kinds
kinds_for kind.TLSA = tlsa_kinds
kinds_for kind.TXT = txt_kinds
kinds_for other = null_kinds

-- How names of the data are written: with pointers in the types of RFC 1035 alone (RFC 3597 4), in
-- lower case in those that RFC 4034 6.2 names.
abbrev pub encoding_of : RData → RDataEncoding
encoding_of (rdata.CNAME cname) = StandardRecord
encoding_of (rdata.MX mx) = StandardRecord
encoding_of (rdata.NS ns) = StandardRecord
encoding_of (rdata.PTR ptr) = StandardRecord
encoding_of (rdata.SOA soa) = StandardRecord
encoding_of (rdata.NAPTR naptr) = Canonical
encoding_of (rdata.SRV srv) = Canonical
encoding_of other = Other
