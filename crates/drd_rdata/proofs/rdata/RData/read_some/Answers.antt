use Rattle.std.proofs.Common.{◌+◌}
use Rattle.drd_types.specs.dnw_codes.declared.record_type.RecordType.TheVariants as kind
use Rattle.drd_rdata.proofs.Others.{NotOwn, is_other}
use Rattle.drd_rdata.specs.RowsLaws.{ok_row, none_row}
use Rattle.drd_rdata.proofs.rdata.RData.read_some.Goals as goal

pub returns-in-A-clause-ok : goal.returns-in-A-clause-ok
returns-in-A-clause-ok c =
    rw c.in-A.is
    (ok_row kind.A c.args.decoder.now.octets c.args.decoder.now.index (c.args.decoder.now.index + c.args.length) c.read_as.result c.read_as.ensures.ok)

pub returns-in-A-clause-none : goal.returns-in-A-clause-none
returns-in-A-clause-none c =
    rw c.in-A.is
    (none_row kind.A c.args.decoder.now.octets c.args.decoder.now.index (c.args.decoder.now.index + c.args.length) c.read_as.result c.read_as.ensures.none)

pub returns-in-AAAA-clause-ok : goal.returns-in-AAAA-clause-ok
returns-in-AAAA-clause-ok c =
    rw c.in-AAAA.is
    (ok_row kind.AAAA c.args.decoder.now.octets c.args.decoder.now.index (c.args.decoder.now.index + c.args.length) c.read_as-in-AAAA.result c.read_as-in-AAAA.ensures.ok)

pub returns-in-AAAA-clause-none : goal.returns-in-AAAA-clause-none
returns-in-AAAA-clause-none c =
    rw c.in-AAAA.is
    (none_row kind.AAAA c.args.decoder.now.octets c.args.decoder.now.index (c.args.decoder.now.index + c.args.length) c.read_as-in-AAAA.result c.read_as-in-AAAA.ensures.none)

pub returns-in-ANAME-clause-ok : goal.returns-in-ANAME-clause-ok
returns-in-ANAME-clause-ok c =
    rw c.in-ANAME.is
    (ok_row kind.ANAME c.args.decoder.now.octets c.args.decoder.now.index (c.args.decoder.now.index + c.args.length) c.read_as-in-ANAME.result c.read_as-in-ANAME.ensures.ok)

pub returns-in-ANAME-clause-none : goal.returns-in-ANAME-clause-none
returns-in-ANAME-clause-none c =
    rw c.in-ANAME.is
    (none_row kind.ANAME c.args.decoder.now.octets c.args.decoder.now.index (c.args.decoder.now.index + c.args.length) c.read_as-in-ANAME.result c.read_as-in-ANAME.ensures.none)

pub returns-in-CAA-clause-ok : goal.returns-in-CAA-clause-ok
returns-in-CAA-clause-ok c =
    rw c.in-CAA.is
    (ok_row kind.CAA c.args.decoder.now.octets c.args.decoder.now.index (c.args.decoder.now.index + c.args.length) c.read_as-in-CAA.result c.read_as-in-CAA.ensures.ok)

pub returns-in-CAA-clause-none : goal.returns-in-CAA-clause-none
returns-in-CAA-clause-none c =
    rw c.in-CAA.is
    (none_row kind.CAA c.args.decoder.now.octets c.args.decoder.now.index (c.args.decoder.now.index + c.args.length) c.read_as-in-CAA.result c.read_as-in-CAA.ensures.none)

pub returns-in-CERT-clause-ok : goal.returns-in-CERT-clause-ok
returns-in-CERT-clause-ok c =
    rw c.in-CERT.is
    (ok_row kind.CERT c.args.decoder.now.octets c.args.decoder.now.index (c.args.decoder.now.index + c.args.length) c.read_as-in-CERT.result c.read_as-in-CERT.ensures.ok)

pub returns-in-CERT-clause-none : goal.returns-in-CERT-clause-none
returns-in-CERT-clause-none c =
    rw c.in-CERT.is
    (none_row kind.CERT c.args.decoder.now.octets c.args.decoder.now.index (c.args.decoder.now.index + c.args.length) c.read_as-in-CERT.result c.read_as-in-CERT.ensures.none)

pub returns-in-CNAME-clause-ok : goal.returns-in-CNAME-clause-ok
returns-in-CNAME-clause-ok c =
    rw c.in-CNAME.is
    (ok_row kind.CNAME c.args.decoder.now.octets c.args.decoder.now.index (c.args.decoder.now.index + c.args.length) c.read_as-in-CNAME.result c.read_as-in-CNAME.ensures.ok)

pub returns-in-CNAME-clause-none : goal.returns-in-CNAME-clause-none
returns-in-CNAME-clause-none c =
    rw c.in-CNAME.is
    (none_row kind.CNAME c.args.decoder.now.octets c.args.decoder.now.index (c.args.decoder.now.index + c.args.length) c.read_as-in-CNAME.result c.read_as-in-CNAME.ensures.none)

pub returns-in-CSYNC-clause-ok : goal.returns-in-CSYNC-clause-ok
returns-in-CSYNC-clause-ok c =
    rw c.in-CSYNC.is
    (ok_row kind.CSYNC c.args.decoder.now.octets c.args.decoder.now.index (c.args.decoder.now.index + c.args.length) c.read_as-in-CSYNC.result c.read_as-in-CSYNC.ensures.ok)

pub returns-in-CSYNC-clause-none : goal.returns-in-CSYNC-clause-none
returns-in-CSYNC-clause-none c =
    rw c.in-CSYNC.is
    (none_row kind.CSYNC c.args.decoder.now.octets c.args.decoder.now.index (c.args.decoder.now.index + c.args.length) c.read_as-in-CSYNC.result c.read_as-in-CSYNC.ensures.none)

pub returns-in-HINFO-clause-ok : goal.returns-in-HINFO-clause-ok
returns-in-HINFO-clause-ok c =
    rw c.in-HINFO.is
    (ok_row kind.HINFO c.args.decoder.now.octets c.args.decoder.now.index (c.args.decoder.now.index + c.args.length) c.read_as-in-HINFO.result c.read_as-in-HINFO.ensures.ok)

pub returns-in-HINFO-clause-none : goal.returns-in-HINFO-clause-none
returns-in-HINFO-clause-none c =
    rw c.in-HINFO.is
    (none_row kind.HINFO c.args.decoder.now.octets c.args.decoder.now.index (c.args.decoder.now.index + c.args.length) c.read_as-in-HINFO.result c.read_as-in-HINFO.ensures.none)

pub returns-in-HTTPS-clause-ok : goal.returns-in-HTTPS-clause-ok
returns-in-HTTPS-clause-ok c =
    rw c.in-HTTPS.is
    (ok_row kind.HTTPS c.args.decoder.now.octets c.args.decoder.now.index (c.args.decoder.now.index + c.args.length) c.read_as-in-HTTPS.result c.read_as-in-HTTPS.ensures.ok)

pub returns-in-HTTPS-clause-none : goal.returns-in-HTTPS-clause-none
returns-in-HTTPS-clause-none c =
    rw c.in-HTTPS.is
    (none_row kind.HTTPS c.args.decoder.now.octets c.args.decoder.now.index (c.args.decoder.now.index + c.args.length) c.read_as-in-HTTPS.result c.read_as-in-HTTPS.ensures.none)

pub returns-in-MX-clause-ok : goal.returns-in-MX-clause-ok
returns-in-MX-clause-ok c =
    rw c.in-MX.is
    (ok_row kind.MX c.args.decoder.now.octets c.args.decoder.now.index (c.args.decoder.now.index + c.args.length) c.read_as-in-MX.result c.read_as-in-MX.ensures.ok)

pub returns-in-MX-clause-none : goal.returns-in-MX-clause-none
returns-in-MX-clause-none c =
    rw c.in-MX.is
    (none_row kind.MX c.args.decoder.now.octets c.args.decoder.now.index (c.args.decoder.now.index + c.args.length) c.read_as-in-MX.result c.read_as-in-MX.ensures.none)

pub returns-in-NAPTR-clause-ok : goal.returns-in-NAPTR-clause-ok
returns-in-NAPTR-clause-ok c =
    rw c.in-NAPTR.is
    (ok_row kind.NAPTR c.args.decoder.now.octets c.args.decoder.now.index (c.args.decoder.now.index + c.args.length) c.read_as-in-NAPTR.result c.read_as-in-NAPTR.ensures.ok)

pub returns-in-NAPTR-clause-none : goal.returns-in-NAPTR-clause-none
returns-in-NAPTR-clause-none c =
    rw c.in-NAPTR.is
    (none_row kind.NAPTR c.args.decoder.now.octets c.args.decoder.now.index (c.args.decoder.now.index + c.args.length) c.read_as-in-NAPTR.result c.read_as-in-NAPTR.ensures.none)

pub returns-in-NULL-clause-ok : goal.returns-in-NULL-clause-ok
returns-in-NULL-clause-ok c =
    rw c.in-NULL.is
    (ok_row kind.NULL c.args.decoder.now.octets c.args.decoder.now.index (c.args.decoder.now.index + c.args.length) c.read_as-in-NULL.result c.read_as-in-NULL.ensures.ok)

pub returns-in-NULL-clause-none : goal.returns-in-NULL-clause-none
returns-in-NULL-clause-none c =
    rw c.in-NULL.is
    (none_row kind.NULL c.args.decoder.now.octets c.args.decoder.now.index (c.args.decoder.now.index + c.args.length) c.read_as-in-NULL.result c.read_as-in-NULL.ensures.none)

pub returns-in-NS-clause-ok : goal.returns-in-NS-clause-ok
returns-in-NS-clause-ok c =
    rw c.in-NS.is
    (ok_row kind.NS c.args.decoder.now.octets c.args.decoder.now.index (c.args.decoder.now.index + c.args.length) c.read_as-in-NS.result c.read_as-in-NS.ensures.ok)

pub returns-in-NS-clause-none : goal.returns-in-NS-clause-none
returns-in-NS-clause-none c =
    rw c.in-NS.is
    (none_row kind.NS c.args.decoder.now.octets c.args.decoder.now.index (c.args.decoder.now.index + c.args.length) c.read_as-in-NS.result c.read_as-in-NS.ensures.none)

pub returns-in-OPENPGPKEY-clause-ok : goal.returns-in-OPENPGPKEY-clause-ok
returns-in-OPENPGPKEY-clause-ok c =
    rw c.in-OPENPGPKEY.is
    (ok_row kind.OPENPGPKEY c.args.decoder.now.octets c.args.decoder.now.index (c.args.decoder.now.index + c.args.length) c.read_as-in-OPENPGPKEY.result c.read_as-in-OPENPGPKEY.ensures.ok)

pub returns-in-OPENPGPKEY-clause-none : goal.returns-in-OPENPGPKEY-clause-none
returns-in-OPENPGPKEY-clause-none c =
    rw c.in-OPENPGPKEY.is
    (none_row kind.OPENPGPKEY c.args.decoder.now.octets c.args.decoder.now.index (c.args.decoder.now.index + c.args.length) c.read_as-in-OPENPGPKEY.result c.read_as-in-OPENPGPKEY.ensures.none)

pub returns-in-OPT-clause-ok : goal.returns-in-OPT-clause-ok
returns-in-OPT-clause-ok c =
    rw c.in-OPT.is
    (ok_row kind.OPT c.args.decoder.now.octets c.args.decoder.now.index (c.args.decoder.now.index + c.args.length) c.read_as-in-OPT.result c.read_as-in-OPT.ensures.ok)

pub returns-in-OPT-clause-none : goal.returns-in-OPT-clause-none
returns-in-OPT-clause-none c =
    rw c.in-OPT.is
    (none_row kind.OPT c.args.decoder.now.octets c.args.decoder.now.index (c.args.decoder.now.index + c.args.length) c.read_as-in-OPT.result c.read_as-in-OPT.ensures.none)

pub returns-in-PTR-clause-ok : goal.returns-in-PTR-clause-ok
returns-in-PTR-clause-ok c =
    rw c.in-PTR.is
    (ok_row kind.PTR c.args.decoder.now.octets c.args.decoder.now.index (c.args.decoder.now.index + c.args.length) c.read_as-in-PTR.result c.read_as-in-PTR.ensures.ok)

pub returns-in-PTR-clause-none : goal.returns-in-PTR-clause-none
returns-in-PTR-clause-none c =
    rw c.in-PTR.is
    (none_row kind.PTR c.args.decoder.now.octets c.args.decoder.now.index (c.args.decoder.now.index + c.args.length) c.read_as-in-PTR.result c.read_as-in-PTR.ensures.none)

pub returns-in-SMIMEA-clause-ok : goal.returns-in-SMIMEA-clause-ok
returns-in-SMIMEA-clause-ok c =
    rw c.in-SMIMEA.is
    (ok_row kind.SMIMEA c.args.decoder.now.octets c.args.decoder.now.index (c.args.decoder.now.index + c.args.length) c.read_as-in-SMIMEA.result c.read_as-in-SMIMEA.ensures.ok)

pub returns-in-SMIMEA-clause-none : goal.returns-in-SMIMEA-clause-none
returns-in-SMIMEA-clause-none c =
    rw c.in-SMIMEA.is
    (none_row kind.SMIMEA c.args.decoder.now.octets c.args.decoder.now.index (c.args.decoder.now.index + c.args.length) c.read_as-in-SMIMEA.result c.read_as-in-SMIMEA.ensures.none)

pub returns-in-SOA-clause-ok : goal.returns-in-SOA-clause-ok
returns-in-SOA-clause-ok c =
    rw c.in-SOA.is
    (ok_row kind.SOA c.args.decoder.now.octets c.args.decoder.now.index (c.args.decoder.now.index + c.args.length) c.read_as-in-SOA.result c.read_as-in-SOA.ensures.ok)

pub returns-in-SOA-clause-none : goal.returns-in-SOA-clause-none
returns-in-SOA-clause-none c =
    rw c.in-SOA.is
    (none_row kind.SOA c.args.decoder.now.octets c.args.decoder.now.index (c.args.decoder.now.index + c.args.length) c.read_as-in-SOA.result c.read_as-in-SOA.ensures.none)

pub returns-in-SRV-clause-ok : goal.returns-in-SRV-clause-ok
returns-in-SRV-clause-ok c =
    rw c.in-SRV.is
    (ok_row kind.SRV c.args.decoder.now.octets c.args.decoder.now.index (c.args.decoder.now.index + c.args.length) c.read_as-in-SRV.result c.read_as-in-SRV.ensures.ok)

pub returns-in-SRV-clause-none : goal.returns-in-SRV-clause-none
returns-in-SRV-clause-none c =
    rw c.in-SRV.is
    (none_row kind.SRV c.args.decoder.now.octets c.args.decoder.now.index (c.args.decoder.now.index + c.args.length) c.read_as-in-SRV.result c.read_as-in-SRV.ensures.none)

pub returns-in-SSHFP-clause-ok : goal.returns-in-SSHFP-clause-ok
returns-in-SSHFP-clause-ok c =
    rw c.in-SSHFP.is
    (ok_row kind.SSHFP c.args.decoder.now.octets c.args.decoder.now.index (c.args.decoder.now.index + c.args.length) c.read_as-in-SSHFP.result c.read_as-in-SSHFP.ensures.ok)

pub returns-in-SSHFP-clause-none : goal.returns-in-SSHFP-clause-none
returns-in-SSHFP-clause-none c =
    rw c.in-SSHFP.is
    (none_row kind.SSHFP c.args.decoder.now.octets c.args.decoder.now.index (c.args.decoder.now.index + c.args.length) c.read_as-in-SSHFP.result c.read_as-in-SSHFP.ensures.none)

pub returns-in-SVCB-clause-ok : goal.returns-in-SVCB-clause-ok
returns-in-SVCB-clause-ok c =
    rw c.in-SVCB.is
    (ok_row kind.SVCB c.args.decoder.now.octets c.args.decoder.now.index (c.args.decoder.now.index + c.args.length) c.read_as-in-SVCB.result c.read_as-in-SVCB.ensures.ok)

pub returns-in-SVCB-clause-none : goal.returns-in-SVCB-clause-none
returns-in-SVCB-clause-none c =
    rw c.in-SVCB.is
    (none_row kind.SVCB c.args.decoder.now.octets c.args.decoder.now.index (c.args.decoder.now.index + c.args.length) c.read_as-in-SVCB.result c.read_as-in-SVCB.ensures.none)

pub returns-in-TLSA-clause-ok : goal.returns-in-TLSA-clause-ok
returns-in-TLSA-clause-ok c =
    rw c.in-TLSA.is
    (ok_row kind.TLSA c.args.decoder.now.octets c.args.decoder.now.index (c.args.decoder.now.index + c.args.length) c.read_as-in-TLSA.result c.read_as-in-TLSA.ensures.ok)

pub returns-in-TLSA-clause-none : goal.returns-in-TLSA-clause-none
returns-in-TLSA-clause-none c =
    rw c.in-TLSA.is
    (none_row kind.TLSA c.args.decoder.now.octets c.args.decoder.now.index (c.args.decoder.now.index + c.args.length) c.read_as-in-TLSA.result c.read_as-in-TLSA.ensures.none)

pub returns-in-TXT-clause-ok : goal.returns-in-TXT-clause-ok
returns-in-TXT-clause-ok c =
    rw c.in-TXT.is
    (ok_row kind.TXT c.args.decoder.now.octets c.args.decoder.now.index (c.args.decoder.now.index + c.args.length) c.read_as-in-TXT.result c.read_as-in-TXT.ensures.ok)

pub returns-in-TXT-clause-none : goal.returns-in-TXT-clause-none
returns-in-TXT-clause-none c =
    rw c.in-TXT.is
    (none_row kind.TXT c.args.decoder.now.octets c.args.decoder.now.index (c.args.decoder.now.index + c.args.length) c.read_as-in-TXT.result c.read_as-in-TXT.ensures.none)

pub read_unknown-requires : goal.read_unknown-requires
read_unknown-requires c =
    let other : NotOwn c.args.record_type = record { a = c.in_default.not-A; aaaa = c.in_default.not-AAAA; aname = c.in_default.not-ANAME; any = c.in_default.not-ANY; axfr = c.in_default.not-AXFR; caa = c.in_default.not-CAA; cert = c.in_default.not-CERT; cname = c.in_default.not-CNAME; csync = c.in_default.not-CSYNC; hinfo = c.in_default.not-HINFO; https = c.in_default.not-HTTPS; ixfr = c.in_default.not-IXFR; mx = c.in_default.not-MX; naptr = c.in_default.not-NAPTR; ns = c.in_default.not-NS; null = c.in_default.not-NULL; openpgpkey = c.in_default.not-OPENPGPKEY; opt = c.in_default.not-OPT; ptr = c.in_default.not-PTR; smimea = c.in_default.not-SMIMEA; soa = c.in_default.not-SOA; srv = c.in_default.not-SRV; sshfp = c.in_default.not-SSHFP; svcb = c.in_default.not-SVCB; tlsa = c.in_default.not-TLSA; txt = c.in_default.not-TXT; zero = c.in_default.not-ZERO } in
    is_other c.args.record_type other

pub returns-in-AAAA-clause-refused : goal.returns-in-AAAA-clause-refused
returns-in-AAAA-clause-refused c = rw c.in-AAAA.is c.read_as-in-AAAA.ensures.refused

pub returns-in-CAA-clause-refused : goal.returns-in-CAA-clause-refused
returns-in-CAA-clause-refused c = rw c.in-CAA.is c.read_as-in-CAA.ensures.refused

pub returns-in-HTTPS-clause-refused : goal.returns-in-HTTPS-clause-refused
returns-in-HTTPS-clause-refused c = rw c.in-HTTPS.is c.read_as-in-HTTPS.ensures.refused

pub returns-in-NAPTR-clause-refused : goal.returns-in-NAPTR-clause-refused
returns-in-NAPTR-clause-refused c = rw c.in-NAPTR.is c.read_as-in-NAPTR.ensures.refused

pub returns-in-SOA-clause-refused : goal.returns-in-SOA-clause-refused
returns-in-SOA-clause-refused c = rw c.in-SOA.is c.read_as-in-SOA.ensures.refused

pub returns-in-SVCB-clause-refused : goal.returns-in-SVCB-clause-refused
returns-in-SVCB-clause-refused c = rw c.in-SVCB.is c.read_as-in-SVCB.ensures.refused
