-- RDATA with more octets, names uncompressed, than RDLENGTH counts (RFC 1035, section 3.2.1).
use Rattle.std.specs.Prelude.{◌<◌, length}
use Rattle.drd_rdata.specs.Writing.{written_octets}
use Rattle.drd_rdata.specs.declared.rdata.RData.{RData}
use Rattle.drd_rdata.specs.declared.rdata.RData.TheVariants as rdata

-- The RDATA have more than 65,535 octets, names uncompressed. Names and numbers alone never do,
-- since a name has 255 octets at most; nor do type bit maps.
abbrev pub ExceedsRdlength : RData → Type 0
ExceedsRdlength (rdata.A a) = ⊥
ExceedsRdlength (rdata.AAAA aaaa) = ⊥
ExceedsRdlength (rdata.ANAME aname) = ⊥
ExceedsRdlength (rdata.CNAME cname) = ⊥
ExceedsRdlength (rdata.CSYNC csync) = ⊥
ExceedsRdlength (rdata.MX mx) = ⊥
ExceedsRdlength (rdata.NS ns) = ⊥
ExceedsRdlength (rdata.PTR ptr) = ⊥
ExceedsRdlength (rdata.SOA soa) = ⊥
ExceedsRdlength (rdata.SRV srv) = ⊥
ExceedsRdlength value = 65535 < length (written_octets value)
