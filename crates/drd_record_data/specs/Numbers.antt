-- The numbers of record data (RFC 1035, section 3.3).
use Rattle.drd_rdata.specs.dnw_wire.BitMaps.{Rises}
use Rattle.drd_rdata.specs.Fields.{rdata_fields}
use Rattle.drd_rdata.specs.drd_fields.Fields.{AllFit}
use Rattle.drd_rdata.specs.declared.rdata.RData.{RData}
use Rattle.drd_rdata.specs.declared.rdata.RData.TheVariants as rdata

-- The types of bit maps rise (RFC 4034, section 4.1.2), so that each is there once.
abbrev pub TypesRise : RData → Type 0
TypesRise (rdata.CSYNC csync) = Rises 0 csync.type_bit_maps 65536
TypesRise other = Unit {0}

-- Each number fits the octets of its field, and types of bit maps rise.
abbrev pub NumbersFit : RData → Type 0
NumbersFit value = AllFit (rdata_fields value) × TypesRise value
