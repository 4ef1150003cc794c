-- Which record data can be read: what the data of each type must hold.
use Rattle.std.specs.List.{All}
use Rattle.drd_types.specs.drd_fields.Readable.{AreReadable}
use Rattle.drd_names_keys.specs.dnw_wire.BitMaps.{Rises}
use Rattle.drd_svcb.specs.Readable.{IsService}
use Rattle.drd_rdata.specs.Fields.{rdata_fields}
use Rattle.drd_rdata.specs.Reading.{IsValid}
use Rattle.drd_rdata.specs.declared.rdata.RData.{RData}
use Rattle.drd_rdata.specs.declared.rdata.RData.TheVariants as rdata
use Rattle.drd_types.specs.drd_opt.Readable.{StandsSomewhere}

-- What data must hold to be read from some message: their fields stand there and take octets, and
-- are valid. Types of a set rise, options stand under their codes in their own form.
abbrev pub CanBeRead : RData → Type 0
CanBeRead (rdata.CSYNC csync) = Rises 0 csync.type_bit_maps 65536
CanBeRead (rdata.HTTPS https) = IsService https.0
CanBeRead (rdata.OPT opt) = All StandsSomewhere opt.options.items
CanBeRead (rdata.SVCB svcb) = IsService svcb
CanBeRead value = IsValid value × AreReadable (rdata_fields value)
