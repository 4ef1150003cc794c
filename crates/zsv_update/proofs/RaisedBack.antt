-- An SOA with the next serial number is servable if the old one is.
use Rattle.std.proofs.Common.{inl, inr, ◌<◌, ◌++◌, ℕ, List, [], ◌∷◌, length, refl, arith}
use Rattle.std.proofs.lemmas.List.{length-append}
use Rattle.std.specs.List.{AllByRecursion}
use Rattle.drd_types.proofs.drd_fields_lemmas.ReadableLaws.{fields_alone, in_own_octets, name_takes}
use Rattle.drd_types.specs.drd_fields.Readable.{StandAlone}
use Rattle.drd_types.specs.drd_fields.Writing.{fields_octets}
use Rattle.zsv_chains.specs.zst_request.dnw_name.DomainName.{DomainName, name_octets}
use Rattle.zsv_chains.specs.zst_request.drd_rdata.Fields.{rdata_fields}
use Rattle.zsv_chains.specs.zst_request.drd_rdata.Reading.{IsReadable}
use Rattle.zsv_chains.specs.zst_request.drd_rdata.declared.rdata.RData.{RData}
use Rattle.zsv_chains.specs.zst_request.drd_rdata.declared.rdata.RData.TheVariants.{SOA}
use Rattle.zsv_chains.specs.zst_request.zst_handler.Zones.{SetReadsBack}
use Rattle.zsv_chains.specs.zst_request.zst_record.RecordSets.{RRset, raised_data, raised_first, raised_set}
use Rattle.zsv_chains.specs.zst_request.zst_record.Records.{IsServable, ReadsBackAlone}
use Rattle.zsv_chains.specs.zst_request.zst_record.declared.records.Record.{Record}

some_name : (n : DomainName) (after : List ℕ) → 0 < length (name_octets n ++ after)
some_name n after = omega (arith, length-append (name_octets n) after, name_takes n)

-- The fields of an SOA can be served whatever its numbers are.
soa_readable : (value : RData) → IsReadable value → IsReadable (raised_data value)
soa_readable (SOA soa) read =
    let fs = rdata_fields (raised_data (SOA soa)) in
    let alone : StandAlone fs = fields_alone read.message read.place (rdata_fields (SOA soa)) read.end read.there.0 in
    record {
      message = fields_octets fs;
      place = 0;
      end = length (fields_octets fs);
      some = some_name soa.mname _;
      there = (in_own_octets fs alone, tt);
    }
soa_readable other read = read

data_servable : (r : Record) (value : RData) → IsServable (record r { rdata = value }) → IsServable (record r { rdata = raised_data value })
data_servable r (SOA soa) servable = record { alone = by servable.alone; of_zones = refl }
  where
    by : ReadsBackAlone (record r { rdata = SOA soa }) → ReadsBackAlone (record r { rdata = raised_data (SOA soa) })
    by (inl read) = inl (record { owner = read.0.owner; own_type = tt; own_class = read.0.own_class }, soa_readable (SOA soa) read.1)
    by (inr far) = absurd far
data_servable r other servable = servable

first_servable : (rs : List Record) → AllByRecursion IsServable rs → AllByRecursion IsServable (raised_first rs)
first_servable [] all = tt
first_servable (r ∷ rs) all = (data_servable r r.rdata all.0, all.1)

pub raised_back : (set : RRset) → SetReadsBack set → SetReadsBack (raised_set set)
raised_back set back = record { records = first_servable set.records back.records; signatures = tt }
