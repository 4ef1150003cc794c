-- Record data can be read exactly where they hold what their type asks for.
use Rattle.std.proofs.Common.{◌≡◌, ◌<◌, ℕ, ◌++◌, List, [], length, refl, arith}
use Rattle.std.proofs.lemmas.List.{length-append}
use Rattle.drd_types.specs.dnw_decoder.Octets.{octets_32}
use Rattle.drd_types.proofs.dnw_decoder_lemmas.Standing.{length-octets_32}
use Rattle.drd_types.specs.drd_fields.Fields.{Field, FieldsAt}
use Rattle.drd_types.specs.drd_fields.Readable.{EndsAtRoot, StandAlone}
use Rattle.drd_types.specs.drd_fields.Writing.{fields_octets}
use Rattle.drd_types.proofs.drd_fields_lemmas.ReadableLaws.{fields_alone, in_own_octets, whole}
use Rattle.std.specs.Net.Addr.{ipv4_bits}
use Rattle.drd_svcb.proofs.dnw_encoder_lemmas.NameLaws.{length-name_octets}
use Rattle.drd_svcb.specs.dnw_name.DomainName.{DomainName, name_octets}
use Rattle.drd_svcb.specs.drd_params.AddressFields.{a_fields}
use Rattle.drd_svcb.specs.drd_params.declared.a.A.{A}
use Rattle.drd_names_keys.specs.drd_names.Fields.{ns_fields, soa_fields}
use Rattle.drd_names_keys.specs.drd_names.declared.ns.NS.{NS}
use Rattle.drd_names_keys.specs.drd_names.declared.soa.SOA.{SOA}
use Rattle.drd_names_keys.specs.dnw_wire.BitMapLaws.{maps_rise, tight_reads}
use Rattle.drd_names_keys.specs.dnw_wire.BitMaps.{Rises}
use Rattle.drd_names_keys.specs.dnw_wire.MapOrder.{tight_maps}
use Rattle.drd_names_keys.specs.dnw_wire.MapOrderLaws.{tight_written}
use Rattle.drd_names_keys.specs.drd_csync.Data.{csync_fields}
use Rattle.drd_names_keys.specs.drd_csync.declared.csync.CSYNC.{CSYNC}
use Rattle.drd_types.specs.drd_opt.declared.opt.OPT.{OPT}
use Rattle.drd_svcb.specs.Fields.{svcb_fields}
use Rattle.drd_svcb.specs.declared.https.HTTPS.{HTTPS}
use Rattle.drd_svcb.specs.declared.svcb.SVCB.{SVCB}
use Rattle.drd_rdata.specs.Order.{compared_fields}
use Rattle.drd_rdata.specs.Reading.{IsReadable, IsValid, RDataAt}
use Rattle.drd_rdata.specs.declared.rdata.RData.{RData}
use Rattle.drd_rdata.specs.declared.rdata.RData.TheVariants as rdata
use Rattle.drd_types.specs.drd_fields.Readable.{AreReadable}
use Rattle.drd_rdata.specs.Readable.{CanBeRead}
use Rattle.drd_types.proofs.drd_opt_lemmas.ReadableLaws.{entries_stand, holding}

-- ---- from what the data hold
-- Fields that stand alone, and take octets, are read from these.
from_fields : (value : RData) (fs : List Field)
    → ((message : List ℕ) (place end : ℕ) → FieldsAt message place fs end
    → RDataAt message place value end)
    → 0 < length (fields_octets fs) → StandAlone fs → IsReadable value
from_fields value fs there some alone = record {
  message = fields_octets fs;
  place = 0;
  end = length (fields_octets fs);
  some = some;
  there = there (fields_octets fs) 0 (length (fields_octets fs)) (in_own_octets fs alone);
}

some_long : (n : ℕ) (behind : List ℕ) → 0 < length (octets_32 n ++ behind)
some_long n behind = omega (arith, length-append (octets_32 n) behind, length-octets_32 n)

csync_read : (csync : CSYNC) → Rises 0 csync.type_bit_maps 65536 → IsReadable (rdata.CSYNC csync)
csync_read csync rises =
    let tight = tight_written csync.type_bit_maps rises in
    let fs = csync_fields csync (tight_maps csync.type_bit_maps) in
    from_fields (rdata.CSYNC csync) fs
    (λ m p e there. record { octets = tight_maps csync.type_bit_maps; maps = tight_reads 0 _ _ tight.maps; there = there })
    (some_long csync.soa_serial _) (tt, (tt, (tt, tt)))

-- Data that hold what their type asks for can be read.
pub to_read : (value : RData) → CanBeRead value → IsReadable value
to_read (rdata.CSYNC csync) can = csync_read csync can
to_read (rdata.HTTPS https) can = from_fields (rdata.HTTPS https) (svcb_fields https.0) (λ m p e there. (there, can.1)) (omega arith) (tt, (can.0, (tt, tt)))
to_read (rdata.OPT opt) can =
    let h = holding opt.options.items can in
    record {
      message = h.octets;
      place = 0;
      end = length h.octets;
      some = h.some;
      there = record { octets = h.octets; there = whole h.octets; holds = h.holds };
    }
to_read (rdata.SVCB svcb) can = from_fields (rdata.SVCB svcb) (svcb_fields svcb) (λ m p e there. (there, can.1)) (omega arith) (tt, (can.0, (tt, tt)))
to_read value can =
    let r = can.1 in
    record { message = r.message; place = r.place; end = r.end; some = r.some; there = (r.there, can.0) }

some_name : (n : DomainName) (behind : List ℕ) → 0 < length (name_octets n ++ behind)
some_name n behind = omega (arith, length-append (name_octets n) behind, length-name_octets n)

-- Addresses, name servers and the starts of zones, whose names end at the root, can be read.
pub a_read : (a : A) → IsReadable (rdata.A a)
a_read a =
    from_fields (rdata.A a) (a_fields a) (λ m p e there. (there, tt)) (some_long (ipv4_bits a.0) []) (tt, tt)

pub ns_read : (ns : NS) → EndsAtRoot ns.0 → IsReadable (rdata.NS ns)
ns_read ns ends =
    from_fields (rdata.NS ns) (ns_fields ns) (λ m p e there. (there, tt)) (some_name ns.0 []) (ends, tt)

pub soa_read : (soa : SOA) → EndsAtRoot soa.mname → EndsAtRoot soa.rname → IsReadable (rdata.SOA soa)
soa_read soa first second =
    from_fields (rdata.SOA soa) (soa_fields soa) (λ m p e there. (there, tt)) (some_name soa.mname _)
    (first, (second, (tt, (tt, (tt, (tt, (tt, tt)))))))

pub ns_ends : (ns : NS) → IsReadable (rdata.NS ns) → EndsAtRoot ns.0
ns_ends ns r = (fields_alone r.message r.place (ns_fields ns) r.end r.there.0).0

pub soa_ends : (soa : SOA) → IsReadable (rdata.SOA soa) → EndsAtRoot soa.mname × EndsAtRoot soa.rname
soa_ends soa r =
    let alone = fields_alone r.message r.place (soa_fields soa) r.end r.there.0 in (alone.0, alone.1.0)

-- ---- to what the data hold
-- Data that can be read hold what their type asks for.
pub from_read : (value : RData) → IsReadable value → CanBeRead value
from_read (rdata.CSYNC csync) r =
    let there = r.there in
    maps_rise 0 there.octets csync.type_bit_maps (omega arith) there.maps
from_read (rdata.HTTPS https) r =
    let there = r.there in
    ((fields_alone r.message r.place (svcb_fields https.0) r.end there.0).1.0, there.1)
from_read (rdata.OPT opt) r =
    let there = r.there in
    entries_stand there.octets opt.options.items there.holds
from_read (rdata.SVCB svcb) r =
    let there = r.there in
    ((fields_alone r.message r.place (svcb_fields svcb) r.end there.0).1.0, there.1)
from_read value r =
    let there = r.there in
    (there.1, record { message = r.message; place = r.place; end = r.end; some = r.some; there = there.0 })

-- Data that are read field by field.
pub plain_can : (value : RData) → ((x : CSYNC) → value ≡ rdata.CSYNC x → ⊥)
    → ((x : HTTPS) → value ≡ rdata.HTTPS x → ⊥) → ((x : OPT) → value ≡ rdata.OPT x → ⊥)
    → ((x : SVCB) → value ≡ rdata.SVCB x → ⊥)
    → CanBeRead value ≡ (IsValid value × AreReadable (compared_fields value))
plain_can (rdata.CSYNC x) csync https opt svcb = absurd (csync x refl)
plain_can (rdata.HTTPS x) csync https opt svcb = absurd (https x refl)
plain_can (rdata.OPT x) csync https opt svcb = absurd (opt x refl)
plain_can (rdata.SVCB x) csync https opt svcb = absurd (svcb x refl)
plain_can other csync https opt svcb = refl
