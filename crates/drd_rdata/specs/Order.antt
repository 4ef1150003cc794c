-- The order of record data of every type, and what of them is fed to a hasher: by the number of the
-- type, then by form, then as the type orders its own data (RFC 4034 6.3).
use Rattle.std.specs.Prelude.{ℕ, ◌≡◌, ◌++◌, Bool, List, [], map, Option, Some, None}
use Rattle.std.specs.List.{All}
use Rattle.std.specs.Hash as fed
use Rattle.std.specs.Hash.{HashWrites}
use Rattle.std.specs.Option.{option_cmp}
use Rattle.std.specs.Ordering.{on, then_cmp, nat_cmp, eq_by_cmp}
use Rattle.std.specs.declared.cmp.Ordering.{Ordering}
use Rattle.drd_types.specs.dnw_codes.RecordType.{record_type_number}
use Rattle.drd_types.specs.drd_fields.Fields.{Field}
use Rattle.drd_types.specs.drd_fields.Equality.{AreFull}
use Rattle.drd_types.specs.drd_fields.Writing.{canonical_octets, fields_octets}
use Rattle.drd_types.specs.drd_fields.Order.{fields_cmp, fields_input}
use Rattle.drd_svcb.specs.Fields.{svcb_code, svcb_fields}
use Rattle.drd_names_keys.specs.drd_csync.declared.csync.CSYNC.{CSYNC}
use Rattle.drd_names_keys.specs.drd_csync.Data.{csync_fields}
use Rattle.drd_names_keys.specs.drd_csync.Equality.{AreWrittenMaps}
use Rattle.drd_names_keys.specs.drd_csync.Order.{csync_cmp, csync_input}
use Rattle.drd_types.specs.drd_opt.declared.opt.OPT.{OPT}
use Rattle.drd_types.specs.drd_opt.Entries.{FitsLengths, raw_of}
use Rattle.drd_types.specs.drd_opt.Equality.{entries_input}
use Rattle.drd_types.specs.drd_opt.Order.{entries_cmp, canonical_entries}
use Rattle.drd_svcb.specs.drd_params.Params.{AreParams}
use Rattle.drd_svcb.specs.declared.svcb.SVCB.{SVCB}
use Rattle.drd_svcb.specs.Hashing.{svcb_input}
use Rattle.drd_rdata.specs.declared.rdata.RData.{RData}
use Rattle.drd_rdata.specs.declared.rdata.RData.TheVariants as rdata
use Rattle.drd_rdata.specs.Fields.{rdata_fields}
use Rattle.drd_rdata.specs.Types.{type_of}

-- The number of the type of a record with these data.
abbrev pub type_number : RData → ℕ
type_number value = record_type_number (type_of value)

-- Data of an update, which have no octets, stand before those of the same type in a form of its
-- own, and these before octets of which only the type is known.
abbrev pub data_form : RData → ℕ
data_form (rdata.Update0 code) = 0
data_form (rdata.Unknown code null) = 2
data_form other = 1

-- The data field by field, but those of types that hold a set, options in no order, or parameters.
abbrev pub compared_fields : RData → List Field
compared_fields (rdata.CSYNC csync) = []
compared_fields (rdata.HTTPS https) = []
compared_fields (rdata.OPT opt) = []
compared_fields (rdata.SVCB svcb) = []
compared_fields value = rdata_fields value

abbrev pub csync_of : RData → Option CSYNC
csync_of (rdata.CSYNC csync) = Some csync
csync_of other = None

abbrev pub opt_of : RData → Option OPT
opt_of (rdata.OPT opt) = Some opt
opt_of other = None

abbrev pub svcb_of : RData → Option SVCB
svcb_of (rdata.SVCB svcb) = Some svcb
svcb_of (rdata.HTTPS https) = Some https.0
svcb_of other = None

abbrev pub svcb_cmp : SVCB → SVCB → Ordering
svcb_cmp a b = fields_cmp (svcb_code a) (svcb_code b)

abbrev pub opt_cmp : OPT → OPT → Ordering
opt_cmp a b = entries_cmp a.options.items b.options.items

-- Data of one type and form.
abbrev pub data_cmp : RData → RData → Ordering
data_cmp =
    then_cmp (on compared_fields fields_cmp)
    (then_cmp (on csync_of (option_cmp csync_cmp))
    (then_cmp (on opt_of (option_cmp opt_cmp)) (on svcb_of (option_cmp svcb_cmp))))

abbrev pub rdata_cmp : RData → RData → Ordering
rdata_cmp = then_cmp (on type_number nat_cmp) (then_cmp (on data_form nat_cmp) data_cmp)

abbrev pub rdata_eq : RData → RData → Bool
rdata_eq = eq_by_cmp rdata_cmp

-- The canonical octets (RFC 4034 6.2): names in lower case, bit maps without zero octets at their
-- end, options in the order of their octets.
abbrev pub canonical_data : RData → List ℕ
canonical_data (rdata.OPT opt) = canonical_entries opt.options.items
canonical_data value = canonical_octets (rdata_fields value)

-- The canonical octets of data whose names are fully qualified, whose parameters rise, and whose
-- options 16 bits can count, as in all data that were read: names in lower case, bit maps from
-- their types, options in the order of their octets.
abbrev pub HasCanonical : RData → List ℕ → Type 0
HasCanonical (rdata.CSYNC csync) octets =
    (maps : List ℕ) × AreWrittenMaps csync maps × (octets ≡ fields_octets (csync_fields csync maps))
HasCanonical (rdata.OPT opt) octets =
    All FitsLengths (map raw_of opt.options.items) × (octets ≡ canonical_entries opt.options.items)
HasCanonical (rdata.SVCB svcb) octets =
    AreFull (svcb_fields svcb) × AreParams svcb.svc_params.items
    × (octets ≡ canonical_octets (svcb_fields svcb))
HasCanonical (rdata.HTTPS https) octets =
    AreFull (svcb_fields https.0) × AreParams https.0.svc_params.items
    × (octets ≡ canonical_octets (svcb_fields https.0))
HasCanonical other octets =
    AreFull (rdata_fields other) × (octets ≡ canonical_octets (rdata_fields other))

-- The type and the form, and what a hasher is fed of the data of the type.
abbrev pub data_input : RData → HashWrites
data_input (rdata.CSYNC csync) = csync_input csync
data_input (rdata.OPT opt) = entries_input opt.options.items
data_input (rdata.SVCB svcb) = svcb_input svcb
data_input (rdata.HTTPS https) = svcb_input https.0
data_input other = fields_input (rdata_fields other)

abbrev pub rdata_input : RData → HashWrites
rdata_input value = fed.u16 (type_number value) ++ (fed.u8 (data_form value) ++ data_input value)
