-- The prerequisites of class IN, gathered by their sets: RFC 2136, section 3.2.3.
use Rattle.std.specs.Prelude.{◌≡◌, Bool, ◌&&◌, List, [], ◌∷◌, map, filter, Option, Some, None, option_map}
use Rattle.std.specs.Borrow.{Bor}
use Rattle.std.specs.BTreeMap.{BTreeMap, get}
use Rattle.std.specs.Ordering.{ordering_then}
use Rattle.std.specs.declared.cmp.Ordering.{Ordering}
use Rattle.std.proofs.Common.{Vec, Global}
use Rattle.zst_map.specs.dnw_codes.RecordType.{record_type_cmp, same_record_type}
use Rattle.zst_map.specs.dnw_name.DomainName.{name_cmp, name_eq}
use Rattle.zst_map.specs.drd_rdata.Types.{type_of}
use Rattle.zst_map.specs.zst_handler.Zones.{rrset_at}
use Rattle.zst_map.specs.zst_record.RecordSets.{RRset}
use Rattle.zst_map.specs.zst_record.declared.records.Record.{Record}
use Rattle.zst_request.specs.Prerequisites.{has_exactly, is_valued}
use Rattle.zsv_sqlite.specs.declared.groups.SetKey.{SetKey}

-- The order of sets: by owner, then by type.
abbrev pub key_cmp : SetKey → SetKey → Ordering
key_cmp a b =
    ordering_then (name_cmp a.owner b.owner) (record_type_cmp a.record_type b.record_type)

-- A prerequisite of class IN of the set of an owner and a type.
abbrev pub is_of_set : SetKey → Record → Bool
is_of_set key r =
    is_valued r && (name_eq key.owner r.name && same_record_type key.record_type (type_of r.rdata))

abbrev pub Group : Type 0
Group = Vec (Bor Record) Global

abbrev pub records_of : Group → List Record
records_of group = map (λ r. r.now) group.items

abbrev pub unless_none : List Record → Option (List Record)
unless_none [] = None
unless_none (r ∷ rs) = Some (r ∷ rs)

-- Of each set, its prerequisites of class IN in order, where there are some.
abbrev pub Gathers : List Record → BTreeMap SetKey Group → Type 0
Gathers rs groups =
    (key : SetKey) → option_map records_of (get key_cmp groups key)
    ≡ unless_none (filter (is_of_set key) rs)

-- A group has exactly the records of its set.
abbrev pub is_met_by : List RRset → SetKey → List Record → Bool
is_met_by sets key wanted = has_exactly (rrset_at sets key.owner key.record_type) wanted

abbrev pub is_group_met : List RRset → SetKey × Group → Bool
is_group_met sets group = is_met_by sets group.0 (records_of group.1)
