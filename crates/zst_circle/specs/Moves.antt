-- Sets that move from one zone's sets to another's, each to where its placeholder is.
use Rattle.std.specs.Prelude.{◌≡◌, ◌&&◌, true, Bool, List, Option, Some, None, IsSome, find, option_map, if◌then◌else◌}
use Rattle.std.specs.List.{AllByRecursion}
use Rattle.zst_absence.specs.dnw_codes.declared.record_type.RecordType.{RecordType}
use Rattle.zst_absence.specs.dnw_codes.RecordType.{same_record_type}
use Rattle.zst_absence.specs.dnw_name.DomainName.{DomainName, name_eq}
use Rattle.zst_absence.specs.zst_handler.Zones.{rrset_at}
use Rattle.zst_absence.specs.zst_record.RecordSets.{RRset, is_signature_of, raised_set}
use Rattle.zst_circle.specs.declared.moves.Placeholder.{Placeholder}

abbrev pub is_placeholder_of : DomainName → RecordType → Placeholder → Bool
is_placeholder_of name record_type placeholder =
    name_eq name placeholder.key && same_record_type placeholder.record_type record_type

-- The first placeholder for the set of an owner and a type.
abbrev pub placeholder_of : List Placeholder → DomainName → RecordType → Option Placeholder
placeholder_of placeholders name record_type =
    find (is_placeholder_of name record_type) placeholders

-- There is a set to move, and one in whose place it comes. The signatures may be the set's.
pub record CanMove (old new : List RRset) (placeholder : Placeholder) : Type 0 where
  pub set : RRset
  pub stored : rrset_at old placeholder.key placeholder.record_type ≡ Some set
  pub placed : IsSome (rrset_at new placeholder.key placeholder.record_type)
  pub signed : AllByRecursion (λ r. is_signature_of set r ≡ true) placeholder.signatures.items

-- The set as it is then.
abbrev pub resigned : Placeholder → RRset → RRset
resigned placeholder set =
    record (if placeholder.rises then raised_set set else set) {
      signatures = placeholder.signatures.items;
    }

-- What is under an owner and a type then, by the set that was to move and the one that was there.
abbrev pub moved : Option Placeholder → Option RRset → Option RRset → Option RRset
moved None stored there = there
moved (Some placeholder) stored there = option_map (resigned placeholder) stored
