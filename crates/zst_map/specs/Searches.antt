-- How the sets of a zone are searched, from a name upwards.
use Rattle.std.specs.Prelude.{◌≡◌, List, Option, Some, None, if◌then◌else◌, option_map, option_copied}
use Rattle.std.specs.Option.{option_flatten}
use Rattle.std.specs.Borrow.{Bor}
use Rattle.zst_handler.specs.dnw_name.DomainName.{DomainName, lowercase_name}
use Rattle.zst_handler.specs.zst_record.RecordSets.{RRset, renamed}
use Rattle.zst_key.specs.Ancestors.{star}
use Rattle.zst_handler.specs.Found.{cut_at, found, here}
use Rattle.zst_handler.specs.Zones.{exists_in}
use Rattle.zst_handler.specs.dnw_codes.declared.record_type.RecordType.{RecordType}
use Rattle.zst_map.specs.declared.zone_sets.Match.{Match}
use Rattle.zst_map.specs.declared.zone_sets.Search.{Search}
use Rattle.zst_map.specs.declared.zone_sets.Search.TheVariants as searches
use Rattle.zst_map.specs.declared.zone_sets.Sought.{Sought}
use Rattle.zst_map.specs.declared.zone_sets.Sought.TheVariants as seeks

-- The set as it answers a name: a wildcard's stands under that name (RFC 4592, section 3.3.1).
abbrev pub match_set : DomainName → Match → RRset
match_set name found =
    if found.is_wildcard then renamed (lowercase_name name) found.set.now else found.set.now

-- What is found for a name and a type; where nothing is, whether the name exists.
abbrev pub IsSearch : List RRset → DomainName → RecordType → Search → Type 0
IsSearch sets name record_type (searches.Found match) =
    found sets name record_type ≡ Some (match_set name match)
IsSearch sets name record_type (searches.Absent exists) =
    (found sets name record_type ≡ None) × (exists ≡ exists_in sets name)

-- What is sought at a name, if it is there: a cut's name servers, or what the wildcard below the
-- name answers.
abbrev pub sought_in : List RRset → Sought → DomainName → Option (Option RRset)
sought_in sets seeks.Cut name = cut_at sets name
sought_in sets (seeks.Wildcard record_type) name =
    option_map (λ set. Some set) (here sets record_type (star name))

-- What was found, without the loan.
abbrev pub lent : Option (Option (Bor RRset)) → Option (Option RRset)
lent found = option_map (λ set. option_copied set) found

-- What was found, without the name at which it is.
abbrev pub looked_for : Option (DomainName × Option RRset) → Option RRset
looked_for found = option_flatten (option_map (λ at. at.1) found)
