-- How a handler shows the sets of a denial: record by record, and nothing beside them.
use Rattle.std.specs.Prelude.{◌≡◌, Bool, List, []}
use Rattle.zst_handler.specs.Answers.{additionals_in, answers_in, authorities_in, sets_shown}
use Rattle.zst_handler.specs.declared.auth_lookup.AuthLookup.{AuthLookup}
use Rattle.zst_handler.specs.zst_record.RecordSets.{RRset}

abbrev pub ShowsDenial : (List RRset → Type 0) → Bool → AuthLookup → Type 0
ShowsDenial Are dnssec_ok found =
    (sets : List RRset) × Are sets × (answers_in found ≡ sets_shown dnssec_ok sets)
    × (additionals_in found ≡ []) × (authorities_in found ≡ [])
