-- The outcome of an update, as the server holds it.
use Rattle.std.specs.Prelude.{◌≡◌, ℕ, true, false, List, [], ◌∷◌, Option, Some, None, is_ok, option_map}
use Rattle.zsv_chains.specs.Chains.{Answer, UpdatesChain}
use Rattle.zsv_chains.specs.zst_request.Requested.{context_of}
use Rattle.zsv_chains.specs.zst_request.Updating.{Asked}
use Rattle.zsv_chains.specs.zst_request.Views.{View, zone_type_of}
use Rattle.zsv_chains.specs.zst_request.dnw_name.DomainName.{DomainName}
use Rattle.zsv_chains.specs.zst_request.zst_codes.declared.response_code.ResponseCode.TheVariants as responses
use Rattle.zsv_chains.specs.zst_request.zst_codes.declared.settings.ZoneType.{ZoneType}
use Rattle.zsv_reply.specs.Writing.{bare_parts, reply_metadata}
use Rattle.zsv_reply.specs.zsv_message.zsv_parts.declared.header.Metadata.{Metadata}
use Rattle.zsv_update.specs.Updates.{Given, outcome_code, outcome_metadata}
use Rattle.zsv_update.specs.declared.decide.Decided.{Decided}

abbrev pub given_of : Decided → List (DomainName × List View) → Given
given_of decided chains = record {
  plain = bare_parts decided.metadata;
  context = option_map context_of decided.context;
  chains = chains;
}

-- The kind of the zone of the first handler of a chain.
abbrev pub first_zone_type : List View → Option ZoneType
first_zone_type [] = None
first_zone_type (view ∷ views) = Some (zone_type_of view)

-- The outcome by the answer of a first handler, if there is one.
abbrev pub IsOutcome : Metadata → Option Answer → Decided → Type 0
IsOutcome m None decided =
    (decided.metadata ≡ reply_metadata m false responses.ServFail) × (decided.context ≡ None)
    × (decided.applied ≡ false)
IsOutcome m (Some answer) decided =
    (decided.metadata ≡ outcome_metadata m (outcome_code answer.0))
    × (option_map context_of decided.context ≡ answer.1) × (decided.applied ≡ is_ok answer.0)

-- The first handler of the chain under a name was asked.
abbrev pub DecidesFirst : Metadata → List (DomainName × List View) → DomainName → Asked → ℕ
    → Decided → List (DomainName × List View) → Type 0
DecidesFirst m chains zone asked moment decided new =
    (answer : Option Answer) × UpdatesChain chains zone asked moment answer new
    × IsOutcome m answer decided

-- An accepted update is answered NoError; one that isn't accepted changes nothing.
pub record IsApplied (old : List (DomainName × List View)) (decided : Decided)
    (new : List (DomainName × List View)) : Type 0 where
  pub accepted : decided.applied ≡ true → decided.metadata.response_code ≡ responses.NoError
  pub unchanged : decided.applied ≡ false → new ≡ old
