-- Two roads to a zone: its text, and the transfer of the zone that the text gave.
use Rattle.std.specs.Prelude.{◌≡◌, ℕ, ◌<◌, Bool, true, false, List, length, Result, MatchResult}
use Rattle.zsv_message.specs.Messages.{IsMessage, Message}
use Rattle.authority_load.specs.Loaded.{IsLoaded}
use Rattle.authority_load.specs.zst_zone.zst_handler.Zones.{Zone}
use Rattle.authority_transfer.specs.Alike.{AnswersAlike, IsSameZone}
use Rattle.authority_load.specs.zst_zone.zst_request.Transfers.{transfer_of}
use Rattle.authority_transfer.specs.Transfers.{is_answer, is_signed}
use Rattle.authority_transfer.specs.declared.error.TransferError.{TransferError}
use Rattle.authority_transfer.specs.declared.error.TransferError.TheVariants as errors

-- Octets hold the transfer of a zone, whole: an unsigned reply, whose answers are the zone's
-- records.
pub record HandsOverAll (zone : Zone) (dnssec_ok : Bool) (octets : List ℕ) : Type 0 where
  pub message : Message
  pub there : IsMessage octets message
  pub reply : is_answer message.metadata ≡ true
  pub whole : message.metadata.truncation ≡ false
  pub unsigned : is_signed message ≡ false
  pub answers : message.answers ≡ transfer_of zone dnssec_ok
  pub some : 0 < length message.answers

-- Of the transfer of a loaded zone, given its origin and settings, the zone is made again: of the
-- same records, and it answers every question as that zone does. Only memory can be refused.
abbrev pub TwoRoads : {X : Type 0} → Zone → List ℕ → (X → Zone) → Result X TransferError → Type 0
TwoRoads empty octets zone_of result =
    (zone : Zone) (dnssec_ok : Bool) → IsLoaded zone → zone ≡ record empty { sets = zone.sets }
    → HandsOverAll zone dnssec_ok octets
    → MatchResult result (λ made. IsSameZone zone (zone_of made) × AnswersAlike zone (zone_of made))
    (λ e. e ≡ errors.OutOfMemory)
