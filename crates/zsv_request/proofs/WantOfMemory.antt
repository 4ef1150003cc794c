-- Memory may be wanted at every place.
use Rattle.std.specs.Prelude.{ℕ, List, [], length, None}
use Rattle.std.proofs.Common.{inl}
use Rattle.zsv_message.specs.zst_record.dnw_codes.declared.error.DecodeError.TheVariants.{Memory}
use Rattle.zsv_message.specs.zsv_parts.dnw_decoder.Refusals.{at_start}
use Rattle.zsv_message.specs.zsv_parts.Questions.{RefusesQuestion}

pub want_refuses : (message : List ℕ) (place : ℕ) → RefusesQuestion message place Memory
want_refuses message place = inl (record {
  found = [];
  segment = place;
  bound = length message;
  place = place;
  resume = None;
  reached = at_start;
  cause = tt;
})
