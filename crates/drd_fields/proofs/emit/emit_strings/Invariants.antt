use Rattle.std.proofs.Common.{◌≡◌, ℕ, List, ◌++◌, length, map}
use Rattle.dnw_encoder.specs.Encoders.{state}
use Rattle.dnw_encoder.specs.Effects.{Writes}
use Rattle.drd_fields.specs.Fields.{strings}
use Rattle.drd_fields.specs.Writing.{EmitsField, EndsWithin}
use Rattle.drd_fields.proofs.emit.emit_strings.Given as goal

abbrev pub invariant-strings : goal.invariant-strings
invariant-strings l = record {
  same : l.encoder.buffer.ghost_name ≡ l.initial.encoder.buffer.ghost_name;
  writes : Writes (state l.initial.encoder) (state l.encoder);
  within : EndsWithin (state l.initial.encoder) (state l.encoder);
  front : (front : List (List ℕ)) × (map (λ s. s.items) l.initial.left ≡ front ++ map (λ s. s.items) l.left) × EmitsField (strings front) (state l.initial.encoder) (state l.encoder);
}

abbrev pub decreases-strings : goal.decreases-strings
decreases-strings l = length l.left
