use Rattle.std.proofs.Common.{◌≡◌, ◌∷◌, ◌++◌, map}
use Rattle.std.specs.List.{flat_map}
use Rattle.std.specs.Fmt.{HasWritten, IsPlainFormatter}
use Rattle.dnw_wire.specs.dnw_codes.RecordType.{record_type_of, record_type_text}
use Rattle.drd_csync.proofs.types.fmt_types.Given as goal

abbrev pub invariant-types : goal.invariant-types
invariant-types g l =
    (map record_type_of l.types ≡ l.yielded ++ map record_type_of l.record_type-iterator)
    × (IsPlainFormatter l.initial.f → HasWritten g.W.Write.write_str_gives l.initial.f (flat_map (λ t. 32 ∷ record_type_text t) l.yielded) l.f)
