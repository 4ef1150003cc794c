use Rattle.std.proofs.Common.{◌≡◌, take}
use Rattle.std.specs.List.{slice_range}
use Rattle.dnw_encoder.specs.Members.{In}
use Rattle.dnw_encoder.specs.declared.candidates.Entry.{Entry}
use Rattle.dnw_encoder.proofs.candidates.place_of.Given as goal

abbrev pub invariant-entries : goal.invariant-entries
invariant-entries l =
    (e : Entry) → In e (take l.entry-index l.entries) → slice_range l.octets e.from e.to ≡ l.wanted → ⊥
