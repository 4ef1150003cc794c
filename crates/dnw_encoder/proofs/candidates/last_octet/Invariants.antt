use Rattle.std.proofs.Common.{◌≤◌, take}
use Rattle.dnw_encoder.specs.Members.{In}
use Rattle.dnw_encoder.specs.declared.candidates.Entry.{Entry}
use Rattle.dnw_encoder.proofs.candidates.last_octet.Given as goal

abbrev pub invariant-entries : goal.invariant-entries
invariant-entries l = (e : Entry) → In e (take l.entry-index l.entries) → e.to ≤ l.last
