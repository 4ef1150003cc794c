use Rattle.dnw_encoder.proofs.LongestLaws.{Barred, Searched}
use Rattle.dnw_encoder.proofs.candidates.longest_of.Given as goal

abbrev pub invariant-entries : goal.invariant-entries
invariant-entries l =
    Searched l.octets l.entries l.entry-index l.name.labels l.front l.longest × Barred l.octets l.name.labels l.to l.clash
