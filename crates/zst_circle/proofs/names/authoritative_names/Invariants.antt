use Rattle.zst_circle.proofs.Authoritative.{Listing}
use Rattle.zst_circle.proofs.names.authoritative_names.Given as goal

abbrev pub invariant-owners : goal.invariant-owners
invariant-owners l = Listing l.sets l.origin l.key-iterator l.names.items
