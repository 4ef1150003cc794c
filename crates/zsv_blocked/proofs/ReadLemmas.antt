-- What a reader gave, part by part.
use Rattle.std.proofs.Common.{ℕ, List, ◌++◌, append_assoc, ap, sym, ◌∙◌}
use Rattle.std.specs.Prelude.{Option, Some, None}
use Rattle.std.specs.Io.KnownBytes.{Consumes}

pub consumes-more : (old mid new : Option (List ℕ)) (xs ys : List ℕ) → Consumes old mid xs → Consumes mid new ys → Consumes old new (xs ++ ys)
consumes-more None mid new xs ys first next = tt
consumes-more (Some os) None new xs ys first next = absurd first
consumes-more (Some os) (Some ms) None xs ys first next = absurd next
consumes-more (Some os) (Some ms) (Some ns) xs ys first next = first ∙ ap (λ zs. xs ++ zs) next ∙ sym (append_assoc xs ys ns)
