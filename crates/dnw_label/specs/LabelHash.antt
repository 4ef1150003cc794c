-- What a label feeds a hasher.
use Rattle.std.specs.Prelude.{ℕ, List, [], ◌∷◌, ◌++◌, length}
use Rattle.std.specs.Hash as fed
use Rattle.std.specs.Hash.{HashWrites}
use Rattle.std.specs.Str.{str_to_ascii_lowercase}

-- The length, and the octets in lower case.
abbrev pub label_writes : List ℕ → HashWrites
label_writes label = fed.u8 (length label) ++ str_to_ascii_lowercase label ∷ []
