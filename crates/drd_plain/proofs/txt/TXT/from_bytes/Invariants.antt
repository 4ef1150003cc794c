use Rattle.std.proofs.Common.{◌≡◌, take, map}
use Rattle.drd_plain.proofs.txt.TXT.from_bytes.Given as goal

abbrev pub invariant-strings : goal.invariant-strings
invariant-strings l = map (λ s. s.items) l.strings.items ≡ map (λ s. s.now) (take l.string-index l.txt_data)
