use Rattle.std.proofs.Common.{take, map}
use Rattle.std.specs.List.{flat_map}
use Rattle.std.specs.Fmt.{HasWritten, IsPlainFormatter}
use Rattle.drd_words.specs.Print.{escaped_print}
use Rattle.drd_plain.proofs.txt.TXTDisplay.fmt.Given as goal

abbrev pub invariant-strings : goal.invariant-strings
invariant-strings g l =
    IsPlainFormatter l.initial.f → HasWritten g.W.Write.write_str_gives l.initial.f (flat_map escaped_print (map (λ s. s.items) (take l.string-index l.self.txt_data.items))) l.f
