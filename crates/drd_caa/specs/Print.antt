-- Printed CAA data (RFC 8659 4.1.1).
use Rattle.std.specs.Prelude.{ℕ, List, [], ◌∷◌}
use Rattle.std.specs.Fmt.{decimal}
use Rattle.drd_words.specs.Print.{escaped_print, quotation, words_from}
use Rattle.drd_caa.specs.declared.caa.CAA.{CAA}
use Rattle.drd_caa.specs.Fields.{caa_flags}

-- The flags, the tag and the value.
abbrev pub caa_print : CAA → List ℕ
caa_print caa =
    words_from (decimal (caa_flags caa))
    (escaped_print caa.tag.items ∷ quotation caa.value.items ∷ [])
