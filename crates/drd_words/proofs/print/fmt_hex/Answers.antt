use Rattle.std.proofs.Common.{◌∙◌, ℕ, List, ap, subst}
use Rattle.std.proofs.lemmas.List.{take_all}
use Rattle.std.specs.List.{flat_map}
use Rattle.std.specs.Fmt.{HasWritten}
use Rattle.drd_words.specs.Print.{hex_pair}
use Rattle.drd_words.proofs.Hex.{pairs_hex}
use Rattle.drd_words.proofs.print.fmt_hex.Goals as goal

pub returns : goal.returns
returns g c = λ plain done.
    subst (λ (t : List ℕ). HasWritten g.W.Write.write_str_gives c.args.f.now t c.octets.f)
    (ap (flat_map hex_pair) (take_all c.octets.octet-index c.args.octets.now c.octets-test.false) ∙ pairs_hex c.args.octets.now)
    (c.octets.invariant plain)
