use Rattle.std.proofs.lemmas.List.Elements.{All-map}
use Rattle.drd_fields.specs.Readable.{IsShort}
use Rattle.drd_fields.proofs.ReadableLaws.{each_short}
use Rattle.drd_fields.proofs.readable.stands_alone.Goals as goal

pub returns-in-Strings : goal.returns-in-Strings
returns-in-Strings c =
    let ss = c.in-Strings.strings.now in
    rw c.in-Strings.is (λ yes. All-map IsShort (λ s. s.items) ss (c.are_short.ensures.0 yes), λ alone. c.are_short.ensures.1 (each_short ss alone))
