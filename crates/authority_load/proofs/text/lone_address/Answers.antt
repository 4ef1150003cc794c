use Rattle.std.proofs.Common.{◌≡◌, ◌∙◌, sym, subst, ℕ, List, []}
use Rattle.std.specs.Net.Grammar.{IsIpv4Text}
use Rattle.authority_load.specs.ZoneText.{words_of}
use Rattle.authority_load.proofs.LoneWords.{both-ones}
use Rattle.authority_load.proofs.text.lone_address.Goals as goal

pub returns-in-Err : goal.returns-in-Err
returns-in-Err c = λ word address only is.
    let same : c.in_ok-word.word.now ≡ word = (both-ones c.in_ok-word.word.now word (words_of c.in_ok-word.behind.now) [] (sym c.in_ok-word.ensures.0 ∙ only)).0 in
    c.in-Err.ensures.value address (subst (λ (text : List ℕ). IsIpv4Text text address) (sym same) is)
