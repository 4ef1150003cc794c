use Rattle.std.proofs.Common.{◌∙◌, ◌++◌, ◌∷◌, [], ℕ, List, Vec, Global, map, arith, ap}
use Rattle.std.proofs.lemmas.List.{map-append}
use Rattle.drd_words.specs.Refusals.{RefusesString}
use Rattle.drd_words.specs.Word.{IsStringWord}
use Rattle.drd_words.proofs.EachWord.{each-step, each-refused, each-cause}
use Rattle.drd_plain.proofs.txt.StringWordsWords.from_words.Goals as goal

pub words-preserved : goal.words-preserved
words-preserved c =
    let octets : Vec ℕ Global → List ℕ = λ s. s.items in
    each-step IsStringWord (map octets c.words.strings.items) (map octets c.push.new.self.items) c.args.words.now c.words.word-index _ c.in-Ok.string
    (omega arith) c.words.invariant c.in-Ok.ensures.ok
    (ap (map octets) c.in-Ok-push.ensures.items ∙ map-append octets c.words.strings.items (c.into_bytes.result ∷ [])
    ∙ ap (λ (s : List ℕ). map octets c.words.strings.items ++ s ∷ []) c.into_bytes.ensures.octets)

pub returns-in-Err-clause-refused : goal.returns-in-Err-clause-refused
returns-in-Err-clause-refused c =
    each-refused IsStringWord (λ v. map (λ s. s.items) v.0.items) c.args.words.now c.words.word-index _
    (omega arith) c.in-Err.ensures.refused

pub returns-in-Err-clause-cause : goal.returns-in-Err-clause-cause
returns-in-Err-clause-cause c =
    each-cause IsStringWord RefusesString c.in-Err.refused (map (λ s. s.items) c.words.strings.items) c.args.words.now c.words.word-index _
    (omega arith) c.words.invariant c.in-Err.ensures.cause
