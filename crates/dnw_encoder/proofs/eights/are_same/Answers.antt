use Rattle.std.proofs.Common.{◌-◌, ◌+◌, length, rules, arith}
use Rattle.std.proofs.lemmas.Bool.{eq-eqb, eqb-true}
use Rattle.dnw_encoder.proofs.EightLaws.{AreSmall, all_alike, eight_alike, words_same}
use Rattle.dnw_encoder.proofs.eights.are_same.Goals as goal

pub words-preserved : goal.words-preserved
words-preserved c =
    let m = c.words.invariant in
    let few : AreSmall c.args.octets.now = search rules in
    let less : AreSmall c.args.others.now = search rules in (
      m.0,
      m.1,
      omega (arith, c.words-test.true),
      eight_alike c.args.octets.now c.args.others.now c.words.at c.words.at c.word.result c.word-in-words.result (omega arith) (omega (arith, m.1, m.2, c.words-test.true)) (omega (arith, m.0, m.1, m.2, c.words-test.true))
          few less m.3 c.word.ensures c.word-in-words.ensures c.if-word.false,
    )

pub returns : goal.returns
returns c =
    let m = c.words.invariant in
    let few : AreSmall c.args.octets.now = search rules in
    let less : AreSmall c.args.others.now = search rules in
    let last = length c.args.octets.now - 8 in (
      λ test. all_alike c.args.octets.now c.args.others.now (last + 8) m.0 (omega (arith, m.1))
          (eight_alike c.args.octets.now c.args.others.now c.words.at last c.word-2.result c.word-3.result c.words-test.false (omega (arith, m.1)) (omega (arith, m.0, m.1))
          few less m.3 c.word-2.ensures c.word-3.ensures (eqb-true c.word-2.result c.word-3.result test)),
      λ same. eq-eqb c.word-2.result c.word-3.result (words_same c.args.octets.now c.args.others.now last c.word-2.result c.word-3.result c.word-2.ensures c.word-3.ensures same),
    )
