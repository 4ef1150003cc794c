use Rattle.std.proofs.Common.{◌≡◌, List, ℕ, length, sym, subst, arith}
use Rattle.std.proofs.lemmas.Bool.Decides.{nat_tests}
use Rattle.dnw_name.proofs.dnw_label_lemmas.EscapeLaws.{octet-shorter}
use Rattle.drd_words.proofs.Escaped.{SoFar, so_far-more, so_far-ends}
use Rattle.drd_words.proofs.escape.unescaped.Goals as goal

pub octets-preserved : goal.octets-preserved
octets-preserved c =
    subst (λ (octets : List ℕ). SoFar c.args.text.now octets c.in-Some.behind.now) (sym c.in-Ok-push.ensures.items)
    (so_far-more c.args.text.now c.octets.octets.items c.octets.rest.now c.in-Some.octet c.in-Some.behind.now c.octets.invariant c.in-Some.ensures)

pub returns-clause-ok : goal.returns-clause-ok
returns-clause-ok c =
    let none : length c.octets.rest.now ≡ 0 = grind (arith, nat_tests) in
    so_far-ends c.args.text.now c.octets.octets.items c.octets.rest.now c.octets.invariant none

pub octets-smaller : goal.octets-smaller
octets-smaller c = octet-shorter c.octets.rest.now c.in-Some.octet c.in-Some.behind.now c.in-Some.ensures
