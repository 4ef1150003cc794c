use Rattle.std.proofs.Common.{◌≡◌, ◌∷◌, ◌++◌, [], arith}
use Rattle.std.proofs.lemmas.Grind.{common_steps}
use Rattle.dnw_label.proofs.EscapeLaws.{octet-shorter}
use Rattle.dnw_label.proofs.LabelTextLemmas.{dot_free, so_far-more, so_far-run, so_far-whole}
use Rattle.dnw_label.proofs.label_text.label_octets.Goals as goal

pub octets-init : goal.octets-init
octets-init c =
    rw (c.in-Ok.ensures.ok, c.split_at.ensures.front, c.split_at.ensures.back) (so_far-run c.args.text.now c.plain_len.result c.plain_len.ensures.plain)

pub octets-preserved : goal.octets-preserved
octets-preserved c =
    let more : c.push.new.self.items ≡ c.octets.octets.items ++ c.in-Some.octet ∷ [] = grind (arith, common_steps) in
    rw more (so_far-more c.args.text.now c.octets.octets.items c.octets.rest.now c.in-Some.octet c.in-Some.behind.now c.octets.invariant (dot_free c.octets.rest.now c.octets-test.ensures) c.in-Some.ensures)

pub returns-clause-ok : goal.returns-clause-ok
returns-clause-ok c = so_far-whole c.args.text.now c.octets.octets.items c.octets.rest.now c.octets.invariant c.octets-test.ensures

pub octets-smaller : goal.octets-smaller
octets-smaller c = octet-shorter c.octets.rest.now c.in-Some.octet c.in-Some.behind.now c.in-Some.ensures
