use Rattle.std.proofs.Common.{refl, sym, ap, ◌∙◌}
use Rattle.authority_transfer.specs.Transfers.{but_last, is_framed}
use Rattle.authority_transfer.proofs.Frames.{but_pushed, framed_pushed}
use Rattle.authority_transfer.proofs.Given.{starts}
use Rattle.authority_transfer.proofs.reply.between.Goals as goal

pub returns-then-framed-clause-ok : goal.returns-then-framed-clause-ok
returns-then-framed-clause-ok c =
    let parts = c.in-Some.ensures.items in
    let framed = starts c.args.origin.now c.pop.new.self.items c.in-Some.last c.begins_with-framed.result _ _ c.deref.result.now c.begins_with-framed.ensures c.first.ensures.value c.deref.ensures.value c.if-framed.true in
    (ap (is_framed c.args.origin.now) parts ∙ sym (framed_pushed c.args.origin.now c.pop.new.self.items c.in-Some.last) ∙ framed, sym (ap but_last parts ∙ but_pushed c.pop.new.self.items c.in-Some.last))

pub returns-else-framed-clause-unframed : goal.returns-else-framed-clause-unframed
returns-else-framed-clause-unframed c =
    let parts = c.in-Some.ensures.items in
    let framed = starts c.args.origin.now c.pop.new.self.items c.in-Some.last c.begins_with-framed.result _ _ c.deref.result.now c.begins_with-framed.ensures c.first.ensures.value c.deref.ensures.value c.if-framed.false in
    (refl, ap (is_framed c.args.origin.now) parts ∙ sym (framed_pushed c.args.origin.now c.pop.new.self.items c.in-Some.last) ∙ framed)
