use Rattle.dnw_decoder.specs.Chains.{ends}
use Rattle.dnw_decoder.specs.Chains.{goes_on}
use Rattle.dnw_decoder.proofs.ChainLaws.{followed_more}
use Rattle.dnw_decoder.proofs.chains.last_pointer.Goals as goal

pub returns-then-end-gt0 : goal.returns-then-end-gt0
returns-then-end-gt0 c =
    c.pointers.invariant.before c.kept_of-end.result (goes_on c.pointers.invariant.pointer (rw c.kept_of-end.ensures (c.requires.kept c.pointers.place (rw c.kept_of-end.ensures at c.if-end-gt0.true))))

pub pointers-preserved : goal.pointers-preserved
pointers-preserved c =
    followed_more c.args.octets.now c.args.first c.pointers.last c.pointers.place c.in-Some.next c.pointers.invariant (rw c.in-Some.is at c.pointer_back.ensures)

pub returns-in-None : goal.returns-in-None
returns-in-None c = c.pointers.invariant.before c.pointers.last (ends c.pointers.invariant.pointer)
