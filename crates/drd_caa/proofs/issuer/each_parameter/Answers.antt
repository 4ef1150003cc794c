use Rattle.drd_caa.proofs.Parameters.{ahead-more, ahead-end, ahead-none, cut_some, cut_end, cut_more}
use Rattle.drd_caa.proofs.issuer.each_parameter.Goals as goal

pub returns-in-Err-clause-refused : goal.returns-in-Err-clause-refused
returns-in-Err-clause-refused c =
    let some = cut_some c.parameters.rest.now c.cut.result.0.now c.cut.result.1 c.cut.ensures.front c.cut.ensures.parts in
    ahead-none c.args.octets.now c.parameters.parameters.items c.parameters.rest.now c.cut.result.0.now some.0 c.parameters.invariant some.1 c.in-Err.ensures.refused

pub returns-in_default-clause-ok : goal.returns-in_default-clause-ok
returns-in_default-clause-ok c =
    ahead-end c.args.octets.now c.parameters.parameters.items c.push.new.parameters.items c.parameters.rest.now c.cut.result.0.now c.in-Ok.one
    c.parameters.invariant c.in-Ok.ensures.ok
    (cut_end c.parameters.rest.now c.cut.result.0.now c.cut.ensures.front (rw c.in_default.is at c.cut.ensures.parts)) c.in-Ok-push.ensures.pushed

pub parameters-preserved : goal.parameters-preserved
parameters-preserved c =
    ahead-more c.args.octets.now c.parameters.parameters.items c.push.new.parameters.items c.parameters.rest.now c.cut.result.0.now c.in-Some.behind.now c.in-Ok.one
    c.parameters.invariant c.in-Ok.ensures.ok
    (cut_more c.parameters.rest.now c.cut.result.0.now c.in-Some.behind.now c.cut.ensures.front (rw c.in-Some.is at c.cut.ensures.parts)) c.in-Ok-push.ensures.pushed
