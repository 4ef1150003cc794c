use Rattle.std.proofs.Common.{[]}
use Rattle.drd_caa.proofs.Parameters.{parts_of, cut_some, cut_end, cut_more}
use Rattle.drd_caa.proofs.Issuers.{no_issuer, no_parameters, is_value_of}
use Rattle.drd_caa.proofs.issuer.issue_of.Goals as goal

pub returns-in-Err-clause-refused : goal.returns-in-Err-clause-refused
returns-in-Err-clause-refused c =
    let some = cut_some c.args.octets.now c.cut.result.0.now c.cut.result.1 c.cut.ensures.front c.cut.ensures.parts in
    no_issuer c.args.octets.now c.cut.result.0.now some.0 some.1 c.in-Err.ensures.refused

pub returns-in-Ok-parameters_of-clause-ok : goal.returns-in-Ok-parameters_of-clause-ok
returns-in-Ok-parameters_of-clause-ok c =
    is_value_of c.args.octets.now c.cut.result.0.now (parts_of c.in-Some.parameters.now) c.in-Ok.issuer c.in-Ok-parameters_of.parameters.items
    (cut_more c.args.octets.now c.cut.result.0.now c.in-Some.parameters.now c.cut.ensures.front (rw c.in-Some.is at c.cut.ensures.parts))
    c.in-Ok.ensures.ok c.in-Ok-parameters_of.ensures.ok

pub returns-in-Err-parameters_of-clause-refused : goal.returns-in-Err-parameters_of-clause-refused
returns-in-Err-parameters_of-clause-refused c =
    no_parameters c.args.octets.now c.cut.result.0.now (parts_of c.in-Some.parameters.now)
    (cut_more c.args.octets.now c.cut.result.0.now c.in-Some.parameters.now c.cut.ensures.front (rw c.in-Some.is at c.cut.ensures.parts))
    c.in-Err-parameters_of.ensures.refused

pub returns-in-None-clause-ok : goal.returns-in-None-clause-ok
returns-in-None-clause-ok c =
    is_value_of c.args.octets.now c.cut.result.0.now [] c.in-Ok.issuer c.new.result.items
    (cut_end c.args.octets.now c.cut.result.0.now c.cut.ensures.front (rw c.in-None.is at c.cut.ensures.parts))
    c.in-Ok.ensures.ok c.new.ensures.items
