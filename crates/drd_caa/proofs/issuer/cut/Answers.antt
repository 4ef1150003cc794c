use Rattle.std.proofs.Common.{rules, arith, length, ◌∙◌, sym, ap, take_all}
use Rattle.drd_caa.proofs.Cuts.{lacks, none_before}
use Rattle.drd_caa.proofs.issuer.cut.Goals as goal

pub returns-in-Some-clause-front : goal.returns-in-Some-clause-front
returns-in-Some-clause-front c = none_before c.args.mark c.args.octets.now c.in-Some.place (search rules) (search rules)

pub returns-in-None-clause-front : goal.returns-in-None-clause-front
returns-in-None-clause-front c =
    let octets = c.args.octets.now in
    sym (ap (lacks c.args.mark) (take_all (length octets) octets (omega arith))) ∙ none_before c.args.mark octets (length octets) (omega arith) (search rules)
