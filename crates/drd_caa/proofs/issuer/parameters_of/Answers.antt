use Rattle.std.proofs.Common.{◌==◌, sym, ◌∙◌, ap, length, subst, List, ℕ}
use Rattle.std.proofs.lemmas.Bool.{both_ways, eqb-true}
use Rattle.drd_words.specs.dnw_codes.ProtoError.{IsMemory}
use Rattle.drd_caa.specs.Issue.{Parameter, AreParameters}
use Rattle.drd_caa.proofs.Parameters.{parts_of, ok_parameters, refused_parameters, blanks_alone, no_octets}
use Rattle.drd_caa.proofs.issuer.parameters_of.Goals as goal

pub returns-then-is_empty-clause-ok : goal.returns-then-is_empty-clause-ok
returns-then-is_empty-clause-ok c =
    let none = no_octets c.trimmed.result.now (eqb-true (length c.trimmed.result.now) 0 (sym c.is_empty.ensures ∙ c.if-is_empty.true)) in
    subst (λ (ps : List Parameter). AreParameters (parts_of c.args.octets.now) ps) (sym c.new.ensures.items)
    (blanks_alone c.args.octets.now (sym c.trimmed.ensures ∙ none))

pub returns-clause-ok : goal.returns-clause-ok
returns-clause-ok c = ok_parameters (λ v. v.items) c.args.octets.now c.each_parameter.result c.each_parameter.ensures.ok

pub returns-clause-refused : goal.returns-clause-refused
returns-clause-refused c =
    refused_parameters IsMemory c.args.octets.now c.each_parameter.result
    (λ e. both_ways (length c.trimmed.result.now == 0) (sym c.is_empty.ensures ∙ c.if-is_empty.false) (ap (λ (s : List ℕ). length s == 0) (c.trimmed.ensures ∙ e)))
    c.each_parameter.ensures.refused
