use Rattle.std.proofs.Common.{◌≡◌, ◌∙◌, ◌++◌, [], ◌∷◌, map, ap, List}
use Rattle.zst_circle.specs.dnw_name.DomainName.{DomainName}
use Rattle.zst_circle.specs.zst_handler.declared.answer_set.AnswerSet.{AnswerSet}
use Rattle.zst_circle.specs.zst_handler.Answers.{set_in}
use Rattle.zst_circle.specs.zst_map.Searches.{match_set}
use Rattle.zst_zone.proofs.ChainLinks.{first-link, sets-more}
use Rattle.zst_zone.proofs.Matches.{match-leads}
use Rattle.zst_zone.proofs.chain.alias_chain.Goals as goal

pub returns : goal.returns
returns c =
    let set = match_set c.args.name.now c.args.first in
    let chain : map set_in c.push-2.new.values.items ≡ set ∷ []
    = sets-more c.in_ok-chain.chain.items c.push-2.new.values.items c.in_ok-answer.field-0 set c.in_ok-push-2.ensures.ok c.in_ok-answer.ensures
    ∙ ap (λ (xs : List AnswerSet). map set_in xs ++ set ∷ []) c.in_ok-chain.ensures.items in
    let keys : c.push.new.self.items ≡ c.in_ok-of.field-0 ∷ []
    = c.in_ok-push.ensures.items ∙ ap (λ (ks : List DomainName). ks ++ c.in_ok-of.field-0 ∷ []) c.in_ok-asked.ensures.items in
    c.in_ok-follow.ensures c.args.name.now
    (first-link c.args.sets.now c.args.name.now c.args.record_type c.in_ok-of.field-0 set c.args.target.now (map set_in c.push-2.new.values.items) c.push.new.self.items
    c.requires.found (match-leads c.args.record_type c.args.name.now c.args.first ∙ c.requires.leads) c.in_ok-of.ensures.key chain keys)
