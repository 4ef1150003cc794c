use Rattle.std.proofs.Common.{◌∙◌, ap, sym, subst, ℕ, Some, None}
use Rattle.std.specs.Prelude.{Option}
use Rattle.zst_circle.specs.dnw_name.DomainName.{DomainName, lowercase_name}
use Rattle.zst_circle.specs.zst_record.RecordSets.{flattened_set}
use Rattle.zst_circle.specs.zst_handler.Chains.{first_target}
use Rattle.zst_circle.specs.zst_handler.Lookups.{behind_alias}
use Rattle.zst_circle.specs.zst_map.Searches.{match_set}
use Rattle.zst_zone.specs.Answering.{IsBehind}
use Rattle.zst_zone.proofs.Answered.{alias-alone, alias-beside}
use Rattle.zst_zone.proofs.Matches.{match-target}
use Rattle.zst_zone.proofs.lookup.alias_lookup.Goals as goal

pub returns-in_default : goal.returns-in_default
returns-in_default c =
    let behind = subst (λ (to : Option DomainName). IsBehind (behind_alias c.args.sets.now c.args.record_type to) None) (sym (match-target c.args.name.now c.args.alias))
    (rw c.in_default.is at c.in_ok-behind.ensures) in
    alias-alone c.args.options c.args.name.now c.args.alias c.in_ok-answer.field-0 c.in_ok-answer.ensures
    (behind_alias c.args.sets.now c.args.record_type (first_target (match_set c.args.name.now c.args.alias).records)) behind c.new.result c.new.ensures

pub returns : goal.returns
returns c =
    let behind = subst (λ (to : Option DomainName). IsBehind (behind_alias c.args.sets.now c.args.record_type to) (Some c.in-Some.behind.now)) (sym (match-target c.args.name.now c.args.alias))
    (rw c.in-Some.is at c.in_ok-behind.ensures) in
    alias-beside c.args.options c.args.name.now c.args.alias c.in_ok-answer-2.field-0 c.in_ok-answer-2.ensures
    (behind_alias c.args.sets.now c.args.record_type (first_target (match_set c.args.name.now c.args.alias).records)) c.in-Some.behind.now behind
    c.in_ok-flattened.flattened
    (c.in_ok-flattened.ensures ∙ ap (λ (owner : DomainName). flattened_set owner c.alias_ttl.result c.in-Some.behind.now) c.in_ok-owner.ensures
    ∙ ap (λ (ttl : ℕ). flattened_set (lowercase_name c.args.name.now) ttl c.in-Some.behind.now) c.alias_ttl.ensures)
    c.new-answers.result c.new-additionals.result c.new-answers.ensures c.new-additionals.ensures
