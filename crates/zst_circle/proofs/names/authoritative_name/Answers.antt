use Rattle.std.proofs.Common.{◌∙◌, ap, sym}
use Rattle.std.specs.Prelude.{option_copied}
use Rattle.std.proofs.lemmas.Bool.{true≢false}
use Rattle.zst_absence.specs.dnw_name.DomainName.{lowercase_name}
use Rattle.zst_circle.proofs.Authoritative.{first_of, is_owner, no_owner, none_first, origin_below, owner_named}
use Rattle.zst_circle.proofs.names.authoritative_name.Goals.{then-not-is_at_or_below-via-then-not-is_at_or_below, then-not-is_at_or_below-via-else-not-is_at_or_below+in_ok-is_cut_off+then-branch}
use Rattle.zst_circle.proofs.names.authoritative_name.Goals as goal

pub returns-in_default-clause-is : goal.returns-in_default-clause-is
returns-in_default-clause-is c = λ zone at.
    no_owner c.args.sets.now c.args.origin.now c.args.key.now
    (sym c.sets_at.ensures ∙ none_first c.sets_at.result.now (sym c.first.ensures.value ∙ ap option_copied c.in_default.is)) zone at

pub returns-then-not-is_at_or_below-clause-is : goal.returns-then-not-is_at_or_below-clause-is
returns-then-not-is_at_or_below-clause-is c = λ zone at is. elim c.then-not-is_at_or_below.branch [
  | then-not-is_at_or_below-via-then-not-is_at_or_below w ↦
      true≢false (sym is.in_zone ∙ sym (origin_below c.args.sets.now c.args.origin.now zone at c.args.key.now) ∙ sym c.is_at_or_below.ensures ∙ w.if-not-is_at_or_below.true)
  | then-not-is_at_or_below-via-else-not-is_at_or_below+in_ok-is_cut_off+then-branch w ↦ is.uncut ((w.in_ok-is_cut_off.ensures zone at).0 w.if-branch.true)
]

pub returns-clause-is : goal.returns-clause-is
returns-clause-is c =
    let found = first_of c.sets_at.result.now c.in-Some.set.now (sym c.first.ensures.value ∙ ap option_copied c.in-Some.is) in
    is_owner c.args.sets.now c.args.origin.now c.args.key.now c.in-Some.set.now found.0 (sym c.sets_at.ensures ∙ found.1) (sym c.is_at_or_below.ensures ∙ c.if-not-is_at_or_below.false)
    (λ zone at cut. true≢false (sym ((c.in_ok-is_cut_off.ensures zone at).1 cut) ∙ c.if-branch.false))

pub returns-clause-named : goal.returns-clause-named
returns-clause-named c =
    let found = first_of c.sets_at.result.now c.in-Some.set.now (sym c.first.ensures.value ∙ ap option_copied c.in-Some.is) in
    owner_named c.args.sets.now c.args.key.now c.in-Some.set.now found.0 c.in_ok-to_lowercase.field-0 (sym c.sets_at.ensures ∙ found.1) (c.in_ok-to_lowercase.ensures ∙ ap lowercase_name c.name.ensures)
