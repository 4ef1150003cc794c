use Rattle.std.proofs.Common.{◌≡◌, ◌∙◌, ap, refl, subst, sym}
use Rattle.std.specs.Prelude.{Bool, true, false, not, Ok, Err, is_some}
use Rattle.std.proofs.lemmas.Bool.{true≢false}
use Rattle.zst_map.specs.dnw_name.DomainName.{lowercase_name}
use Rattle.zst_map.specs.zst_handler.Lookups.{sets_of_name}
use Rattle.zst_map.specs.zst_handler.Zones.{Zone}
use Rattle.zst_request.specs.Applied.{all_applied}
use Rattle.zst_request.specs.zst_codes.declared.response_code.ResponseCode.TheVariants as codes
use Rattle.zsv_sqlite.specs.Guarded.{AppliesAll}
use Rattle.zsv_sqlite.proofs.Alike.{some_copied}
use Rattle.zsv_sqlite.proofs.Raised.{changes_raised, changes_refused, has_soa}
use Rattle.zsv_sqlite.proofs.Unchanged.{stays_as}
use Rattle.zsv_sqlite.proofs.changes.apply_changes.Goals as goal
use Rattle.zsv_sqlite.proofs.changes.apply_changes.Goals.{else-increment-via-then-increment+else-is_none, else-increment-via-else-increment}

pub apply_all-requires : goal.apply_all-requires
apply_all-requires c = (sets_of_name c.args.zone.now.sets, c.new-draft.ensures c.args.zone.now c.origin-before.ensures.ordered c.origin-before.ensures.stored)

pub returns-then-not-changed-clause-ok : goal.returns-then-not-changed-clause-ok
returns-then-not-changed-clause-ok c =
    let zone = c.args.zone.now in
    let begun = c.new-draft.ensures zone c.origin-before.ensures.ordered c.origin-before.ensures.stored in
    stays_as c.args.increment zone c.args.changes.items c.origin-before.ensures.ordered c.origin-before.ensures.stored
    (sym (c.in-Ok.ensures.changed (sets_of_name zone.sets) begun) ∙ c.if-not-changed.true)

pub returns-then-is_none-clause-ok : goal.returns-then-is_none-clause-ok
returns-then-is_none-clause-ok c =
    let zone = c.args.zone.now in
    let begun = c.new-draft.ensures zone c.origin-before.ensures.ordered c.origin-before.ensures.stored in
    subst (λ (b : Bool). AppliesAll b zone c.args.changes.items (Err codes.ServFail) zone) (sym c.if-increment.true)
    (changes_refused zone c.args.changes.items
    (sym (c.in-Ok.ensures.changed (sets_of_name zone.sets) begun) ∙ c.if-not-changed.false)
    (sym (ap is_some c.apex.ensures) ∙ some_copied c.apex.result ∙ c.is_none.ensures ∙ ap not c.if-is_none.true))

pub commit-requires : goal.commit-requires
commit-requires c =
    let zone = c.args.zone.now in
    let begun = c.new-draft.ensures zone c.origin-before.ensures.ordered c.origin-before.ensures.stored in
    (all_applied zone.origin (sets_of_name zone.sets) c.args.changes.items, c.in-Ok.ensures.applied (sets_of_name zone.sets) begun)

pub returns-then-not-increment-clause-ok : goal.returns-then-not-increment-clause-ok
returns-then-not-increment-clause-ok c =
    let zone = c.args.zone.now in
    let begun = c.new-draft.ensures zone c.origin-before.ensures.ordered c.origin-before.ensures.stored in
    let leaves = c.in_ok-commit.ensures.ok (all_applied zone.origin (sets_of_name zone.sets) c.args.changes.items) (c.in-Ok.ensures.applied (sets_of_name zone.sets) begun) in
    subst (λ (b : Bool). AppliesAll b zone c.args.changes.items (Ok false) c.commit.new.zone) (sym c.if-not-increment.true) (refl, leaves)

pub raise_serial-requires : goal.raise_serial-requires
raise_serial-requires c =
    let zone = c.args.zone.now in
    let begun = c.new-draft.ensures zone c.origin-before.ensures.ordered c.origin-before.ensures.stored in
    let leaves = c.in_ok-commit.ensures.ok (all_applied zone.origin (sets_of_name zone.sets) c.args.changes.items) (c.in-Ok.ensures.applied (sets_of_name zone.sets) begun) in
    c.in-Ok-of.ensures.key ∙ ap lowercase_name (c.origin.ensures.value ∙ sym (ap (λ (z : Zone). z.origin) leaves.rest))

pub returns-clause-ok : goal.returns-clause-ok
returns-clause-ok c =
    let zone = c.args.zone.now in
    let begun = c.new-draft.ensures zone c.origin-before.ensures.ordered c.origin-before.ensures.stored in
    let leaves = c.in_ok-commit.ensures.ok (all_applied zone.origin (sets_of_name zone.sets) c.args.changes.items) (c.in-Ok.ensures.applied (sets_of_name zone.sets) begun) in
    let soa : has_soa zone ≡ true = elim c.else-increment.branch [
      | else-increment-via-then-increment+else-is_none w ↦ sym (ap is_some w.apex.ensures) ∙ some_copied w.apex.result ∙ w.is_none.ensures ∙ ap not w.if-is_none.false
      | else-increment-via-else-increment w ↦ absurd (true≢false (sym c.if-not-increment.false ∙ w.if-increment.false))
    ] in
    subst (λ (b : Bool). AppliesAll b zone c.args.changes.items (Ok true) c.raise_serial.new.zone) (sym c.if-not-increment.false)
    (changes_raised zone c.commit.new.zone c.raise_serial.new.zone c.args.changes.items
    (sym (c.in-Ok.ensures.changed (sets_of_name zone.sets) begun) ∙ c.if-not-changed.false) soa leaves c.raise_serial.ensures)
