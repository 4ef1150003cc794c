use Rattle.std.proofs.Common.{◌≡◌, ◌∙◌, ap, map, refl, sym, option_copied, true, false, not, true≢false}
use Rattle.std.specs.Prelude.{Bool, Option, None, Some, is_some}
use Rattle.std.specs.Borrow.{Bor}
use Rattle.std.proofs.lemmas.Result.{on_ok_weaker}
use Rattle.zst_circle.specs.zst_handler.Answers.{set_in}
use Rattle.zst_circle.specs.zst_record.RecordSets.{RRset}
use Rattle.zst_zone.specs.Seen.{seen_keys}
use Rattle.zst_zone.proofs.Targets.{left-new, left-seen, left-without}
use Rattle.zst_zone.proofs.additional.list_target.Goals as goal

none-copied : (o : Option (Bor RRset)) → is_some o ≡ false → None ≡ option_copied o
none-copied None e = refl
none-copied (Some set) e = absurd (true≢false e)

turned : (b c : Bool) → b ≡ not c → not b ≡ c
turned b true e = ap not e
turned b false e = ap not e

pub returns-then-is_none-2-clause-lists : goal.returns-then-is_none-2-clause-lists
returns-then-is_none-2-clause-lists c =
    left-without c.args.sets.now (seen_keys c.args.seen.now) (map set_in c.args.found.now.items) c.args.next.now c.in_ok-key.key c.in-Some.target.now c.in_ok-key.ensures.key c.in-Some.ensures
    (none-copied c.addresses.result.0 c.if-is_none.ensures ∙ c.addresses.ensures.first)
    (none-copied c.addresses.result.1 c.if-is_none-2.ensures ∙ c.addresses.ensures.second)

pub returns-then-not-branch-clause-lists : goal.returns-then-not-branch-clause-lists
returns-then-not-branch-clause-lists c =
    left-seen c.args.sets.now (seen_keys c.args.seen.now) (map set_in c.args.found.now.items) c.args.next.now c.in_ok-key.key c.in-Some.target.now c.in_ok-key.ensures.key c.in-Some.ensures
    (seen_keys c.insert.new.self) c.in_ok-insert.ensures.after
    (sym (turned c.in_ok-insert.field-0 _ c.in_ok-insert.ensures.new) ∙ ap not c.if-not-branch.true)

pub returns-clause-lists : goal.returns-clause-lists
returns-clause-lists c =
    on_ok_weaker c.push_set-2.result
    (λ second. left-new c.args.sets.now (seen_keys c.args.seen.now) (map set_in c.args.found.now.items) c.args.next.now c.in_ok-key.key c.in-Some.target.now c.in_ok-key.ensures.key c.in-Some.ensures
    (seen_keys c.insert.new.self) c.in_ok-insert.ensures.after
    (sym (turned c.in_ok-insert.field-0 _ c.in_ok-insert.ensures.new) ∙ ap not c.if-not-branch.false)
    (option_copied c.addresses.result.0) (option_copied c.addresses.result.1) c.addresses.ensures.first c.addresses.ensures.second
    (map set_in c.push_set.new.found.items) (map set_in c.push_set-2.new.found.items) c.in_ok-push_set.ensures second)
    c.push_set-2.ensures
