use Rattle.std.proofs.Common.{rules, ◌≡◌, ◌==◌, false, length, refl, sym, ◌∙◌}
use Rattle.std.specs.List.{position_or_len}
use Rattle.zsv_blocked.specs.ListText.{is_space}
use Rattle.zsv_blocked.proofs.TextLemmas.{none-passes}
use Rattle.zsv_blocked.proofs.text.name_text.Goals as goal

pub returns-else-is_empty : goal.returns-else-is_empty
returns-else-is_empty c =
    let gone : position_or_len is_space c.args.entry.now ≡ length c.args.entry.now = search rules in
    let some : (length c.args.entry.now == 0) ≡ false = sym c.is_empty.ensures ∙ c.if-is_empty.false in
    rw (none-passes is_space c.args.entry.now gone, some) refl
