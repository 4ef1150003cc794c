use Rattle.std.proofs.Common.{rules, ◌≡◌, length, refl}
use Rattle.std.specs.List.{position_or_len}
use Rattle.zsv_blocked.specs.ListText.{is_comment_sign}
use Rattle.zsv_blocked.proofs.TextLemmas.{none-passes}
use Rattle.zsv_blocked.proofs.text.entry_of.Goals as goal

pub returns-in-None : goal.returns-in-None
returns-in-None c =
    let gone : position_or_len is_comment_sign c.args.line.now ≡ length c.args.line.now = search rules in
    rw (none-passes is_comment_sign c.args.line.now gone) refl
