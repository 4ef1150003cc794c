use Rattle.std.proofs.Common.{◌∙◌, ap, sym}
use Rattle.std.specs.Prelude.{option_copied}
use Rattle.zst_absence.proofs.Denied.{found_key, wanted_owned, wanted_unowned}
use Rattle.zst_absence.proofs.by_hash.is_wanted.Goals as goal

pub returns-in-Some : goal.returns-in-Some
returns-in-Some c =
    let query = c.args.query in
    let there = found_key c.args.sets.now c.in_ok-key.key query.name.now query.record_type (option_copied c.get.result) c.in_ok-key.ensures.key c.get.ensures in
    wanted_owned c.args.sets.now query.name.now query.record_type query.has_wildcard_match c.in-Some.field-0.now (there ∙ ap option_copied c.in-Some.is)

pub returns : goal.returns
returns c =
    let query = c.args.query in
    let there = found_key c.args.sets.now c.in_ok-key.key query.name.now query.record_type (option_copied c.get.result) c.in_ok-key.ensures.key c.get.ensures in
    wanted_unowned c.args.sets.now query.name.now query.record_type query.has_wildcard_match (there ∙ ap option_copied c.in-None.is)
