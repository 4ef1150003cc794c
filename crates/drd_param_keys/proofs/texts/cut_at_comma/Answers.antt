use Rattle.std.proofs.Common.{◌∙◌, ap, arith}
use Rattle.std.specs.List.{slice_split}
use Rattle.std.proofs.lemmas.Str.Pattern.{split_parts}
use Rattle.drd_param_keys.specs.ListTexts.{is_comma}
use Rattle.drd_param_keys.proofs.Commas.{one-part, more-parts}
use Rattle.drd_param_keys.proofs.texts.cut_at_comma.Goals as goal

pub returns-in-Some : goal.returns-in-Some
returns-in-Some c =
    let parts = split_parts 44 c.args.text.now c.split_once.result c.split_once.ensures.cases (omega arith) in
    let found = rw c.in-Some.is at parts in
    ap (slice_split is_comma) found.0 ∙ more-parts c.in-Some.front.now c.in-Some.behind.now found.1

pub returns-in-None : goal.returns-in-None
returns-in-None c =
    let parts = split_parts 44 c.args.text.now c.split_once.result c.split_once.ensures.cases (omega arith) in
    one-part c.args.text.now (rw c.in-None.is at parts)
