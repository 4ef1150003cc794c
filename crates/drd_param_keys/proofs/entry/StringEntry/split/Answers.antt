use Rattle.std.proofs.Common.{◌≡◌, ◌∷◌, inr, rules}
use Rattle.drd_param_keys.proofs.Strings.{no-text}
use Rattle.drd_param_keys.proofs.entry.StringEntry.split.Goals as goal

pub returns-in_default-from_utf8-clause-refused : goal.returns-in_default-from_utf8-clause-refused
returns-in_default-from_utf8-clause-refused c =
    let cut = c.in-Some-split_at_checked in
    let parts = cut.ensures.cases in
    let first : c.args.octets.now ≡ c.in-Some.len.now ∷ c.in-Some.behind.now = search rules in
    inr (no-text c.args.octets.now c.in-Some.len.now c.from.result c.in-Some.behind.now cut.text.now cut.behind.now first c.from.ensures parts.1 parts.2 parts.3 c.in_default-from_utf8.ensures.cases.0)
