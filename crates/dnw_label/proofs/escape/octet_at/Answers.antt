use Rattle.std.proofs.Common.{rules}
use Rattle.dnw_label.specs.LabelText.{plain}
use Rattle.dnw_label.proofs.EscapeLemmas.{behind_slash}
use Rattle.dnw_label.proofs.escape.octet_at.Goals as goal

pub returns-in_default : goal.returns-in_default
returns-in_default c =
    rw (c.in_ok-first.ensures.cases.0) (plain c.in_ok-first.first.now c.in_ok-first.rest.now (search rules))

pub returns-in-92 : goal.returns-in-92
returns-in-92 c =
    behind_slash (λ found. found.0) (λ found. found.1.now) c.escaped_octet.result c.in_ok-first.first.now c.in_ok-first.rest.now c.args.text.now c.in_ok-first.ensures.cases.0 c.in-92.is c.escaped_octet.ensures
