use Rattle.std.proofs.Common.{◌≡◌, ◌∙◌, ap, subst, IfOk, List, option_copied}
use Rattle.zst_circle.specs.zst_handler.Answers.{records_if, sets_shown}
use Rattle.zst_circle.specs.zst_handler.Lookups.{addresses}
use Rattle.zst_circle.specs.zst_record.RecordSets.{RRset}
use Rattle.zst_zone.proofs.Targets.{addresses-found}
use Rattle.zst_zone.proofs.additional.addresses_of.Goals as goal

pub returns : goal.returns
returns c =
    subst (λ (sets : List RRset). IfOk c.both.result (λ found. records_if found ≡ sets_shown c.args.options.dnssec_ok sets))
    (addresses-found c.args.sets.now c.in_ok-key.key c.in-Some.target.now c.in_ok-key.ensures.key (option_copied c.addresses.result.0) (option_copied c.addresses.result.1)
    c.addresses.ensures.first c.addresses.ensures.second ∙ ap (addresses c.args.sets.now) c.in-Some.ensures)
    c.both.ensures
