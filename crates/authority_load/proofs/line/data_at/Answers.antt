use Rattle.std.proofs.Common.{◌≡◌, true, false, sym, ◌∙◌}
use Rattle.zst_zone.specs.dnw_name.DomainName.{is_at_or_below}
use Rattle.zst_zone.proofs.LowerNames.{inside-keyed}
use Rattle.authority_load.proofs.Causes.{none_7, data_given}
use Rattle.authority_load.proofs.line.data_at.Goals as goal

pub returns-then-not-is_in_zone : goal.returns-then-not-is_in_zone
returns-then-not-is_in_zone c = λ line known.
    let outside : is_at_or_below c.args.header.now.name c.args.zone.now.origin ≡ false
    = sym (inside-keyed c.args.zone.now.origin c.args.key.now c.args.header.now.name c.requires) ∙ sym c.is_in_zone.ensures ∙ c.if-not-is_in_zone.true in
    ((c.args.header.now.name, known.owner, outside), none_7 c.args.zone.now line _ known)

pub returns : goal.returns
returns c = λ line known.
    let inside : is_at_or_below c.args.header.now.name c.args.zone.now.origin ≡ true
    = sym (inside-keyed c.args.zone.now.origin c.args.key.now c.args.header.now.name c.requires) ∙ sym c.is_in_zone.ensures ∙ c.if-not-is_in_zone.false in
    data_given c.args.zone.now line _ c.parse_rdata.result c.or_cause.result known inside c.parse_rdata.ensures.value c.parse_rdata.ensures.kind c.or_cause.ensures
