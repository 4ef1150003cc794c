use Rattle.std.proofs.Common.{◌∙◌, ap}
use Rattle.std.specs.Prelude.{None}
use Rattle.zst_circle.specs.dnw_name.DomainName.{lowercase_name}
use Rattle.zst_zone.proofs.LowerNames.{rrset-keyed}
use Rattle.zst_zone.proofs.Stored.{replaces_named}
use Rattle.zst_zone.proofs.handler.StoredZone.remove_set.Goals as goal

pub returns-clause-value : goal.returns-clause-value
returns-clause-value c =
    c.remove_at.ensures.value
    ∙ rrset-keyed c.args.self.now.sets c.in_ok-key.key c.args.at.now.name c.args.at.now.record_type (c.in_ok-key.ensures.key ∙ ap lowercase_name c.deref.ensures)

pub returns-clause-ok : goal.returns-clause-ok
returns-clause-ok c = record {
  replaces = replaces_named c.args.self.now.sets c.remove_at.new.self.sets c.in_ok-key.key c.args.at.now.name c.args.at.now.record_type None (c.in_ok-key.ensures.key ∙ ap lowercase_name c.deref.ensures) c.remove_at.ensures.set.replaces;
  ordered = c.remove_at.ensures.set.ordered;
  rest = c.remove_at.ensures.set.rest;
}
