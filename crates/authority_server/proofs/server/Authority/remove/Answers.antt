use Rattle.std.proofs.Common.{◌≡◌, ◌∙◌, ap, sym}
use Rattle.std.specs.Prelude.{option_map}
use Rattle.zsv_catalog.proofs.Chained.{at_views, views}
use Rattle.zsv_catalog.specs.zsv_answer.zst_request.dnw_name.DomainName.{lowercase_name}
use Rattle.authority_server.proofs.Zones.{taken_back, taken_out}
use Rattle.authority_server.proofs.server.Authority.remove.Goals as goal

pub returns-clause-after : goal.returns-clause-after
returns-clause-after g c =
    taken_out g.H.ZoneHandler.view c.args.self.now.access _ _ _ _ _ _ c.args.name.now (ap g.S.TsigSuite.keys c.remove.ensures.suite) c.remove.ensures.nsid c.remove.ensures.after

pub returns-clause-back : goal.returns-clause-back
returns-clause-back g c = taken_back _ _ c.args.name.now (returns-clause-after g c)

pub returns-clause-views : goal.returns-clause-views
returns-clause-views g c =
    let view = g.H.ZoneHandler.view in
    at_views view c.args.self.now.catalog.chains.chains (lowercase_name c.args.name.now) ∙ ap (option_map (views view)) (sym c.remove.ensures.value)
