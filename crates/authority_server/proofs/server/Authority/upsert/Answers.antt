use Rattle.std.proofs.Common.{ap, rules}
use Rattle.std.proofs.lemmas.Result.{on_ok_weaker}
use Rattle.authority_server.proofs.Zones.{put_back, put_in}
use Rattle.authority_server.proofs.server.Authority.upsert.Goals as goal

pub returns-clause-ok : goal.returns-clause-ok
returns-clause-ok g c =
    on_ok_weaker c.upsert.result (put_in g.H.ZoneHandler.view c.args.self.now.access _ _ _ _ _ _ c.args.name.now c.args.handlers (ap g.S.TsigSuite.keys c.upsert.ensures.suite) c.upsert.ensures.nsid) c.upsert.ensures.ok

pub returns-clause-back : goal.returns-clause-back
returns-clause-back g c = put_back c.upsert.result _ _ c.args.name.now _ (returns-clause-ok g c) (search rules) c.requires
