use Rattle.std.proofs.Common.{◌≡◌, ◌+◌, ◌≤◌, length, vec_len, vec_capacity}
use Rattle.authority_server.proofs.ServedRuns.{Served}
use Rattle.authority_server.specs.Servers.{AreUnguarded, world_of}
use Rattle.authority_server.specs.Serving.{WorldReadsBack}
use Rattle.authority_server.proofs.server.Authority.serve_all.Given as goal

abbrev pub invariant-loop-arrival : goal.invariant-loop-arrival
invariant-loop-arrival g l =
    record {
      served : Served (world_of g.S.TsigSuite.keys g.H.ZoneHandler.view l.initial.self) l.arrivals l.initial.answers.items l.answers.items l.arrival-index (world_of g.S.TsigSuite.keys g.H.ZoneHandler.view l.self);
      back : WorldReadsBack (world_of g.S.TsigSuite.keys g.H.ZoneHandler.view l.initial.self) → WorldReadsBack (world_of g.S.TsigSuite.keys g.H.ZoneHandler.view l.self);
      fixed : AreUnguarded (world_of g.S.TsigSuite.keys g.H.ZoneHandler.view l.initial.self).chains → world_of g.S.TsigSuite.keys g.H.ZoneHandler.view l.self ≡ world_of g.S.TsigSuite.keys g.H.ZoneHandler.view l.initial.self;
      room : vec_len l.answers + length l.arrivals ≤ vec_capacity l.answers + l.arrival-index;
    }
