use Rattle.std.proofs.Common.{◌≡◌}
use Rattle.authority_server.specs.Faults.{no_faults}
use Rattle.authority_server.specs.Servers.{AreUnguarded, world_of}
use Rattle.authority_server.specs.Serving.{WorldReadsBack}
use Rattle.authority_server.proofs.StreamRuns.{Counted}
use Rattle.authority_server.proofs.server.Authority.serve_stream_with.Given as goal

abbrev pub invariant-frames : goal.invariant-frames
invariant-frames g l =
    record {
      well : l.faults ≡ no_faults;
      back : WorldReadsBack (world_of g.S.TsigSuite.keys g.H.ZoneHandler.view l.initial.self) → WorldReadsBack (world_of g.S.TsigSuite.keys g.H.ZoneHandler.view l.self);
      fixed : AreUnguarded (world_of g.S.TsigSuite.keys g.H.ZoneHandler.view l.initial.self).chains → world_of g.S.TsigSuite.keys g.H.ZoneHandler.view l.self ≡ world_of g.S.TsigSuite.keys g.H.ZoneHandler.view l.initial.self;
      served : Counted (world_of g.S.TsigSuite.keys g.H.ZoneHandler.view l.initial.self) l.src l.now (g.R.Read.remaining l.initial.reader) (g.R.Read.remaining l.reader) (g.W.Write.contents l.initial.writer) (g.W.Write.contents l.writer) (world_of g.S.TsigSuite.keys g.H.ZoneHandler.view l.self) l.counter;
    }
