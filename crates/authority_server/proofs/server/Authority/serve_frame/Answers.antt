use Rattle.std.proofs.Common.{Vec, Global, subst}
use Rattle.std.proofs.lemmas.Result.{on_ok_weaker}
use Rattle.std.specs.Io.KnownBytes.{Appends}
use Rattle.std.specs.Prelude.{ℕ, List, Option, Some}
use Rattle.authority_server.specs.Frames.{frame_of, stream_message}
use Rattle.authority_server.specs.Runs.{octets_of}
use Rattle.authority_server.specs.Servers.{world_of}
use Rattle.authority_server.specs.Serving.{Serves}
use Rattle.authority_server.proofs.server.Authority.serve_frame.Goals as goal

pub returns-in-Ok-Some-clause-served : goal.returns-in-Ok-Some-clause-served
returns-in-Ok-Some-clause-served g c =
    let before = world_of g.S.TsigSuite.keys g.H.ZoneHandler.view c.args.self.now in
    let after = world_of g.S.TsigSuite.keys g.H.ZoneHandler.view c.serve.new.self in
    let received = stream_message c.args.src c.args.now c.args.message.now in
    let served = subst (λ (answer : Option (Vec ℕ Global)). Serves before received (octets_of answer) after) c.in-Ok-Some.field-0-is c.in-Ok-Some.ensures.served in
    on_ok_weaker c.write_frame.result (λ written. (
      Some c.in-Ok-Some.reply.items,
      served,
      subst (λ (octets : List ℕ). Appends (g.W.Write.contents c.args.writer.now) (g.W.Write.contents c.write_frame.new.writer) (frame_of octets)) c.deref.ensures.value written,
    )) c.write_frame.ensures.written
