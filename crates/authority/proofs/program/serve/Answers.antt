use Rattle.std.proofs.Common.{◌≡◌, ap, refl, inr, option_copied, subst, sym}
use Rattle.std.specs.Prelude.{ℕ, List, Option, None}
use Rattle.std.specs.declared.net.SocketAddr.{SocketAddr}
use Rattle.authority_transfer.specs.authority_load.zst_zone.zst_handler.Zones.{Zone}
use Rattle.authority_server.specs.Servers.{AreUnguarded}
use Rattle.authority_server.specs.Serving.{World}
use Rattle.authority_server.specs.declared.stream.StreamError.{StreamError}
use Rattle.authority_server.specs.Frames.{ServesFrames, ServesUntil}
use Rattle.authority.specs.Programs.{one_zone}
use Rattle.authority.proofs.program.serve.Goals as goal

-- Its one zone takes no updates.
unguarded : {world : World} (zone : Zone) → zone.guard ≡ None → world ≡ one_zone zone → AreUnguarded world.chains
unguarded zone none is = subst (λ (w : World). AreUnguarded w.chains) (sym is) ((none, tt), tt)

over_same : {old new first : World} {source : SocketAddr} {moment : ℕ} {left rest before after : Option (List ℕ)} → old ≡ first → new ≡ old → ServesFrames old source moment left rest before after new → ServesFrames first source moment left rest before after first
over_same is same frames =
    let kept = rw same at frames in
    rw is at kept

pub returns-in-Ok : goal.returns-in-Ok
returns-in-Ok g c = record {
  starts = record {
    origin = c.in_ok-command.command.origin;
    now = c.in_ok-command.command.now;
    text = c.in-Some.text.now;
    zone = c.in_ok-zone.zone.zone;
    right_words = c.in_ok-command.ensures;
    readable = ap option_copied c.in-Some.is;
    loaded = c.in_ok-zone.ensures.text.0;
    reads_back = (c.in_ok-server.ensures.stored, c.in_ok-zone.ensures.reads_back);
  };
  source = _;
  from_here = c.loopback.ensures;
  frames = over_same c.in_ok-server.ensures.server (c.in-Ok.ensures.fixed (unguarded c.in_ok-zone.zone.zone c.in_ok-zone.ensures.unguarded c.in_ok-server.ensures.server)) c.in-Ok.ensures.served;
  ended = c.in-Ok.ensures.ended;
}

until_same : {old new first : World} {source : SocketAddr} {moment : ℕ} {left rest before after : Option (List ℕ)} {fault : StreamError} → old ≡ first → new ≡ old → ServesUntil old source moment left rest before after new fault → ServesUntil first source moment left rest before after first fault
until_same is same frames =
    let kept = rw same at frames in
    rw is at kept

pub returns : goal.returns
returns g c = inr (
  c.in-Err.fault,
  refl,
  record {
    starts = record {
      origin = c.in_ok-command.command.origin;
      now = c.in_ok-command.command.now;
      text = c.in-Some.text.now;
      zone = c.in_ok-zone.zone.zone;
      right_words = c.in_ok-command.ensures;
      readable = ap option_copied c.in-Some.is;
      loaded = c.in_ok-zone.ensures.text.0;
      reads_back = (c.in_ok-server.ensures.stored, c.in_ok-zone.ensures.reads_back);
    };
    source = _;
    from_here = c.loopback.ensures;
    frames = until_same c.in_ok-server.ensures.server (c.in-Err.ensures.fixed (unguarded c.in_ok-zone.zone.zone c.in_ok-zone.ensures.unguarded c.in_ok-server.ensures.server)) (rw c.in-Err.is at c.serve_stream.ensures.left);
  },
)
