use Rattle.std.proofs.Common.{subst, sym}
use Rattle.authority_load.specs.zst_zone.zst_handler.Zones.{Zone}
use Rattle.authority_transfer.specs.Alike.{AnswersAlike, IsSameZone}
use Rattle.authority_transfer.proofs.loader.load_transfer.Goals as goal

pub returns-in-Ok-clause-two_roads : goal.returns-in-Ok-clause-two_roads
returns-in-Ok-clause-two_roads g c = λ zone dnssec_ok loaded same sends.
    subst (λ (made : Zone). IsSameZone zone made × AnswersAlike zone made) (sym c.of.ensures.zone)
    (c.in-Ok.ensures.two_roads zone dnssec_ok loaded same sends)
