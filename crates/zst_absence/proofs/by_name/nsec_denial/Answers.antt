use Rattle.std.proofs.Common.{◌≡◌, ◌++◌}
use Rattle.std.specs.Prelude.{None, option_copied}
use Rattle.std.proofs.lemmas.Result.{IfOk-weaker}
use Rattle.zst_map.specs.zst_handler.Lookups.{listed}
use Rattle.zst_map.specs.zst_handler.Zones.{Zone}
use Rattle.zst_denial.specs.Denials.{IsNsecDenial, each_owner_once}
use Rattle.zst_denial.specs.Shown.{ShowsDenial}
use Rattle.zst_absence.specs.Absences.{IsZoneOf}
use Rattle.zst_absence.proofs.Denied.{nsec_denied}
use Rattle.zst_absence.proofs.by_name.nsec_denial.Goals as goal

pub returns : goal.returns
returns c =
    let own = option_copied c.in_ok-own.own in
    let wild = option_copied c.in_ok-star.star in
    let b = c.args.options.dnssec_ok in
    IfOk-weaker c.show.result (ShowsDenial (λ sets. sets ≡ each_owner_once (listed own ++ listed wild ++ listed None)) b)
    (λ found. (zone : Zone) → IsZoneOf c.args.sets.now c.args.origin.now zone → ShowsDenial (IsNsecDenial zone c.args.name.now) b found)
    (λ found shows. nsec_denied c.args.sets.now c.args.origin.now c.args.name.now own wild b found c.in_ok-own.ensures c.in_ok-star.ensures shows) c.show.ensures
