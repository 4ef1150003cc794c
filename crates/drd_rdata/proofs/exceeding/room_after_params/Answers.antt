use Rattle.std.proofs.Common.{◌≡◌, ◌+◌, ℕ, List, [], length, ap, rules}
use Rattle.drd_svcb.specs.drd_params.Params.{Param, param_octets, params_octets}
use Rattle.drd_rdata.proofs.RoomLaws.{leads_end, no_items}
use Rattle.drd_rdata.proofs.exceeding.room_after_params.Goals as goal

pub returns : goal.returns
returns c =
    leads_end c.args.room (length (params_octets c.args.params.now)) c.params.left (length (params_octets c.params.rest.now)) c.params.invariant
    (ap (λ (es : List Param). length (params_octets es)) (no_items c.params.rest.now c.in_default.ensures.cases))
