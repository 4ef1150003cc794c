use Rattle.std.proofs.Common.{◌≡◌, ◌+◌, ℕ, List, [], length, ap, rules}
use Rattle.drd_types.specs.drd_opt.Entries.{Entry, entries_octets, raw_octets, raw_of}
use Rattle.drd_rdata.proofs.RoomLaws.{leads_end, no_items}
use Rattle.drd_rdata.proofs.exceeding.room_after_options.Goals as goal

pub returns : goal.returns
returns c =
    leads_end c.args.room (length (entries_octets c.args.entries.now)) c.entries.left (length (entries_octets c.entries.rest.now)) c.entries.invariant
    (ap (λ (es : List Entry). length (entries_octets es)) (no_items c.entries.rest.now c.in_default.ensures.cases))
