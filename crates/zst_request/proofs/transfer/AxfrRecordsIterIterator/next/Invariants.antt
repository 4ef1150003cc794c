use Rattle.std.proofs.Common.{◌≡◌, ◌-◌, ◌+◌, length}
use Rattle.zst_request.specs.Transfers.{axfr_left, lent_if}
use Rattle.zst_request.proofs.transfer.AxfrRecordsIterIterator.next.Given as goal

abbrev pub invariant-sets : goal.invariant-sets
invariant-sets l =
    axfr_left l.self-inside.origin.now l.self-inside.current l.self-inside.dnssec_ok l.self-inside.rrsets.now l.self-inside.shown l.self-inside.lent
    ≡ axfr_left l.initial.self-inside.origin.now l.initial.self-inside.current l.initial.self-inside.dnssec_ok l.initial.self-inside.rrsets.now l.initial.self-inside.shown l.initial.self-inside.lent

abbrev pub decreases-sets : goal.decreases-sets
decreases-sets l = (length l.self-inside.rrsets.now - l.self-inside.shown) + length (lent_if l.self-inside.lent)
