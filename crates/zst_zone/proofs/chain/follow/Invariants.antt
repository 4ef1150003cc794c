use Rattle.std.proofs.Common.{map}
use Rattle.zst_circle.specs.dnw_name.DomainName.{DomainName}
use Rattle.zst_circle.specs.zst_handler.Answers.{set_in}
use Rattle.zst_zone.specs.Answering.{LeadsTo}
use Rattle.zst_zone.proofs.chain.follow.Given as goal

abbrev pub invariant-sets : goal.invariant-sets
invariant-sets l =
    (name : DomainName) → LeadsTo l.sets name l.record_type (map set_in l.fn.chain.items) l.fn.asked.items 1 l.fn.target
    → LeadsTo l.sets name l.record_type (map set_in l.chain.items) l.asked.items l.counter l.next
