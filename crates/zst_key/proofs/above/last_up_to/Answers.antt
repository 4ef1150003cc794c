use Rattle.std.proofs.Common.{sym}
use Rattle.std.specs.BTreeMap.{get}
use Rattle.dnw_name.specs.DomainName.{name_cmp}
use Rattle.zst_key.proofs.NamesAbove.{last-itself}
use Rattle.zst_key.proofs.above.last_up_to.Goals as goal

-- the first key is the one asked for
pub returns-in-Some : goal.returns-in-Some
returns-in-Some g c =
    last-itself (get name_cmp c.args.names.now) c.in-Some.owner.now c.args.key.now c.in-Some.value.now (sym c.if-eq.ensures) c.in-Some.ensures.value
