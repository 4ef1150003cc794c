use Rattle.std.proofs.Common.{◌∙◌, Bool, ◌&&◌, ap, sym}
use Rattle.std.specs.Prelude.{is_some}
use Rattle.zst_absence.specs.dnw_codes.declared.record_type.RecordType.TheVariants as kind
use Rattle.zst_absence.specs.zst_handler.Zones.{rrset_at}
use Rattle.zst_circle.proofs.Authoritative.{delegated, some_copied}
use Rattle.zst_circle.proofs.names.is_delegation.Goals as goal

pub returns-then-is_below : goal.returns-then-is_below
returns-then-is_below c = λ zone at.
    let sets = c.args.sets.now in
    let key = c.args.key.now in
    c.is_some.ensures ∙ some_copied c.get.result ∙ ap is_some c.get.ensures
    ∙ ap (λ (p : Bool). p && is_some (rrset_at sets key kind.NS)) (sym (sym c.is_below.ensures ∙ c.if-is_below.true)) ∙ delegated sets c.args.origin.now zone at key

pub returns-else-is_below : goal.returns-else-is_below
returns-else-is_below c = λ zone at.
    let sets = c.args.sets.now in
    let key = c.args.key.now in
    c.if-is_below.false
    ∙ ap (λ (p : Bool). p && is_some (rrset_at sets key kind.NS)) (sym (sym c.is_below.ensures ∙ c.if-is_below.false)) ∙ delegated sets c.args.origin.now zone at key
