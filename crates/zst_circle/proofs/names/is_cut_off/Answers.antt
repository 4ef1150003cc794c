use Rattle.std.proofs.Common.{◌≡◌, ◌∙◌, refl, subst, sym}
use Rattle.std.proofs.lemmas.Bool.{true≢false}
use Rattle.zst_absence.specs.dnw_name.DomainName.{DomainName}
use Rattle.zst_absence.specs.zst_denial.Circles.{is_delegation}
use Rattle.zst_absence.specs.zst_handler.Zones.{Zone}
use Rattle.zst_circle.specs.Securing.{IsZoneAt}
use Rattle.zst_circle.proofs.Authoritative.{Climbed, climb_cut, climb_ends, climb_goes}
use Rattle.zst_circle.proofs.names.is_cut_off.Goals as goal

pub returns-then-is_delegation : goal.returns-then-is_delegation
returns-then-is_delegation c = λ zone at. (
  λ is. climb_cut c.args.sets.now c.args.origin.now c.args.key.now c.levels.above c.is_delegation.result c.levels.invariant
      (subst (λ (n : DomainName). (z : Zone) → IsZoneAt c.args.sets.now c.args.origin.now z → c.is_delegation.result ≡ is_delegation z n) c.to_parent.ensures c.is_delegation.ensures)
      c.if-is_delegation.true zone at,
  λ cut. refl,
)

pub levels-preserved : goal.levels-preserved
levels-preserved c =
    subst (λ (n : DomainName). Climbed c.args.sets.now c.args.origin.now c.args.key.now n) (sym c.to_parent.ensures)
    (climb_goes c.args.sets.now c.args.origin.now c.args.key.now c.levels.above c.is_delegation.result c.levels.invariant
    (subst (λ (n : DomainName). (z : Zone) → IsZoneAt c.args.sets.now c.args.origin.now z → c.is_delegation.result ≡ is_delegation z n) c.to_parent.ensures c.is_delegation.ensures)
    c.if-is_delegation.false)

pub returns : goal.returns
returns c = λ zone at. (
  λ is. absurd (true≢false (sym is)),
  λ cut. absurd (climb_ends c.args.sets.now c.args.origin.now c.args.key.now c.levels.above c.levels.invariant (sym c.is_below.ensures ∙ c.levels-test.false) zone at cut),
)
