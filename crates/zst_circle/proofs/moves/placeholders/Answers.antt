use Rattle.std.proofs.Common.{◌≡◌, ◌∙◌, [], ap, refl, sym, true}
use Rattle.std.specs.Prelude.{Bool, false, not, ◌&&◌, ◌||◌, ◌∷◌, List, is_some}
use Rattle.zst_absence.specs.dnw_codes.RecordType.{same_record_type}
use Rattle.zst_absence.specs.dnw_name.DomainName.{name_eq}
use Rattle.zst_absence.specs.zst_record.RecordSets.{RRset}
use Rattle.zst_absence.specs.zst_handler.Zones.{rrset_at}
use Rattle.zst_absence.specs.zst_denial.Kept.{is_circle_type}
use Rattle.zst_circle.specs.Moves.{placeholder_of}
use Rattle.zst_circle.specs.Resigning.{Resigns}
use Rattle.zst_circle.proofs.Placing.{all_can, put_turn, some_of}
use Rattle.zst_circle.proofs.moves.placeholders.Goals as goal

pub sets-preserved : goal.sets-preserved
sets-preserved g c =
    let at = c.sets in
    let set = c.in-Some.set.now in
    let step : at.set-iterator ≡ set ∷ c.next.new.self = c.in-Some.ensures.steps in (
      λ name t. put_turn (is_some (rrset_at at.new name t)) _ (name_eq name set.name && same_record_type set.record_type t) (is_some (rrset_at c.next.new.self name t)) (not (is_circle_type t)) _
          (c.in_ok-put_placeholder.ensures.there name t)
          (ap (λ (b : Bool). is_some (rrset_at at.new name t) || (b && not (is_circle_type t)))
          (sym (some_of (name_eq name set.name && same_record_type set.record_type t) set (rrset_at c.next.new.self name t)) ∙ ap (λ (zone : List RRset). is_some (rrset_at zone name t)) (sym step))
          ∙ at.invariant.0 name t),
      λ name t. put_turn (is_some (placeholder_of at.list.items name t)) _ (name_eq name set.name && same_record_type set.record_type t) (is_some (rrset_at c.next.new.self name t)) (not (is_circle_type t)) _
          (c.in_ok-put_placeholder.ensures.listed name t)
          (ap (λ (b : Bool). is_some (placeholder_of at.list.items name t) || (b && not (is_circle_type t)))
          (sym (some_of (name_eq name set.name && same_record_type set.record_type t) set (rrset_at c.next.new.self name t)) ∙ ap (λ (zone : List RRset). is_some (rrset_at zone name t)) (sym step))
          ∙ at.invariant.1 name t),
      c.in_ok-put_placeholder.ensures.resigned at.invariant.2,
      c.in_ok-put_placeholder.ensures.ordered at.invariant.3,
    )

or_nothing : (a b : Bool) → (a || (false && b)) ≡ a
or_nothing true b = refl
or_nothing false b = refl

pub returns-clause-can : goal.returns-clause-can
returns-clause-can g c =
    let at = c.sets in
    let empty : at.set-iterator ≡ [] = c.in-None.ensures.steps.0 in
    all_can (Resigns g.K.ZoneSigner.gives g.K.ZoneSigner.fails c.args.keys.now c.args.now c.args.old.now c.args.origin.now) c.args.old.now at.new at.list.items
    (λ p set each found. (each set found).fit)
    (λ name t. sym (or_nothing (is_some (rrset_at at.new name t)) (not (is_circle_type t)))
    ∙ ap (λ (zone : List RRset). is_some (rrset_at at.new name t) || (is_some (rrset_at zone name t) && not (is_circle_type t))) (sym empty) ∙ at.invariant.0 name t)
    (λ name t. sym (or_nothing (is_some (placeholder_of at.list.items name t)) (not (is_circle_type t)))
    ∙ ap (λ (zone : List RRset). is_some (placeholder_of at.list.items name t) || (is_some (rrset_at zone name t) && not (is_circle_type t))) (sym empty) ∙ at.invariant.1 name t)
    at.invariant.2
