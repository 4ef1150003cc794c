use Rattle.std.proofs.Common.{◌≡◌, ◌∙◌, ap, sym, arith, length, Option, []}
use Rattle.std.specs.Prelude.{option_map}
use Rattle.std.specs.BTreeMap.{get}
use Rattle.std.proofs.lemmas.Bool.{true≢false}
use Rattle.zst_handler.specs.dnw_name.DomainName.{DomainName, name_cmp}
use Rattle.zst_handler.specs.zst_record.RecordSets.{RRset}
use Rattle.zst_key.specs.Ancestors.{nearest_in}
use Rattle.zst_handler.specs.Found.{above}
use Rattle.zst_map.specs.Searches.{lent, sought_in}
use Rattle.zst_map.proofs.NearestOf.{above_parent, leads_to, none_nearest}
use Rattle.zst_map.proofs.Searched.{found_above, found_here, lent_some, shorter}
use Rattle.zst_map.proofs.zone_sets.ZoneSets.climb.Goals as goal

pub returns-in_default : goal.returns-in_default
returns-in_default c =
    let f = sought_in c.args.self.now c.args.sought in
    let g = get name_cmp c.names.result.now in
    let some = λ (e : c.levels.at.labels ≡ []). true≢false (sym (c.is_root.ensures.1 e) ∙ c.levels-test.true) in
    sym (ap (option_map (λ (at : DomainName × Option RRset). at.1))
    (c.levels.invariant ∙ above_parent f c.levels.at some ∙ ap (nearest_in f) (sym c.to_parent.ensures)
    ∙ none_nearest f g c.to_parent.new.self c.names.ensures (sym c.in_ok-owner.ensures ∙ ap (option_map (λ p. (p.0.now, p.1.now))) c.in_default.is)))

pub returns-then-is_some : goal.returns-then-is_some
returns-then-is_some c =
    let f = sought_in c.args.self.now c.args.sought in
    let g = get name_cmp c.names.result.now in
    let some = λ (e : c.levels.at.labels ≡ []). true≢false (sym (c.is_root.ensures.1 e) ∙ c.levels-test.true) in
    let leads = leads_to f g c.to_parent.new.self c.in-Some.owner.now c.in-Some.field-0-1.now c.names.ensures (sym c.in_ok-owner.ensures ∙ ap (option_map (λ p. (p.0.now, p.1.now))) c.in-Some.is) in
    sym (ap (option_map (λ (at : DomainName × Option RRset). at.1))
    (c.levels.invariant ∙ above_parent f c.levels.at some ∙ ap (nearest_in f) (sym c.to_parent.ensures) ∙ leads.same)
    ∙ found_here f c.in-Some.owner.now (lent c.in_ok-found.found) c.in_ok-found.ensures
    (lent_some c.in_ok-found.found ∙ sym c.is_some.ensures ∙ c.if-is_some.true))

pub levels-smaller : goal.levels-smaller
levels-smaller c =
    let f = sought_in c.args.self.now c.args.sought in
    let g = get name_cmp c.names.result.now in
    let some = λ (e : c.levels.at.labels ≡ []). true≢false (sym (c.is_root.ensures.1 e) ∙ c.levels-test.true) in
    let leads = leads_to f g c.to_parent.new.self c.in-Some.owner.now c.in-Some.field-0-1.now c.names.ensures (sym c.in_ok-owner.ensures ∙ ap (option_map (λ p. (p.0.now, p.1.now))) c.in-Some.is) in
    omega (
      arith,
      leads.no_lower,
      shorter c.levels.at some,
      ap (λ (n : DomainName). length n.labels) c.to_parent.ensures,
      ap (λ (n : DomainName). length n.labels) c.in_ok-at-2.ensures.cases,
    )

pub levels-preserved : goal.levels-preserved
levels-preserved c =
    let f = sought_in c.args.self.now c.args.sought in
    let g = get name_cmp c.names.result.now in
    let some = λ (e : c.levels.at.labels ≡ []). true≢false (sym (c.is_root.ensures.1 e) ∙ c.levels-test.true) in
    let leads = leads_to f g c.to_parent.new.self c.in-Some.owner.now c.in-Some.field-0-1.now c.names.ensures (sym c.in_ok-owner.ensures ∙ ap (option_map (λ p. (p.0.now, p.1.now))) c.in-Some.is) in
    c.levels.invariant ∙ above_parent f c.levels.at some ∙ ap (nearest_in f) (sym c.to_parent.ensures) ∙ leads.same
    ∙ found_above f c.in-Some.owner.now (lent c.in_ok-found.found) c.in_ok-found.ensures
    (lent_some c.in_ok-found.found ∙ sym c.is_some.ensures ∙ c.if-is_some.false)
    ∙ ap (above f) (sym c.in_ok-at-2.ensures.cases)
