use Rattle.std.proofs.Common.{◌≡◌, ◌∙◌, ap, sym, subst, Option, []}
use Rattle.std.specs.Prelude.{IfOk, option_map}
use Rattle.std.specs.BTreeMap.{get}
use Rattle.std.proofs.lemmas.Bool.{true≢false}
use Rattle.zst_handler.specs.dnw_name.DomainName.{DomainName, name_cmp}
use Rattle.zst_handler.specs.zst_record.RecordSets.{RRset}
use Rattle.zst_key.specs.Ancestors.{parent}
use Rattle.zst_handler.specs.Found.{above}
use Rattle.zst_map.specs.Searches.{lent, sought_in}
use Rattle.zst_map.proofs.NearestOf.{above_parent, above_root, leads_to, none_nearest}
use Rattle.zst_map.proofs.Searched.{found_above, found_here, lent_some}
use Rattle.zst_map.proofs.zone_sets.ZoneSets.above.Goals as goal

pub returns-then-is_root : goal.returns-then-is_root
returns-then-is_root c =
    sym (ap (option_map (λ (at : DomainName × Option RRset). at.1)) (above_root (sought_in c.args.self.now c.args.sought) c.args.key.now (c.is_root.ensures.0 c.if-is_root.true)))

pub returns-in_default : goal.returns-in_default
returns-in_default c =
    let f = sought_in c.args.self.now c.args.sought in
    let g = get name_cmp c.names.result.now in
    let some = λ (e : c.args.key.now.labels ≡ []). true≢false (sym (c.is_root.ensures.1 e) ∙ c.if-is_root.false) in
    sym (ap (option_map (λ (at : DomainName × Option RRset). at.1))
    (above_parent f c.args.key.now some
    ∙ none_nearest f g (parent c.args.key.now) c.names.ensures (sym c.in_ok-owner.ensures ∙ ap (option_map (λ p. (p.0.now, p.1.now))) c.in_default.is)))

pub returns-then-is_some : goal.returns-then-is_some
returns-then-is_some c =
    let f = sought_in c.args.self.now c.args.sought in
    let g = get name_cmp c.names.result.now in
    let some = λ (e : c.args.key.now.labels ≡ []). true≢false (sym (c.is_root.ensures.1 e) ∙ c.if-is_root.false) in
    let leads = leads_to f g (parent c.args.key.now) c.in-Some.owner.now c.in-Some.field-0-1.now c.names.ensures (sym c.in_ok-owner.ensures ∙ ap (option_map (λ p. (p.0.now, p.1.now))) c.in-Some.is) in
    sym (ap (option_map (λ (at : DomainName × Option RRset). at.1))
    (above_parent f c.args.key.now some ∙ leads.same)
    ∙ found_here f c.in-Some.owner.now (lent c.in_ok-found.found) c.in_ok-found.ensures
    (lent_some c.in_ok-found.found ∙ sym c.is_some.ensures ∙ c.if-is_some.true))

pub returns : goal.returns
returns c =
    let f = sought_in c.args.self.now c.args.sought in
    let g = get name_cmp c.names.result.now in
    let some = λ (e : c.args.key.now.labels ≡ []). true≢false (sym (c.is_root.ensures.1 e) ∙ c.if-is_root.false) in
    let leads = leads_to f g (parent c.args.key.now) c.in-Some.owner.now c.in-Some.field-0-1.now c.names.ensures (sym c.in_ok-owner.ensures ∙ ap (option_map (λ p. (p.0.now, p.1.now))) c.in-Some.is) in
    let same : above f c.args.key.now ≡ above f c.in-Some.owner.now = above_parent f c.args.key.now some ∙ leads.same
    ∙ found_above f c.in-Some.owner.now (lent c.in_ok-found.found) c.in_ok-found.ensures
    (lent_some c.in_ok-found.found ∙ sym c.is_some.ensures ∙ c.if-is_some.false) in
    subst (λ (o : Option (DomainName × Option RRset)). IfOk c.climb.result (λ at. lent at ≡ option_map (λ (found : DomainName × Option RRset). found.1) o)) (sym same) c.climb.ensures
