use Rattle.std.proofs.Common.{◌≡◌, ◌∙◌, ◌+◌, ◌-◌, ◌<◌, ◌≤◌, ℕ, suc, get_or, take, ap, sym, subst, arith, refl}
use Rattle.std.specs.Prelude.{Some, slice_get}
use Rattle.zst_absence.specs.dnw_codes.declared.record_type.RecordType.TheVariants as kind
use Rattle.zst_absence.specs.zst_denial.Circles.{IsAuthoritativeName}
use Rattle.zst_absence.specs.zst_key.Ancestors.{up}
use Rattle.zst_circle.specs.Nsec3Circle.{entries_with, hashing_of, is_level_of, level_count}
use Rattle.zst_circle.proofs.NsecHashedNames.{Levels, above_it, at_place, before_it, count_alike, gathered_place, got_at, levels_more, shared_place, within_count}
use Rattle.zst_circle.proofs.hashed.put_levels.Goals as goal

pub returns-then-is_above_one_before : goal.returns-then-is_above_one_before
returns-then-is_above_one_before c = λ zone at are gathered.
    let by = c.args.by in
    let names = c.args.names.now in
    let place = c.args.place in
    let name = c.index-names-place.result in
    let level = c.levels.level in
    let there : slice_get names place ≡ Some name = got_at names place name c.requires.place c.index-names-place.is in
    let more : level < level_count c.args.origin.now name = subst (λ (n : ℕ). level < n) c.level_count-level-end.ensures c.levels-test.true in
    let less : level < level_count zone.origin name = subst (λ (n : ℕ). level < n) (sym (count_alike c.args.sets.now c.args.key.now c.args.origin.now name zone at c.requires.origin)) more in
    let above : c.in_ok-above.above ≡ up name level = c.in_ok-above.ensures (within_count zone name level less (at_place (hashing_of by) by.opt_out zone c.args.origin.now (IsAuthoritativeName kind.NSEC3 zone) names place name are.each there).in_zone) in
    let shared = before_it names place c.in_ok-above.above (sym c.is_above_one_before.ensures ∙ c.if-is_above_one_before.true) in
    let other = get_or names (place - 1) c.in_ok-above.above in
    shared_place (hashing_of by) by.opt_out zone c.args.origin.now names place (place + 1) level name other c.levels.circle.entries are there refl shared.0
    (got_at names (place - 1) other (omega (arith, shared.0, c.requires.place)) (above_it names (place - 1) c.in_ok-above.above)) less
    (ap (is_level_of other) (sym above) ∙ shared.1)
    (c.levels.invariant zone at are gathered)

pub levels-preserved : goal.levels-preserved
levels-preserved c = λ zone at are gathered.
    let by = c.args.by in
    let names = c.args.names.now in
    let place = c.args.place in
    let name = c.index-names-place.result in
    let level = c.levels.level in
    let there : slice_get names place ≡ Some name = got_at names place name c.requires.place c.index-names-place.is in
    let more : level < level_count c.args.origin.now name = subst (λ (n : ℕ). level < n) c.level_count-level-end.ensures c.levels-test.true in
    let less : level < level_count zone.origin name = subst (λ (n : ℕ). level < n) (sym (count_alike c.args.sets.now c.args.key.now c.args.origin.now name zone at c.requires.origin)) more in
    let on = at_place (hashing_of by) by.opt_out zone c.args.origin.now (IsAuthoritativeName kind.NSEC3 zone) names place name are.each there in
    let above : c.in_ok-above.above ≡ up name level = c.in_ok-above.ensures (within_count zone name level less on.in_zone) in
    let next : level + 1 ≡ suc level = omega (arith) in
    let entries : c.put_name.new.circle.entries ≡ entries_with (hashing_of by) by.opt_out zone c.args.origin.now c.levels.circle.entries (up name level)
    = c.in_ok-put_name.ensures zone at ∙ ap (entries_with (hashing_of by) by.opt_out zone c.args.origin.now c.levels.circle.entries) above in
    subst (λ es. Levels (hashing_of by) by.opt_out zone c.args.origin.now (take place names) name (level + 1) es) (sym entries)
    (subst (λ (n : ℕ). Levels (hashing_of by) by.opt_out zone c.args.origin.now (take place names) name n (entries_with (hashing_of by) by.opt_out zone c.args.origin.now c.levels.circle.entries (up name level))) (sym next)
    (levels_more (hashing_of by) by.opt_out zone c.args.origin.now (take place names) name level c.levels.circle.entries on less (c.levels.invariant zone at are gathered)))

pub returns : goal.returns
returns c = λ zone at are gathered.
    let by = c.args.by in
    let names = c.args.names.now in
    let place = c.args.place in
    let name = c.index-names-place.result in
    let there : slice_get names place ≡ Some name = got_at names place name c.requires.place c.index-names-place.is in
    let end : level_count zone.origin name ≤ c.levels.level
    = subst (λ (n : ℕ). n ≤ c.levels.level) (c.level_count-level-end.ensures ∙ sym (count_alike c.args.sets.now c.args.key.now c.args.origin.now name zone at c.requires.origin)) c.levels-test.false in
    gathered_place (hashing_of by) by.opt_out zone c.args.origin.now names place (place + 1) c.levels.level name c.levels.circle.entries there refl end
    (c.levels.invariant zone at are gathered)
