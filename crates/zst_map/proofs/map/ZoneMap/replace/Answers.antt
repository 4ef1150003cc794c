use Rattle.std.proofs.Common.{◌≡◌, ◌∙◌, refl, sym, ap, subst}
use Rattle.std.specs.Prelude.{Option, Some, None, IsSome, is_some}
use Rattle.std.proofs.lemmas.Bool.{true≢false}
use Rattle.zst_handler.specs.zst_record.OneOrMany.{items_of}
use Rattle.zst_handler.specs.zst_record.RecordSets.{RRset}
use Rattle.zst_handler.specs.zst_record.declared.one_or_many.OneOrMany.{OneOrMany}
use Rattle.zst_key.specs.NameKeys.{name_key}
use Rattle.zst_handler.specs.Updates.{with_set}
use Rattle.zst_handler.specs.Stores.{held_sets}
use Rattle.zst_map.specs.ZoneMaps.{IsNode}
use Rattle.zst_map.specs.declared.change.Change.TheVariants as changes
use Rattle.zst_map.proofs.Kept.{alike_keys, in_order, kept_after, node_under, owners_stay, replaced_after, set_under}
use Rattle.zst_map.proofs.Replacing.{replaced_at}
use Rattle.zst_map.proofs.NodeSets.{IsNode-with}
use Rattle.zst_map.proofs.map.ZoneMap.replace.Goals as goal

one : {X : Type 0} (x y : X) → Some x ≡ Some y → x ≡ y
one x y e = cc

pub replace_in-requires-clause-there : goal.replace_in-requires-clause-there
replace_in-requires-clause-there c =
    subst IsSome (set_under c.self.inside.nodes c.self.inside.owners c.self.invariant c.args.self.now c.self.view_is c.args.key.now c.args.set.record_type (Some c.in-Some.node.now) c.in-Some.ensures.value)
    c.requires.there

pub replace_in-requires-clause-rise : goal.replace_in-requires-clause-rise
replace_in-requires-clause-rise c = (node_under c.self.inside.nodes c.self.inside.owners c.self.invariant c.args.key.now c.in-Some.node.now c.in-Some.ensures.value).rise

pub invariant_of-self-2 : goal.invariant_of-self-2
invariant_of-self-2 c =
    let w = c.replace_in.new.sets in
    let there = c.in-Some.ensures.value in
    let node = node_under c.self.inside.nodes c.self.inside.owners c.self.invariant c.args.key.now c.in-Some.node.now there in
    kept_after c.self.inside.nodes (c.get_mut.follows.lender w) c.self.inside.owners c.self.inside.owners c.args.key.now (Some w) c.self.invariant
    ((c.get_mut.follows.holds w).3 (sym (ap is_some there))).0
    (owners_stay c.self.inside.nodes c.self.inside.owners c.self.invariant c.args.key.now c.in-Some.node.now there)
    c.self.invariant.ordered
    (λ n is. subst (λ (m : OneOrMany RRset). IsNode (name_key c.args.key.now) (items_of m)) (one w n is)
    (subst (IsNode (name_key c.args.key.now)) (sym c.replace_in.ensures)
    (IsNode-with (name_key c.args.key.now) c.args.set (items_of c.in-Some.node.now) (record { owner = sym (alike_keys c.args.key.now c.args.set.name c.requires.owner) }) node.owned node.rise)))

pub returns-clause-others : goal.returns-clause-others
returns-clause-others c =
    let w = c.replace_in.new.sets in
    let there = c.in-Some.ensures.value in
    replaced_at c.args.self.now _ c.args.key.now c.args.set c.requires.owner
    (replaced_after c.self.inside.nodes (c.get_mut.follows.lender w) c.self.inside.owners c.self.inside.owners c.args.key.now (Some w) c.self.invariant
    ((c.get_mut.follows.holds w).3 (sym (ap is_some there))).0 (invariant_of-self-2 c) c.args.self.now c.self.view_is (changes.Put c.args.set)
    (alike_keys c.args.key.now c.args.set.name c.requires.owner) w refl
    (c.replace_in.ensures ∙ ap (λ (o : Option (OneOrMany RRset)). with_set (held_sets o) c.args.set) there))

pub returns-clause-ordered : goal.returns-clause-ordered
returns-clause-ordered c = in_order (c.get_mut.follows.lender c.replace_in.new.sets) c.self.inside.owners (invariant_of-self-2 c)

in_default-absurd : goal.After-drop → ⊥
in_default-absurd c =
    true≢false
    (sym c.requires.there ∙ ap is_some (set_under c.self.inside.nodes c.self.inside.owners c.self.invariant c.args.self.now c.self.view_is c.args.key.now c.args.set.record_type None c.in_default.ensures.value))

pub invariant_of-self : goal.invariant_of-self
invariant_of-self c = absurd (in_default-absurd c)

pub returns-in_default-clause-others : goal.returns-in_default-clause-others
returns-in_default-clause-others c = absurd (in_default-absurd c)

pub returns-in_default-clause-ordered : goal.returns-in_default-clause-ordered
returns-in_default-clause-ordered c = absurd (in_default-absurd c)
