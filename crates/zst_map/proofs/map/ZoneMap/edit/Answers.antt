use Rattle.std.proofs.Common.{◌≡◌, ◌∙◌, refl, sym, ap, subst}
use Rattle.std.specs.Prelude.{Option, Some, None, is_some}
use Rattle.zst_handler.specs.zst_record.OneOrMany.{items_of}
use Rattle.zst_handler.specs.zst_record.RecordSets.{RRset}
use Rattle.zst_handler.specs.zst_record.declared.one_or_many.OneOrMany.{OneOrMany}
use Rattle.zst_key.specs.NameKeys.{name_key}
use Rattle.zst_handler.specs.Updates.{with_set}
use Rattle.zst_map.specs.Edits.{edited}
use Rattle.zst_handler.specs.Stores.{held_sets}
use Rattle.zst_map.specs.ZoneMaps.{IsNode, IsOwnedAt}
use Rattle.zst_map.specs.declared.change.Change.TheVariants as changes
use Rattle.zst_map.proofs.Edited.{edited_name, found_by, node_edited}
use Rattle.zst_map.proofs.Kept.{in_order, kept_after, node_under, owners_stay, replaced_after, set_under}
use Rattle.zst_map.proofs.NodeSets.{found_of}
use Rattle.zst_map.proofs.map.ZoneMap.edit.Goals as goal

one : {X : Type 0} (x y : X) → Some x ≡ Some y → x ≡ y
one x y e = cc

pub edit_node-requires-clause-there : goal.edit_node-requires-clause-there
edit_node-requires-clause-there c = (
  c.requires.0,
  sym (set_under c.self.inside.nodes c.self.inside.owners c.self.invariant c.args.self.now c.self.view_is c.args.key.now c.args.record_type (Some c.in-Some.node.now) c.in-Some.ensures.value) ∙ c.requires.1,
  c.requires.2,
)

pub edit_node-requires-clause-rise : goal.edit_node-requires-clause-rise
edit_node-requires-clause-rise c = (node_under c.self.inside.nodes c.self.inside.owners c.self.invariant c.args.key.now c.in-Some.node.now c.in-Some.ensures.value).rise

pub invariant_of-self-2 : goal.invariant_of-self-2
invariant_of-self-2 c =
    let w = c.edit_node.new.sets in
    let there = c.in-Some.ensures.value in
    let node = node_under c.self.inside.nodes c.self.inside.owners c.self.invariant c.args.key.now c.in-Some.node.now there in
    let found = sym (set_under c.self.inside.nodes c.self.inside.owners c.self.invariant c.args.self.now c.self.view_is c.args.key.now c.args.record_type (Some c.in-Some.node.now) there) ∙ c.requires.1 in
    kept_after c.self.inside.nodes (c.get_mut.follows.lender w) c.self.inside.owners c.self.inside.owners c.args.key.now (Some w) c.self.invariant
    ((c.get_mut.follows.holds w).3 (sym (ap is_some there))).0
    (owners_stay c.self.inside.nodes c.self.inside.owners c.self.invariant c.args.key.now c.in-Some.node.now there)
    c.self.invariant.ordered
    (λ n is. subst (λ (m : OneOrMany RRset). IsNode (name_key c.args.key.now) (items_of m)) (one w n is)
    (subst (IsNode (name_key c.args.key.now)) (sym (c.edit_node.ensures c.requires.0 found c.requires.2))
    (node_edited (name_key c.args.key.now) (items_of c.in-Some.node.now) c.args.record_type c.requires.0 c.args.edit node found c.requires.2)))

pub returns-clause-others : goal.returns-clause-others
returns-clause-others c = λ set is can.
    let w = c.edit_node.new.sets in
    let there = c.in-Some.ensures.value in
    let node = node_under c.self.inside.nodes c.self.inside.owners c.self.invariant c.args.key.now c.in-Some.node.now there in
    let found = sym (set_under c.self.inside.nodes c.self.inside.owners c.self.invariant c.args.self.now c.self.view_is c.args.key.now c.args.record_type (Some c.in-Some.node.now) there) ∙ is in
    let owner = (found_of (IsOwnedAt (name_key c.args.key.now)) c.args.record_type (items_of c.in-Some.node.now) set node.owned found).owner in
    found_by c.args.self.now _ c.args.key.now c.args.record_type set c.args.edit is can
    (replaced_after c.self.inside.nodes (c.get_mut.follows.lender w) c.self.inside.owners c.self.inside.owners c.args.key.now (Some w) c.self.invariant
    ((c.get_mut.follows.holds w).3 (sym (ap is_some there))).0 (invariant_of-self-2 c) c.args.self.now c.self.view_is (changes.Put (edited c.args.edit set))
    (sym (edited_name c.args.edit set can ∙ owner)) w refl
    (c.edit_node.ensures set found can ∙ ap (λ (o : Option (OneOrMany RRset)). with_set (held_sets o) (edited c.args.edit set)) there))

pub returns-clause-ordered : goal.returns-clause-ordered
returns-clause-ordered c = in_order (c.get_mut.follows.lender c.edit_node.new.sets) c.self.inside.owners (invariant_of-self-2 c)

none_there : (o : Option RRset) (set : RRset) → o ≡ Some set → o ≡ None → ⊥
none_there o set some none = let e = sym some ∙ none in cc

in_default-absurd : goal.After-drop → ⊥
in_default-absurd c =
    none_there _ c.requires.0 c.requires.1
    (set_under c.self.inside.nodes c.self.inside.owners c.self.invariant c.args.self.now c.self.view_is c.args.key.now c.args.record_type None c.in_default.ensures.value)

pub invariant_of-self : goal.invariant_of-self
invariant_of-self c = absurd (in_default-absurd c)

pub returns-in_default-clause-others : goal.returns-in_default-clause-others
returns-in_default-clause-others c = absurd (in_default-absurd c)

pub returns-in_default-clause-ordered : goal.returns-in_default-clause-ordered
returns-in_default-clause-ordered c = absurd (in_default-absurd c)
