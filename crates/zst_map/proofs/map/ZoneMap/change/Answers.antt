use Rattle.std.proofs.Common.{◌≡◌, ◌∙◌, refl, sym, ap, subst}
use Rattle.std.specs.Prelude.{[], ◌∷◌, Option, Some, Result, Ok, Err, OnOk, cond, is_some}
use Rattle.std.specs.HashMap.{get as hashed}
use Rattle.std.proofs.lemmas.Result.{IfOk-weaker, on_err_weaker, on_ok_weaker}
use Rattle.zst_handler.specs.dnw_name.DomainName.{DomainName, lowercase_name, name_eq}
use Rattle.zst_handler.specs.Zones.{AreInOrder}
use Rattle.zst_handler.specs.zst_record.OneOrMany.{items_of}
use Rattle.zst_handler.specs.zst_record.RecordSets.{RRset}
use Rattle.zst_handler.specs.zst_record.declared.one_or_many.OneOrMany.{OneOrMany}
use Rattle.zst_handler.specs.zst_record.declared.one_or_many.OneOrMany.TheVariants.{One}
use Rattle.zst_key.specs.NameKeys.{name_key}
use Rattle.zst_key.proofs.KeyLemmas.{key-lower}
use Rattle.zst_handler.specs.Updates.{set_of_type}
use Rattle.zst_map.specs.Changes.{alters, owner_of, type_in, with_change}
use Rattle.zst_handler.specs.Stores.{held_sets}
use Rattle.zst_map.specs.ZoneMaps.{IsNode}
use Rattle.zst_map.proofs.Kept.{in_order, kept_after, node_under, owners_stay, replaced_after, same_after, same_sets, set_held}
use Rattle.zst_map.proofs.NodeSets.{alters_none, node_alone, node_tried, same_owner}
use Rattle.zst_map.proofs.map.ZoneMap.change.Goals as goal

-- the key's octets are those of the owner
keyed : (key owner : DomainName) → key ≡ lowercase_name owner → name_key key ≡ name_key owner
keyed key owner e = ap name_key e ∙ key-lower owner

one : {X : Type 0} (x y : X) → Some x ≡ Some y → x ≡ y
one x y e = cc

any_ok : {T E : Type 0} {P : Type 0} (r : Result T E) → P → OnOk r P
any_ok (Ok x) p = p
any_ok (Err e) p = tt

-- ---- an owner that has sets
pub change_node-requires-clause-owned : goal.change_node-requires-clause-owned
change_node-requires-clause-owned c =
    same_owner (name_key c.args.key) (items_of c.in-Some.node.now) (owner_of c.args.change) (keyed c.args.key (owner_of c.args.change) c.requires)
    (node_under c.self.inside.nodes c.self.inside.owners c.self.invariant c.args.key c.in-Some.node.now c.in-Some.ensures.value).owned

pub invariant_of-self : goal.invariant_of-self
invariant_of-self c =
    let w = c.change_node.new.sets in
    let there = c.in-Some.ensures.value in
    kept_after c.self.inside.nodes (c.get_mut.follows.lender w) c.self.inside.owners c.self.inside.owners c.args.key (Some w) c.self.invariant
    ((c.get_mut.follows.holds w).3 (sym (ap is_some there))).0
    (owners_stay c.self.inside.nodes c.self.inside.owners c.self.invariant c.args.key c.in-Some.node.now there)
    c.self.invariant.ordered
    (λ n is. subst (λ (m : OneOrMany RRset). IsNode (name_key c.args.key) (items_of m)) (one w n is)
    (node_tried (name_key c.args.key) (items_of c.in-Some.node.now) (items_of w) c.args.change c.change_node.result
    (node_under c.self.inside.nodes c.self.inside.owners c.self.invariant c.args.key c.in-Some.node.now there)
    (keyed c.args.key (owner_of c.args.change) c.requires) c.change_node.ensures.ok c.change_node.ensures.err))

pub returns-in-Some-clause-changed : goal.returns-in-Some-clause-changed
returns-in-Some-clause-changed c =
    IfOk-weaker c.change_node.result _ _
    (λ changed e. e ∙ ap (alters c.args.change) (sym (set_held c.self.inside.nodes c.self.inside.owners c.self.invariant c.args.self.now c.self.view_is c.args.key c.args.change (keyed c.args.key (owner_of c.args.change) c.requires)
    ∙ ap (λ (o : Option (OneOrMany RRset)). set_of_type (type_in c.args.change) (held_sets o)) (sym c.in-Some.ensures.value))))
    c.change_node.ensures.changed

pub returns-in-Some-clause-ok : goal.returns-in-Some-clause-ok
returns-in-Some-clause-ok c =
    let w = c.change_node.new.sets in
    let there = c.in-Some.ensures.value in
    on_ok_weaker c.change_node.result
    (λ e. replaced_after c.self.inside.nodes (c.get_mut.follows.lender w) c.self.inside.owners c.self.inside.owners c.args.key (Some w) c.self.invariant
    ((c.get_mut.follows.holds w).3 (sym (ap is_some there))).0 (invariant_of-self c) c.args.self.now c.self.view_is c.args.change (keyed c.args.key (owner_of c.args.change) c.requires)
    w refl (e ∙ ap (λ (o : Option (OneOrMany RRset)). with_change (held_sets o) c.args.change) there))
    c.change_node.ensures.ok

pub returns-in-Some-clause-ordered : goal.returns-in-Some-clause-ordered
returns-in-Some-clause-ordered c =
    any_ok c.change_node.result (in_order (c.get_mut.follows.lender c.change_node.new.sets) c.self.inside.owners (invariant_of-self c))

pub returns-in-Some-clause-err : goal.returns-in-Some-clause-err
returns-in-Some-clause-err c =
    let w = c.change_node.new.sets in
    let there = c.in-Some.ensures.value in
    on_err_weaker c.change_node.result
    (λ e. same_sets c.self.inside.nodes (c.get_mut.follows.lender w) c.self.inside.owners.entries
    (same_after c.self.inside.nodes (c.get_mut.follows.lender w) c.self.inside.owners c.self.inside.owners c.args.key (Some w) c.self.invariant
    ((c.get_mut.follows.holds w).3 (sym (ap is_some there))).0 w refl (e ∙ ap held_sets there))
    ∙ c.self.view_is)
    c.change_node.ensures.err

-- ---- an owner that has none
pub invariant_of-self-2 : goal.invariant_of-self-2
invariant_of-self-2 c =
    kept_after c.self.inside.nodes c.put_owner.new.nodes c.self.inside.owners c.put_owner.new.owners c.args.key (Some (One c.into_set-set.result)) c.self.invariant
    (λ name. c.in_ok-put_owner.ensures.nodes name ∙ ap (λ m. cond (name_eq c.args.key name) (Some (One c.into_set-set.result)) (hashed name_eq m name)) c.get_mut.follows.holds-at-none)
    c.in_ok-put_owner.ensures.owners
    c.in_ok-put_owner.ensures.ordered
    (λ n is. subst (λ (m : OneOrMany RRset). IsNode (name_key c.args.key) (items_of m)) (one (One c.into_set-set.result) n is)
    (node_alone (name_key c.args.key) (c.into_set-set.result ∷ []) c.args.change (keyed c.args.key (owner_of c.args.change) c.requires) (ap (λ (s : RRset). s ∷ []) c.into_set-set.ensures)))

pub returns-clause-changed : goal.returns-clause-changed
returns-clause-changed c =
    alters_none c.args.change
    ∙ ap (alters c.args.change) (sym (set_held c.self.inside.nodes c.self.inside.owners c.self.invariant c.args.self.now c.self.view_is c.args.key c.args.change (keyed c.args.key (owner_of c.args.change) c.requires)
    ∙ ap (λ (o : Option (OneOrMany RRset)). set_of_type (type_in c.args.change) (held_sets o)) (sym c.in_default.ensures.value)))

pub returns-clause-ok : goal.returns-clause-ok
returns-clause-ok c =
    replaced_after c.self.inside.nodes c.put_owner.new.nodes c.self.inside.owners c.put_owner.new.owners c.args.key (Some (One c.into_set-set.result)) c.self.invariant
    (λ name. c.in_ok-put_owner.ensures.nodes name ∙ ap (λ m. cond (name_eq c.args.key name) (Some (One c.into_set-set.result)) (hashed name_eq m name)) c.get_mut.follows.holds-at-none)
    (invariant_of-self-2 c) c.args.self.now c.self.view_is c.args.change (keyed c.args.key (owner_of c.args.change) c.requires)
    (One c.into_set-set.result) refl
    (ap (λ (s : RRset). s ∷ []) c.into_set-set.ensures ∙ ap (λ (o : Option (OneOrMany RRset)). with_change (held_sets o) c.args.change) c.in_default.ensures.value)

pub returns-clause-ordered : goal.returns-clause-ordered
returns-clause-ordered c = in_order c.put_owner.new.nodes c.put_owner.new.owners (invariant_of-self-2 c)

-- ---- the sets were in order
pub returns-in-Some-clause-before : goal.returns-in-Some-clause-before
returns-in-Some-clause-before c = subst AreInOrder c.self.view_is (in_order c.self.inside.nodes c.self.inside.owners c.self.invariant)

pub returns-in_err-put_owner-clause-before : goal.returns-in_err-put_owner-clause-before
returns-in_err-put_owner-clause-before c = subst AreInOrder c.self.view_is (in_order c.self.inside.nodes c.self.inside.owners c.self.invariant)

pub returns-clause-before : goal.returns-clause-before
returns-clause-before c = subst AreInOrder c.self.view_is (in_order c.self.inside.nodes c.self.inside.owners c.self.invariant)
