use Rattle.std.proofs.Common.{◌≡◌, ◌∙◌, refl, sym, ap, subst}
use Rattle.std.specs.Prelude.{Bool, true, false, List, [], ◌∷◌, Option, Some, None, cond, is_some, option_map}
use Rattle.std.specs.BTreeMap.{get}
use Rattle.std.proofs.lemmas.Bool.{true≢false}
use Rattle.zst_handler.specs.dnw_codes.declared.record_type.RecordType.{RecordType}
use Rattle.zst_handler.specs.dnw_name.DomainName.{name_cmp}
use Rattle.zst_handler.specs.dnw_name.NameOrderLaws.{name_eq-by_cmp}
use Rattle.zst_handler.specs.zst_record.OneOrMany.{items_of}
use Rattle.zst_handler.specs.zst_record.RecordSets.{RRset}
use Rattle.zst_handler.specs.zst_record.declared.one_or_many.OneOrMany.{OneOrMany}
use Rattle.zst_handler.specs.Updates.{Replaces, set_of_type}
use Rattle.zst_handler.specs.Zones.{AreInOrder}
use Rattle.zst_key.specs.NameKeys.{name_key}
use Rattle.zst_map.specs.Changes.{is_only}
use Rattle.zst_handler.specs.Stores.{held_sets, sets_in}
use Rattle.zst_map.specs.ZoneMaps.{IsNode}
use Rattle.zst_map.proofs.Kept.{entries_of, in_order, kept_after, looked_after, looked_at, node_under, owners_stay, seen_as, set_under, sets_as, sets_named, under_as, zone_of}
use Rattle.zst_map.proofs.NodeSets.{node_without}
use Rattle.zst_map.proofs.Removals.{removes_among, removes_none, removes_only}
use Rattle.zst_map.proofs.map.ZoneMap.remove.Goals as goal

-- ---- an owner has an only set
none_only : (ss : List RRset) (t : RecordType) → ss ≡ [] → is_only ss t ≡ true → ⊥
none_only ss t none one = true≢false (sym one ∙ ap (λ (us : List RRset). is_only us t) none)

only_value : (ss : List RRset) (t : RecordType) (r : Option RRset) → is_only ss t ≡ true → ((s : RRset) → ss ≡ s ∷ [] → r ≡ Some s) → r ≡ set_of_type t ss
only_value [] t r one h = absurd (true≢false (sym one))
only_value (s ∷ []) t r one h = h s refl ∙ sym (ap (λ (b : Bool). cond b (Some s) None) one)
only_value (s ∷ u ∷ ss) t r one h = absurd (true≢false (sym one))

in_default-absurd : goal.In_default → ⊥
in_default-absurd c =
    none_only c.sets_at.result.now c.args.record_type
    (c.sets_at.ensures ∙ sym (sets_named c.self.inside.nodes c.self.inside.owners c.self.invariant c.args.self.now c.self.view_is c.args.key.now) ∙ sym (ap held_sets c.in_default.ensures.value))
    (sym c.is_only.ensures ∙ c.if-is_only.true)

pub returns-in_default-clause-value : goal.returns-in_default-clause-value
returns-in_default-clause-value c = absurd (in_default-absurd c)

pub returns-in_default-clause-others : goal.returns-in_default-clause-others
returns-in_default-clause-others c = absurd (in_default-absurd c)

pub returns-in_default-clause-ordered : goal.returns-in_default-clause-ordered
returns-in_default-clause-ordered c = absurd (in_default-absurd c)

pub invariant_of-self-then-is_only : goal.invariant_of-self-then-is_only
invariant_of-self-then-is_only c =
    kept_after c.self.inside.nodes c.remove-then-is_only.new.self c.self.inside.owners c.remove.new.self c.args.key.now None c.self.invariant
    c.in-Some.ensures.updates.0
    (λ name. c.remove.ensures.updates.0 name ∙ ap (λ (b : Bool). cond b None (get name_cmp c.self.inside.owners name)) (sym (name_eq-by_cmp c.args.key.now name)))
    c.remove.ensures.ordered
    (λ n is. let h : ⊥ = cc in absurd h)

pub returns-then-is_only-clause-value : goal.returns-then-is_only-clause-value
returns-then-is_only-clause-value c =
    let one : is_only (items_of c.in-Some.node) c.args.record_type ≡ true
    = ap (λ (ss : List RRset). is_only ss c.args.record_type) (under_as c.self.inside.nodes c.self.inside.owners c.self.invariant c.args.self.now c.self.view_is c.args.key.now c.in-Some.node c.in-Some.ensures.value ∙ sym c.sets_at.ensures)
    ∙ sym c.is_only.ensures ∙ c.if-is_only.true in
    only_value (items_of c.in-Some.node) c.args.record_type c.only.result one c.only.ensures
    ∙ sym (set_under c.self.inside.nodes c.self.inside.owners c.self.invariant c.args.self.now c.self.view_is c.args.key.now c.args.record_type (Some c.in-Some.node) c.in-Some.ensures.value)

pub returns-then-is_only-clause-others : goal.returns-then-is_only-clause-others
returns-then-is_only-clause-others c =
    let one : is_only (items_of c.in-Some.node) c.args.record_type ≡ true
    = ap (λ (ss : List RRset). is_only ss c.args.record_type) (under_as c.self.inside.nodes c.self.inside.owners c.self.invariant c.args.self.now c.self.view_is c.args.key.now c.in-Some.node c.in-Some.ensures.value ∙ sym c.sets_at.ensures)
    ∙ sym c.is_only.ensures ∙ c.if-is_only.true in
    let after = c.remove-then-is_only.new.self in
    subst (λ (z : List RRset). Replaces c.args.self.now c.args.key.now c.args.record_type None z) (sets_as after c.remove.new.self.entries)
    (removes_only (entries_of c.self.inside.nodes c.self.inside.owners.entries) (entries_of after c.remove.new.self.entries) c.args.self.now c.args.key.now c.args.record_type (items_of c.in-Some.node)
    (zone_of c.self.inside.nodes c.self.inside.owners c.self.invariant) (zone_of after c.remove.new.self (invariant_of-self-then-is_only c)) (seen_as c.self.inside.nodes c.self.inside.owners c.self.invariant c.args.self.now c.self.view_is)
    (ap (option_map items_of) c.in-Some.ensures.value ∙ sym (looked_at c.self.inside.nodes c.self.inside.owners c.self.invariant c.args.key.now)) one
    (looked_after c.self.inside.nodes after c.self.inside.owners c.remove.new.self c.args.key.now None c.self.invariant c.in-Some.ensures.updates.0 (invariant_of-self-then-is_only c)))

pub returns-then-is_only-clause-ordered : goal.returns-then-is_only-clause-ordered
returns-then-is_only-clause-ordered c = in_order c.remove-then-is_only.new.self c.remove.new.self (invariant_of-self-then-is_only c)

-- ---- a set among others
pub take_out-requires-clause-others : goal.take_out-requires-clause-others
take_out-requires-clause-others c =
    ap (λ (ss : List RRset). is_only ss c.args.record_type) (under_as c.self.inside.nodes c.self.inside.owners c.self.invariant c.args.self.now c.self.view_is c.args.key.now c.in-Some-get_mut.node.now c.in-Some-get_mut.ensures.value ∙ sym c.sets_at.ensures)
    ∙ sym c.is_only.ensures ∙ c.if-is_only.false

one : {X : Type 0} (x y : X) → Some x ≡ Some y → x ≡ y
one x y e = cc

pub invariant_of-self-2 : goal.invariant_of-self-2
invariant_of-self-2 c =
    let w = c.take_out.new.sets in
    let node = c.in-Some-get_mut.node.now in
    let there = c.in-Some-get_mut.ensures.value in
    let two : is_only (items_of node) c.args.record_type ≡ false
    = ap (λ (ss : List RRset). is_only ss c.args.record_type) (under_as c.self.inside.nodes c.self.inside.owners c.self.invariant c.args.self.now c.self.view_is c.args.key.now node there ∙ sym c.sets_at.ensures)
    ∙ sym c.is_only.ensures ∙ c.if-is_only.false in
    kept_after c.self.inside.nodes (c.get_mut.follows.lender w) c.self.inside.owners c.self.inside.owners c.args.key.now (Some w) c.self.invariant
    ((c.get_mut.follows.holds w).3 (sym (ap is_some there))).0
    (owners_stay c.self.inside.nodes c.self.inside.owners c.self.invariant c.args.key.now node there)
    c.self.invariant.ordered
    (λ n is. subst (λ (m : OneOrMany RRset). IsNode (name_key c.args.key.now) (items_of m)) (one w n is)
    (subst (IsNode (name_key c.args.key.now)) (sym c.take_out.ensures.others)
    (node_without (name_key c.args.key.now) (items_of node) c.args.record_type (node_under c.self.inside.nodes c.self.inside.owners c.self.invariant c.args.key.now node there) two)))

pub returns-clause-value : goal.returns-clause-value
returns-clause-value c =
    c.take_out.ensures.value
    ∙ sym (set_under c.self.inside.nodes c.self.inside.owners c.self.invariant c.args.self.now c.self.view_is c.args.key.now c.args.record_type (Some c.in-Some-get_mut.node.now) c.in-Some-get_mut.ensures.value)

pub returns-clause-others : goal.returns-clause-others
returns-clause-others c =
    let w = c.take_out.new.sets in
    let there = c.in-Some-get_mut.ensures.value in
    let after = c.get_mut.follows.lender w in
    let updates = ((c.get_mut.follows.holds w).3 (sym (ap is_some there))).0 in
    subst (λ (z : List RRset). Replaces c.args.self.now c.args.key.now c.args.record_type None z) (sets_as after c.self.inside.owners.entries)
    (removes_among (entries_of c.self.inside.nodes c.self.inside.owners.entries) (entries_of after c.self.inside.owners.entries) c.args.self.now c.args.key.now c.args.record_type (items_of c.in-Some-get_mut.node.now) (items_of w)
    (zone_of c.self.inside.nodes c.self.inside.owners c.self.invariant) (zone_of after c.self.inside.owners (invariant_of-self-2 c)) (seen_as c.self.inside.nodes c.self.inside.owners c.self.invariant c.args.self.now c.self.view_is)
    (ap (option_map items_of) there ∙ sym (looked_at c.self.inside.nodes c.self.inside.owners c.self.invariant c.args.key.now)) c.take_out.ensures.others
    (looked_after c.self.inside.nodes after c.self.inside.owners c.self.inside.owners c.args.key.now (Some w) c.self.invariant updates (invariant_of-self-2 c)))

pub returns-clause-ordered : goal.returns-clause-ordered
returns-clause-ordered c = in_order (c.get_mut.follows.lender c.take_out.new.sets) c.self.inside.owners (invariant_of-self-2 c)

-- ---- none to take it out of
pub returns-in_default-get_mut-clause-value : goal.returns-in_default-get_mut-clause-value
returns-in_default-get_mut-clause-value c =
    sym (set_under c.self.inside.nodes c.self.inside.owners c.self.invariant c.args.self.now c.self.view_is c.args.key.now c.args.record_type None c.in_default-get_mut.ensures.value)

pub returns-in_default-get_mut-clause-others : goal.returns-in_default-get_mut-clause-others
returns-in_default-get_mut-clause-others c =
    subst (λ (z : List RRset). Replaces c.args.self.now c.args.key.now c.args.record_type None z)
    (sym (ap (λ m. sets_in m c.self.inside.owners.entries) c.get_mut.follows.holds-at-none ∙ c.self.view_is))
    (removes_none (entries_of c.self.inside.nodes c.self.inside.owners.entries) c.args.self.now c.args.key.now c.args.record_type (zone_of c.self.inside.nodes c.self.inside.owners c.self.invariant) (seen_as c.self.inside.nodes c.self.inside.owners c.self.invariant c.args.self.now c.self.view_is)
    (ap (option_map items_of) c.in_default-get_mut.ensures.value ∙ sym (looked_at c.self.inside.nodes c.self.inside.owners c.self.invariant c.args.key.now)))

pub returns-in_default-get_mut-clause-ordered : goal.returns-in_default-get_mut-clause-ordered
returns-in_default-get_mut-clause-ordered c =
    subst (λ m. AreInOrder (sets_in m c.self.inside.owners.entries)) (sym c.get_mut.follows.holds-at-none) (in_order c.self.inside.nodes c.self.inside.owners c.self.invariant)
