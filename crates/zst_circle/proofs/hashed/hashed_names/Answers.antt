use Rattle.std.proofs.Common.{List, sym, subst, refl}
use Rattle.std.specs.List.Sorted.{IsStrictlySortedBy}
use Rattle.zst_absence.specs.dnw_name.DomainName.{DomainName}
use Rattle.zst_circle.specs.Nsec3Circle.{AreGathered, hash_cmp, hashing_of}
use Rattle.zst_circle.proofs.NsecHashedNames.{a_zone, hashed_all, values_sorted}
use Rattle.zst_circle.proofs.NsecHashedTypes.{all_taken, if_ok}
use Rattle.zst_circle.proofs.hashed.hashed_names.Goals as goal

pub returns-clause-ordered : goal.returns-clause-ordered
returns-clause-ordered c =
    let by = c.args.by in
    let origin = c.args.origin.now in
    let zone = a_zone c.args.sets.now origin in
    let gathered = c.places.invariant zone (record { has_sets = refl; has_origin = sym c.requires.origin }) in
    if_ok c.in_order.result
    (λ list same. subst (IsStrictlySortedBy (hash_cmp origin)) (sym same) (values_sorted (hashing_of by) by.opt_out zone origin c.places.circle.entries gathered.each c.in_order.ensures.ordered))
    c.in_order.ensures.all

pub returns-clause-hashed : goal.returns-clause-hashed
returns-clause-hashed c =
    let by = c.args.by in
    let origin = c.args.origin.now in
    if_ok c.in_order.result
    (λ list same zone at. hashed_all (hashing_of by) by.opt_out zone origin c.args.names.now c.places.circle.entries list.items same (c.requires.names zone at)
    (subst (λ (l : List DomainName). AreGathered (hashing_of by) by.opt_out zone origin l c.places.circle.entries) (all_taken c.args.names.now c.places.place c.places-test.false) (c.places.invariant zone at)))
    c.in_order.ensures.all
