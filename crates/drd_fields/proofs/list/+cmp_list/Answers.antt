use Rattle.std.proofs.Common.{rules, ◌≡◌, ◌∷◌, map, subst, sym}
use Rattle.std.specs.declared.cmp.Ordering.{Ordering}
use Rattle.std.specs.declared.cmp.Ordering.TheVariants.{Equal}
use Rattle.std.specs.Ordering.{ordering_then}
use Rattle.drd_fields.specs.Seen.{seen}
use Rattle.drd_fields.specs.Writing.{canonical_octets}
use Rattle.drd_fields.specs.Order.{Orders, OrdersField, fields_cmp}
use Rattle.drd_fields.proofs.OrderLaws.{fields_order, first_decides}
use Rattle.drd_fields.proofs.list.+cmp_list.Goals as goal

pub returns-in-Equal-clause-canonical : goal.returns-in-Equal-clause-canonical
returns-in-Equal-clause-canonical depth c =
    let xs : c.args.xs.now ≡ c.in-Some-Some.x.now ∷ c.in-Some-Some.later.now = search rules in
    let ys : c.args.ys.now ≡ c.in-Some-Some.y.now ∷ c.in-Some-Some.further.now = search rules in
    let x = seen c.in-Some-Some.x.now in
    let y = seen c.in-Some-Some.y.now in
    rw (xs, ys) (λ kinds ordered full fuller.
    fields_order Equal c.cmp_list.result x y (map seen c.in-Some-Some.later.now) (map seen c.in-Some-Some.further.now) (cc kinds) ordered
    (subst (λ (o : Ordering). OrdersField o x y) c.in-Equal.is (c.cmp_field.ensures.canonical (cc kinds) full.0 fuller.0))
    (λ e. c.cmp_list.ensures.canonical (cc kinds) ordered.1 full.1 fuller.1))

pub returns-in_default : goal.returns-in_default
returns-in_default depth c =
    let xs : c.args.xs.now ≡ c.in-Some-Some.x.now ∷ c.in-Some-Some.later.now = search rules in
    let ys : c.args.ys.now ≡ c.in-Some-Some.y.now ∷ c.in-Some-Some.further.now = search rules in
    let x = seen c.in-Some-Some.x.now in
    let y = seen c.in-Some-Some.y.now in
    let later = map seen c.in-Some-Some.later.now in
    let further = map seen c.in-Some-Some.further.now in
    let o = c.cmp_field.result in
    record {
      value = rw (xs, ys) (subst (λ (p : Ordering). o ≡ ordering_then p (fields_cmp later further)) c.cmp_field.ensures.value (first_decides o (fields_cmp later further) c.in_default.not-Equal));
      canonical = rw (xs, ys) (λ kinds ordered full fuller.
          subst (λ (p : Ordering). Orders p (canonical_octets (x ∷ later)) (canonical_octets (y ∷ further))) (sym (first_decides o Equal c.in_default.not-Equal))
          (fields_order o Equal x y later further (cc kinds) ordered (c.cmp_field.ensures.canonical (cc kinds) full.0 fuller.0) (λ e. absurd (c.in_default.not-Equal e))));
    }
