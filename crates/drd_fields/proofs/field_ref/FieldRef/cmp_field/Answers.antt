use Rattle.std.proofs.Common.{rules, ◌≡◌, ◌^◌, ◌<◌, subst, sym}
use Rattle.std.specs.declared.cmp.Ordering.{Ordering}
use Rattle.std.specs.Ordering.{nat_cmp}
use Rattle.drd_fields.specs.Fields.{long}
use Rattle.drd_fields.specs.Order.{OrdersField}
use Rattle.drd_fields.proofs.OrderLaws.{long_orders, front_orders}
use Rattle.drd_fields.proofs.field_ref.FieldRef.cmp_field.Goals as goal

pub returns-in-U32-U32-clause-canonical : goal.returns-in-U32-U32-clause-canonical
returns-in-U32-U32-clause-canonical c =
    let n = c.in-U32-U32.n in
    let m = c.in-U32-U32.m in
    let small : n < 2 ^ 32 = search rules in
    let few : m < 2 ^ 32 = search rules in
    let is : c.cmp-in-U32-U32.result ≡ nat_cmp n m = search rules in
    rw (c.in-U32-U32.is-0, c.in-U32-U32.is-1) (λ kinds full fuller.
    subst (λ (o : Ordering). OrdersField o (long n) (long m)) (sym is) (front_orders (nat_cmp n m) (long n) (long m) (long_orders n m small few)))
