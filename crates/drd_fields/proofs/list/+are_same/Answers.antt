use Rattle.std.proofs.Common.{rules, ◌≡◌, ◌∷◌, Bool, true, false, map, subst}
use Rattle.drd_fields.specs.Seen.{seen}
use Rattle.drd_fields.specs.Equality.{TellsField}
use Rattle.drd_fields.proofs.EqualityLaws.{fields_tell}
use Rattle.drd_fields.proofs.list.+are_same.Goals as goal

pub returns-then-is_same-clause-canonical : goal.returns-then-is_same-clause-canonical
returns-then-is_same-clause-canonical depth c =
    let xs : c.args.xs.now ≡ c.in-Some-Some.x.now ∷ c.in-Some-Some.later.now = search rules in
    let ys : c.args.ys.now ≡ c.in-Some-Some.y.now ∷ c.in-Some-Some.further.now = search rules in
    let x = seen c.in-Some-Some.x.now in
    let y = seen c.in-Some-Some.y.now in
    rw (xs, ys) (λ kinds ordered full fuller.
    fields_tell true c.are_same.result x y (map seen c.in-Some-Some.later.now) (map seen c.in-Some-Some.further.now) (cc kinds) ordered
    (subst (λ (b : Bool). TellsField b x y) c.if-is_same.true (c.is_same.ensures.canonical (cc kinds) full.0 fuller.0))
    (λ e. c.are_same.ensures.canonical (cc kinds) ordered.1 full.1 fuller.1))

pub returns-else-is_same-clause-canonical : goal.returns-else-is_same-clause-canonical
returns-else-is_same-clause-canonical depth c =
    let xs : c.args.xs.now ≡ c.in-Some-Some.x.now ∷ c.in-Some-Some.later.now = search rules in
    let ys : c.args.ys.now ≡ c.in-Some-Some.y.now ∷ c.in-Some-Some.further.now = search rules in
    let x = seen c.in-Some-Some.x.now in
    let y = seen c.in-Some-Some.y.now in
    rw (xs, ys, c.if-is_same.false) (λ kinds ordered full fuller.
    fields_tell false false x y (map seen c.in-Some-Some.later.now) (map seen c.in-Some-Some.further.now) (cc kinds) ordered
    (subst (λ (b : Bool). TellsField b x y) c.if-is_same.false (c.is_same.ensures.canonical (cc kinds) full.0 fuller.0))
    (λ e. absurd (cc e)))
