use Rattle.std.proofs.Common.{Vec, Global, ℕ, map, refl, ◌∙◌, sym, subst, Bool}
use Rattle.drd_fields.specs.Fields.{strings}
use Rattle.drd_fields.proofs.EqualityLaws.{items_same, strings_tell, open_tells}
use Rattle.drd_fields.specs.Equality.{TellsField}
use Rattle.drd_fields.proofs.field_ref.FieldRef.is_same.Goals as goal

pub returns-in-Strings-Strings-clause-value : goal.returns-in-Strings-Strings-clause-value
returns-in-Strings-Strings-clause-value c =
    rw (c.in-Strings-Strings.is-0, c.in-Strings-Strings.is-1) (c.eq-in-Strings-Strings.ensures ∙ items_same c.in-Strings-Strings.s.now c.in-Strings-Strings.t.now)

pub returns-in-Strings-Strings-clause-canonical : goal.returns-in-Strings-Strings-clause-canonical
returns-in-Strings-Strings-clause-canonical c =
    let xs = map (λ (v : Vec ℕ Global). v.items) c.in-Strings-Strings.s.now in
    let ys = map (λ (v : Vec ℕ Global). v.items) c.in-Strings-Strings.t.now in
    rw (c.in-Strings-Strings.is-0, c.in-Strings-Strings.is-1) (λ kinds full fuller.
    subst (λ (b : Bool). TellsField b (strings xs) (strings ys)) (sym (c.eq-in-Strings-Strings.ensures ∙ items_same c.in-Strings-Strings.s.now c.in-Strings-Strings.t.now))
    (open_tells _ (strings xs) (strings ys) refl (strings_tell xs ys)))
