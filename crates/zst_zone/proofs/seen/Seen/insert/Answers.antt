use Rattle.std.proofs.Common.{◌≡◌, ◌∙◌, ◌++◌, List, IfOk, ap, not, subst, sym, true}
use Rattle.std.proofs.lemmas.Result.{on_ok_weaker}
use Rattle.std.specs.Prelude.{Bool, cond}
use Rattle.std.specs.List.{list_any}
use Rattle.zst_zone.specs.Seen.{AreRising}
use Rattle.zst_circle.specs.dnw_name.DomainName.{DomainName, name_eq}
use Rattle.zst_zone.proofs.SeenKeys.{appended, new-key, no-items, rises, second-tells}
use Rattle.zst_zone.proofs.seen.Seen.insert.Goals as goal

pub returns-then-is_past-clause-new : goal.returns-then-is_past-clause-new
returns-then-is_past-clause-new c = ap not (sym (new-key c.args.self.now.rising.items c.args.self.now.hashed.keys c.args.key (no-items c.args.self.now.hashed.keys (c.is_empty.ensures.0 c.if-is_empty.true)) (c.is_past.ensures c.if-is_past.true)))

pub returns-then-is_past-clause-after : goal.returns-then-is_past-clause-after
returns-then-is_past-clause-after c = λ k.
    ap (λ (keys : List DomainName). list_any (name_eq k) (keys ++ c.args.self.now.hashed.keys)) c.in_ok-append.ensures
    ∙ appended c.args.self.now.rising.items c.args.self.now.hashed.keys c.args.key k

pub returns-then-is_past-clause-rising : goal.returns-then-is_past-clause-rising
returns-then-is_past-clause-rising c = subst AreRising (sym c.in_ok-append.ensures) (rises c.args.key c.args.self.now.rising.items (c.is_past.ensures c.if-is_past.true))

pub returns-clause-new : goal.returns-clause-new
returns-clause-new c =
    subst (λ (b : Bool). IfOk c.put.result (λ new. new ≡ not b))
    (second-tells c.hash.new.self.rising.items c.hash.new.self.hashed.keys c.args.key c.in_ok-hash.ensures.all ∙ c.in_ok-hash.ensures.same c.args.key)
    c.put.ensures.new

pub returns-clause-after : goal.returns-clause-after
returns-clause-after c =
    on_ok_weaker c.put.result
    (λ puts k.
    sym (second-tells c.hash.new.self.rising.items c.put.new.keys.keys k c.in_ok-hash.ensures.all)
    ∙ puts k
    ∙ ap (λ (b : Bool). cond (name_eq c.args.key k) true b)
    (second-tells c.hash.new.self.rising.items c.hash.new.self.hashed.keys k c.in_ok-hash.ensures.all ∙ c.in_ok-hash.ensures.same k))
    c.put.ensures.after
