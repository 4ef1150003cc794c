use Rattle.std.proofs.Common.{◌≡◌, ◌<◌, List, [], ◌∷◌, ◌++◌, All, length, sym, subst, rules, arith}
use Rattle.std.specs.List.{flat_map}
use Rattle.std.proofs.lemmas.Bool.Decides.{nat_tests}
use Rattle.std.proofs.lemmas.List.Elements.{All-push}
use Rattle.drd_param_keys.proofs.Entries.{front-more, ahead-more, next-refused}
use Rattle.drd_param_keys.proofs.entry.read_all.Goals as goal

pub returns-in-Err-clause-refused : goal.returns-in-Err-clause-refused
returns-in-Err-clause-refused g c =
    let some : 0 < length c.entries.left.now = grind (arith, nat_tests) in
    next-refused g.T.Entry.spelled g.T.Entry.refuses c.args.octets.now c.entries.found.items c.entries.left.now c.in-Err.refused c.entries.invariant.front some c.entries.invariant.ahead
    c.in-Err.ensures.refused

pub entries-preserved : goal.entries-preserved
entries-preserved g c =
    let some : 0 < length c.entries.left.now = grind (arith, nat_tests) in
    let found = c.entries.found.items in
    let entry = c.in-Ok.split.0 in
    let behind = c.in-Ok.split.1.now in
    let pushed : c.push.new.self.items ≡ found ++ entry ∷ [] = search rules in
    record {
      front = subst (λ (xs : List g.row.T.Denot). flat_map g.T.Entry.spelled xs ++ behind ≡ c.args.octets.now) (sym pushed)
          (front-more g.T.Entry.spelled found entry c.entries.left.now behind c.args.octets.now c.entries.invariant.front c.in-Ok.ensures.ok);
      valid = subst (λ (xs : List g.row.T.Denot). All g.T.Entry.valid xs) (sym pushed)
          (All-push g.T.Entry.valid found entry c.entries.invariant.valid c.in-Ok.ensures.valid);
      ahead = ahead-more g.T.Entry.spelled g.T.Entry.laws.1 c.args.octets.now c.entries.left.now entry behind some c.in-Ok.ensures.ok c.entries.invariant.ahead;
    }
