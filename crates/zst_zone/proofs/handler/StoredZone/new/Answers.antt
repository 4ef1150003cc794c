use Rattle.std.proofs.Common.{◌≡◌, ◌∙◌, ◌∷◌, List, ap, sym, subst, rules}
use Rattle.zst_key.specs.dnw_name.declared.rr_key.RrKey.{RrKey}
use Rattle.zst_circle.specs.zst_record.RecordSets.{RRset}
use Rattle.zst_zone.specs.Makings.{PutsAll, first_refusal}
use Rattle.zst_zone.proofs.Made.{none-refused, refuses-first}
use Rattle.zst_zone.proofs.handler.StoredZone.new.Goals as goal

pub returns-in-Some-clause-refused : goal.returns-in-Some-clause-refused
returns-in-Some-clause-refused c = refuses-first c.args.records.entries c.in-Some.refused (sym c.first_refusal.ensures ∙ c.in-Some.is)

pub sets-preserved : goal.sets-preserved
sets-preserved c =
    let at = c.in-Some-pop_first.at in
    let set = c.in-Some-pop_first.set in
    let rest = c.pop_first.new.self.entries in
    let pops : c.sets.left.entries ≡ (at, set) ∷ rest = c.in-Some-pop_first.ensures.removal in
    let later = none-refused (at, set) rest (ap first_refusal (sym pops) ∙ c.sets.invariant.left) in
    record {
      none = c.sets.invariant.none;
      left = later.1;
      puts = λ made puts. c.sets.invariant.puts made
          (subst (λ (entries : List (RrKey × RRset)). PutsAll c.sets.zone entries made) (sym pops) (c.put_filled.new.self, search rules, puts));
    }
