use Rattle.std.proofs.Common.{◌≡◌, ◌∙◌, ◌++◌, [], ◌∷◌, map, ap, sym, true, false}
use Rattle.std.specs.List.{list_any}
use Rattle.zst_circle.specs.dnw_name.DomainName.{name_eq}
use Rattle.zst_circle.specs.zst_handler.Answers.{set_in}
use Rattle.zst_circle.specs.zst_map.Searches.{match_set}
use Rattle.zst_zone.proofs.ChainLinks.{ends-absent, ends-asked, one-more, sets-more}
use Rattle.zst_zone.proofs.Matches.{found-match, found-none, match-leads}
use Rattle.zst_zone.proofs.chain.link.Goals as goal

pub returns-then-was_asked : goal.returns-then-was_asked
returns-then-was_asked c =
    let old : list_any (name_eq c.in_ok-key.key) c.args.asked.now.items ≡ true
    = ap (list_any (name_eq c.in_ok-key.key)) (sym c.deref.ensures.value) ∙ sym c.was_asked.ensures ∙ c.if-was_asked.true in
    λ name n few is. ends-asked c.args.sets.now name c.args.record_type (map set_in c.args.chain.now.items) c.args.asked.now.items n c.args.next.now is c.in_ok-key.key few c.in_ok-key.ensures.key old

pub returns-in_default : goal.returns-in_default
returns-in_default c =
    let none = found-none c.args.sets.now c.in_ok-key.key c.args.next.now c.args.record_type c.in_ok-key.ensures.key (rw c.in_default.is at c.in_ok-found.ensures) in
    λ name n few is. ends-absent c.args.sets.now name c.args.record_type (map set_in c.args.chain.now.items) c.args.asked.now.items n c.args.next.now is few none

pub returns : goal.returns
returns c =
    let new : list_any (name_eq c.in_ok-key.key) c.args.asked.now.items ≡ false
    = ap (list_any (name_eq c.in_ok-key.key)) (sym c.deref.ensures.value) ∙ sym c.was_asked.ensures ∙ c.if-was_asked.false in
    let there = found-match c.args.sets.now c.in_ok-key.key c.args.next.now c.args.record_type c.in-Some.found c.in_ok-key.ensures.key (rw c.in-Some.is at c.in_ok-found.ensures) in
    let longer : map set_in c.push.new.values.items ≡ map set_in c.args.chain.now.items ++ match_set c.args.next.now c.in-Some.found ∷ []
    = sets-more c.args.chain.now.items c.push.new.values.items c.in_ok-answer.field-0 (match_set c.args.next.now c.in-Some.found) c.in_ok-push.ensures.ok c.in_ok-answer.ensures in
    λ name n few is. one-more c.args.sets.now name c.args.record_type (map set_in c.args.chain.now.items) c.args.asked.now.items n c.args.next.now is
    c.in_ok-key.key (match_set c.args.next.now c.in-Some.found) _ (map set_in c.push.new.values.items) c.push-2.new.self.items few c.in_ok-key.ensures.key new there
    (c.leads.ensures ∙ sym (match-leads c.args.record_type c.args.next.now c.in-Some.found)) longer c.in_ok-push-2.ensures.items
