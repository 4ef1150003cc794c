use Rattle.std.proofs.Common.{◌≡◌, ◌∙◌, ◌++◌, List, ap, map}
use Rattle.std.specs.Prelude.{option_copied}
use Rattle.zst_map.specs.zst_handler.Answers.{set_in}
use Rattle.zst_map.specs.zst_handler.Lookups.{listed}
use Rattle.zst_map.specs.zst_handler.declared.answer_set.AnswerSet.{AnswerSet}
use Rattle.zst_map.specs.zst_record.RecordSets.{RRset}
use Rattle.zst_denial.specs.Denials.{each_owner_once}
use Rattle.zst_absence.specs.Absences.{unless_same}
use Rattle.zst_absence.proofs.Denied.{once_listed, shows_list}
use Rattle.zst_absence.proofs.listing.show.Goals as goal

pub returns : goal.returns
returns c =
    let a = option_copied c.args.first in
    let b = option_copied c.args.second in
    let d = option_copied c.args.third in
    let xs = c.list-3.new.shown.items in
    let second : option_copied c.unless_same.result ≡ unless_same a b = c.unless_same.ensures in
    let third : option_copied c.unless_same-3.result ≡ unless_same a (unless_same b d) = c.unless_same-3.ensures ∙ ap (unless_same a) c.unless_same-2.ensures in
    let one : map set_in c.list.new.shown.items ≡ listed a = c.in_ok-list.ensures ∙ ap (λ (ys : List AnswerSet). map set_in ys ++ listed a) c.in_ok-shown.ensures.items in
    let two : map set_in c.list-2.new.shown.items ≡ listed a ++ listed (unless_same a b) = c.in_ok-list-2.ensures ∙ (λ i. one i ++ listed (second i)) in
    let same : map set_in xs ≡ each_owner_once (listed a ++ listed b ++ listed d) = c.in_ok-list-3.ensures ∙ (λ i. two i ++ listed (third i)) ∙ once_listed a b d in
    shows_list c.args.options.dnssec_ok (each_owner_once (listed a ++ listed b ++ listed d)) xs c.many-answers.result c.answers.result c.many-answers.ensures same c.answers.ensures
