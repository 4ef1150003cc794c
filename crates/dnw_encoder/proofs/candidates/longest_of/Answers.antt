use Rattle.std.proofs.Common.{ℕ, ◌+◌, List, drop, get_or, length, refl, subst, ap, ◌∙◌, arith}
use Rattle.dnw_encoder.specs.Candidates.{ClashesAt, IsNameBehind, NoneBefore}
use Rattle.dnw_encoder.specs.declared.candidates.Entry.{Entry}
use Rattle.dnw_encoder.proofs.CandidateLaws.{blank, in_get}
use Rattle.dnw_encoder.proofs.LongestLaws.{search_start, search_other, search_longer, search_least, search_end, bar_start, bar_clash, barred_none, cannot_end}
use Rattle.dnw_encoder.proofs.SuffixLaws.{part_behind}
use Rattle.dnw_encoder.proofs.candidates.longest_of.Goals as goal
use Rattle.dnw_encoder.proofs.candidates.longest_of.Goals.{then-may_end+in-Ends+else-front-least, then-may_end+in-Clashes, then-may_end+in-Apart, else-may_end}

pub entries-init : goal.entries-init
entries-init c =
    (search_start c.args.octets.now c.args.entries.now c.args.name.now.labels c.as_octets-labels.result.now c.as_octets-labels.ensures.octets, bar_start c.args.octets.now c.args.name.now.labels)

pub octets-requires : goal.octets-requires
octets-requires c = c.requires.within _ (in_get c.args.entries.now c.entries.entry-index blank (omega arith))

pub may_end-requires : goal.may_end-requires
may_end-requires c = record {
  within = c.requires.within _ (in_get c.args.entries.now c.entries.entry-index blank (omega arith));
  most = omega (arith, ap length c.as_octets-labels.ensures.octets, c.requires.least);
}

pub meeting_of-requires : goal.meeting_of-requires
meeting_of-requires c = c.entries.invariant.0.within

pub entries-preserved : goal.entries-preserved
entries-preserved c =
    let octets = c.args.octets.now in
    let entries = c.args.entries.now in
    let labels = c.args.name.now.labels in
    let i = c.entries.entry-index in
    let e : Entry = get_or entries i blank in
    let more = c.entries-test.true in
    let searched = c.entries.invariant.0 in
    let barred = c.entries.invariant.1 in
    elim c.if-may_end.branch [
      | then-may_end+in-Ends+else-front-least w ↦
          rw (w.front-is, w.longest-is, w.to-is, w.clash-is) (
            search_longer octets entries i labels c.entries.front w.in-Ends.found c.entries.longest more searched w.in-Ends.ensures.0
                (subst (λ (o : List ℕ). IsNameBehind labels w.in-Ends.found o) w.octets.ensures w.in-Ends.ensures.1),
            barred,
          )
      | then-may_end+in-Clashes w ↦
          let bars = bar_clash octets labels e w.in-Clashes.place (c.requires.within e (in_get entries i blank more)) (subst (λ (o : List ℕ). ClashesAt labels o w.in-Clashes.place) w.octets.ensures w.in-Clashes.ensures) in
          rw (w.front-is, w.longest-is, w.to-is, w.clash-is) (
            search_other octets entries i labels c.entries.front c.entries.longest more searched (barred_none octets labels e e.to (e.from + w.in-Clashes.place) c.entries.front bars refl (omega arith)),
            bars,
          )
      | then-may_end+in-Apart w ↦
          rw (w.front-is, w.longest-is, w.to-is, w.clash-is) (
            search_other octets entries i labels c.entries.front c.entries.longest more searched
                (subst (λ (o : List ℕ). NoneBefore labels c.entries.front o) w.octets.ensures w.in-Apart.ensures),
            barred,
          )
      | else-may_end w ↦
          rw (w.front-is, w.longest-is, w.to-is, w.clash-is) (
            search_other octets entries i labels c.entries.front c.entries.longest more searched
                (cannot_end octets labels e _ _ c.args.least c.entries.front c.entries.to c.entries.clash (c.requires.within e (in_get entries i blank more)) (omega (arith, ap length c.as_octets-labels.ensures.octets)) c.requires.least
                (part_behind c.as_octets-labels.result.now c.args.least ∙ ap (drop c.args.least) c.as_octets-labels.ensures.octets) (c.requires.none e (in_get entries i blank more)) barred (c.may_end.ensures w.if-may_end.false)),
            barred,
          )
    ]

pub returns : goal.returns
returns c = search_end c.args.octets.now c.args.entries.now c.entries.entry-index c.args.name.now.labels c.entries.front c.entries.longest (omega arith) c.requires.within c.entries.invariant.0

pub returns-then-front-least : goal.returns-then-front-least
returns-then-front-least c =
    search_least c.args.octets.now c.args.entries.now c.entries.entry-index c.args.name.now.labels c.entries.front c.args.least c.in-Ends.found c.entries.longest c.entries-test.true c.requires.within c.requires.none c.entries.invariant.0 c.in-Ends.ensures.0
    (subst (λ (o : List ℕ). IsNameBehind c.args.name.now.labels c.in-Ends.found o) c.octets.ensures c.in-Ends.ensures.1)
    c.if-front-least.true
