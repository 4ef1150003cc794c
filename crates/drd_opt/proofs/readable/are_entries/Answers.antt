use Rattle.std.proofs.Common.{◌≡◌, ◌+◌, ◌∷◌, drop, sym, ap, ◌∙◌}
use Rattle.std.proofs.lemmas.List.{drop_more}
use Rattle.drd_opt.specs.Entries.{Entry}
use Rattle.drd_opt.specs.Readable.{StandsSomewhere}
use Rattle.drd_opt.proofs.ReadableLaws.{left_next}
use Rattle.drd_opt.proofs.readable.are_entries.Goals as goal

pub entries-preserved : goal.entries-preserved
entries-preserved c =
    let es = c.args.entries.now in
    let i = c.entries.entry-index in
    let x = c.entry-item.result in
    let here : drop i es ≡ x ∷ drop (i + 1) es =
    drop_more es i x c.entries-test.true
    ∙ ap (λ (y : Entry). y ∷ drop (i + 1) es) (sym c.entry-item.is) in
    left_next StandsSomewhere es i x here (c.is_entry.ensures.0 c.if-not-is_entry.false)
    c.entries.invariant
