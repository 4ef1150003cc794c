use Rattle.std.proofs.Common.{◌≡◌, take}
use Rattle.std.specs.List.{fold, flat_map}
use Rattle.drd_params.proofs.list_data.feed_all.Given as goal

abbrev pub invariant-entries : goal.invariant-entries
invariant-entries g l =
    l.state ≡ fold g.H.Hasher.write l.initial.state (flat_map (λ entry. g.T.EntryData.input (g.T.Entry.spelled entry)) (take l.entry-index l.entries))
