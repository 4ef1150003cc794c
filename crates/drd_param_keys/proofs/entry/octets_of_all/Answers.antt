use Rattle.std.proofs.Common.{ap, length, arith}
use Rattle.std.proofs.lemmas.List.Folds.{length-flat_map-take}
use Rattle.drd_param_keys.proofs.entry.octets_of_all.Goals as goal

pub returns-in_default : goal.returns-in_default
returns-in_default g c =
    omega (
      arith,
      length-flat_map-take g.T.Entry.spelled c.args.entries.now c.entries.entry-index c.entry-item.result (omega arith),
      ap (λ x. length (g.T.Entry.spelled x)) c.entry-item.is,
      c.octet_len.ensures,
      c.in_default.ensures,
    )

pub returns-in-None : goal.returns-in-None
returns-in-None g c =
    omega (
      arith,
      length-flat_map-take g.T.Entry.spelled c.args.entries.now c.entries.entry-index c.entry-item.result (omega arith),
      ap (λ x. length (g.T.Entry.spelled x)) c.entry-item.is,
      c.octet_len.ensures,
      c.entries.invariant,
      c.in-Ok.ensures,
      c.in-None.ensures,
    )
