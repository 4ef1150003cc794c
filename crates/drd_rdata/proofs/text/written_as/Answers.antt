use Rattle.std.proofs.Common.{inl, inr, map}
use Rattle.std.specs.Option.{option_copied}
use Rattle.drd_rdata.proofs.text.written_as.Goals as goal

pub returns-in-Ok-clause-ok : goal.returns-in-Ok-clause-ok
returns-in-Ok-clause-ok g c =
    let found = c.in-Ok.ensures.ok in
    rw (c.into_rdata.ensures, c.requires.own)
    (found.0, found.1, g.met.T.TextType.writes (map g.I.Item.AsStr.text found.0) (option_copied c.args.origin) c.in-Ok.data found.2)

pub returns-in-Ok-clause-kind : goal.returns-in-Ok-clause-kind
returns-in-Ok-clause-kind g c = rw (c.into_rdata.ensures, c.requires.own) (g.met.T.Case.named c.in-Ok.data)

pub returns-in-Ok-clause-unsupported : goal.returns-in-Ok-clause-unsupported
returns-in-Ok-clause-unsupported g c = λ none. absurd (cc (none, g.met.T.TextType.has))

pub returns-in-Err-clause-unsupported : goal.returns-in-Err-clause-unsupported
returns-in-Err-clause-unsupported g c = λ none. absurd (cc (none, g.met.T.TextType.has))

pub returns-in-Err-clause-refused : goal.returns-in-Err-clause-refused
returns-in-Err-clause-refused g c = rw c.requires.own (elim c.in-Err.ensures.refused [
  | inl memory ↦ inl memory
  | inr found ↦ inr (inl (
    found.0,
    found.1,
    λ value written.
        let x = g.met.T.TextType.alone (map g.I.Item.AsStr.text found.0) (option_copied c.args.origin) value written in
        found.2 x.0 x.2,
  ))
])

pub returns-in-Err-clause-cause : goal.returns-in-Err-clause-cause
returns-in-Err-clause-cause g c = λ has. rw c.requires.own (elim c.in-Err.ensures.cause [
  | inl memory ↦ inl memory
  | inr found ↦ inr (found.0, found.1, g.met.T.TextType.stops (map g.I.Item.AsStr.text found.0) (option_copied c.args.origin) c.in-Err.refused found.2)
])
