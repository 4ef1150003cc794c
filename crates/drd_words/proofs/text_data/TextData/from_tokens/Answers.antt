use Rattle.std.proofs.Common.{inl, inr, map}
use Rattle.std.specs.Option.{option_copied}
use Rattle.drd_words.proofs.text_data.TextData.from_tokens.Goals as goal

pub returns-in-Err-clause-cause : goal.returns-in-Err-clause-cause
returns-in-Err-clause-cause g c = elim c.in-Err.ensures.cause [
  | inl memory ↦ inl memory
  | inr found ↦ inr (found.0, found.1, g.met.Self.TextData.laws.1 (map g.I.Item.AsStr.text found.0) (option_copied c.args.origin) c.in-Err.refused found.2)
]
