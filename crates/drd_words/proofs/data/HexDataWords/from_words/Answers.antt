use Rattle.std.proofs.Common.{◌∙◌, ℕ, List, ◌⊎◌, inl, inr}
use lib.Chars.{codes}
use Rattle.drd_words.specs.Data.{IsHexText}
use Rattle.drd_words.specs.declared.data.HexData.{HexData}
use Rattle.drd_words.proofs.JoinedLemmas.{joined-whole, joined-refused, joined-cause}
use Rattle.drd_words.proofs.data.HexDataWords.from_words.Goals as goal

pub returns-in-Ok-clause-ok : goal.returns-in-Ok-clause-ok
returns-in-Ok-clause-ok c =
    joined-whole (IsHexText c.in-Ok.octets.items) c.args.words.now c.as_str.result.now c.if-is_empty.ensures (c.as_str.ensures.value ∙ c.in_ok-text.ensures.ok) c.in-Ok.ensures.ok

pub returns-clause-refused : goal.returns-clause-refused
returns-clause-refused c =
    joined-refused (λ (v : HexData). IsHexText v.0.items) c.args.words.now c.as_str.result.now (c.as_str.ensures.value ∙ c.in_ok-text.ensures.ok) (by_octets c.as_str.result.now c.in-Err.ensures.refused)
  where
    by_octets : {M : Type 0} (text : List ℕ) → M ⊎ ((octets : List ℕ) → IsHexText octets text → ⊥) → M ⊎ ((v : HexData) → IsHexText v.0.items text → ⊥)
    by_octets text (inl m) = inl m
    by_octets text (inr h) = inr (λ v p. h v.0.items p)

pub returns-clause-cause : goal.returns-clause-cause
returns-clause-cause c =
    joined-cause (codes "hex") IsHexText c.args.words.now c.as_str.result.now c.in-Err.refused c.if-is_empty.ensures
    (c.as_str.ensures.value ∙ c.in_ok-text.ensures.ok) c.in-Err.ensures.cause
