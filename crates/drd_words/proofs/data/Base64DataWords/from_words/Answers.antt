use Rattle.std.proofs.Common.{◌∙◌, ℕ, List, ◌⊎◌, inl, inr}
use lib.Chars.{codes}
use Rattle.drd_words.specs.Data.{IsBase64Text}
use Rattle.drd_words.specs.declared.data.Base64Data.{Base64Data}
use Rattle.drd_words.proofs.JoinedLemmas.{joined-whole, joined-refused, joined-cause}
use Rattle.drd_words.proofs.data.Base64DataWords.from_words.Goals as goal

pub returns-in-Ok-clause-ok : goal.returns-in-Ok-clause-ok
returns-in-Ok-clause-ok c =
    joined-whole (IsBase64Text c.in-Ok.octets.items) c.args.words.now c.as_bytes.result.now c.if-is_empty.ensures (c.as_bytes.ensures.value ∙ c.in_ok-text.ensures.ok) c.in-Ok.ensures.ok

pub returns-clause-refused : goal.returns-clause-refused
returns-clause-refused c =
    joined-refused (λ (v : Base64Data). IsBase64Text v.0.items) c.args.words.now c.as_bytes.result.now (c.as_bytes.ensures.value ∙ c.in_ok-text.ensures.ok) (by_octets c.as_bytes.result.now c.in-Err.ensures.refused)
  where
    by_octets : {M : Type 0} (text : List ℕ) → M ⊎ ((octets : List ℕ) → IsBase64Text octets text → ⊥) → M ⊎ ((v : Base64Data) → IsBase64Text v.0.items text → ⊥)
    by_octets text (inl m) = inl m
    by_octets text (inr h) = inr (λ v p. h v.0.items p)

pub returns-clause-cause : goal.returns-clause-cause
returns-clause-cause c =
    joined-cause (codes "base64") IsBase64Text c.args.words.now c.as_bytes.result.now c.in-Err.refused c.if-is_empty.ensures
    (c.as_bytes.ensures.value ∙ c.in_ok-text.ensures.ok) c.in-Err.ensures.cause
