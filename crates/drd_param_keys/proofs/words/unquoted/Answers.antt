use Rattle.std.proofs.Common.{◌≡◌, ◌∷◌, [], ◌++◌, ℕ, List, inl, inr, refl, ap, sym, ◌∙◌, arith}
use Rattle.std.proofs.lemmas.Str.Pattern.{strip_prefix_char, strip_suffix_char}
use Rattle.drd_param_keys.proofs.words.unquoted.Goals as goal

pub returns-in-Some-strip_suffix : goal.returns-in-Some-strip_suffix
returns-in-Some-strip_suffix c =
    let front : c.args.text.now ≡ 34 ∷ c.in-Some.behind.now = rw c.in-Some.is at (strip_prefix_char 34 c.args.text.now c.strip_prefix.result c.strip_prefix.ensures.cases (omega arith)) in
    let end : c.in-Some.behind.now ≡ c.in-Some-strip_suffix.inner.now ++ 34 ∷ [] =
    rw c.in-Some-strip_suffix.is at (strip_suffix_char 34 c.in-Some.behind.now c.strip_suffix.result c.strip_suffix.ensures.cases (omega arith)) in
    inl (front ∙ ap (λ (o : List ℕ). 34 ∷ o) end)

pub returns-in-None-strip_suffix : goal.returns-in-None-strip_suffix
returns-in-None-strip_suffix c =
    let front : c.args.text.now ≡ 34 ∷ c.in-Some.behind.now = rw c.in-Some.is at (strip_prefix_char 34 c.args.text.now c.strip_prefix.result c.strip_prefix.ensures.cases (omega arith)) in
    let none = rw c.in-None-strip_suffix.is at (strip_suffix_char 34 c.in-Some.behind.now c.strip_suffix.result c.strip_suffix.ensures.cases (omega arith)) in
    inr (
      refl,
      λ between e.
          let whole : 34 ∷ c.in-Some.behind.now ≡ 34 ∷ (between ++ 34 ∷ []) = sym front ∙ e in
          let end : c.in-Some.behind.now ≡ between ++ 34 ∷ [] = cc whole in
          none between end,
    )

pub returns-in-None : goal.returns-in-None
returns-in-None c =
    let none = rw c.in-None.is at (strip_prefix_char 34 c.args.text.now c.strip_prefix.result c.strip_prefix.ensures.cases (omega arith)) in
    inr (refl, λ between e. none (between ++ 34 ∷ []) e)
