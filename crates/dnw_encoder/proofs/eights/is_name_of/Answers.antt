use Rattle.std.proofs.Common.{ℕ, List, ◌∷◌, [], ◌++◌, ap, ◌∙◌}
use Rattle.dnw_encoder.proofs.CandidateLaws.{last_of}
use Rattle.dnw_encoder.proofs.eights.is_name_of.Goals as goal

pub returns-then-end-eq0 : goal.returns-then-end-eq0
returns-then-end-eq0 c =
    let front = c.in-Some.front.now in
    let labels = c.args.labels.now in (
      λ test.
          c.in-Some.ensures.cases.0
          ∙ ap (λ (end : ℕ). front ++ end ∷ []) c.if-end-eq0.true
          ∙ ap (λ (t : List ℕ). t ++ 0 ∷ []) (c.are_same.ensures.0 test),
      λ is. c.are_same.ensures.1 (last_of c.args.octets.now front c.in-Some.end.now c.in-Some.ensures.cases.0 labels is).0,
    )
