use Rattle.std.proofs.Common.{◌∙◌, List, ℕ, ap, subst}
use Rattle.dnw_encoder.specs.Candidates.{FindsAmong, candidates_of}
use Rattle.dnw_encoder.specs.State.{Candidate}
use Rattle.dnw_encoder.specs.declared.candidates.Entry.{Entry}
use Rattle.dnw_encoder.proofs.candidates.Candidates.find.Goals as goal

pub place_of-requires : goal.place_of-requires
place_of-requires c = rw (c.as_slice.ensures, c.as_slice-2.ensures) c.self.invariant.0

pub returns : goal.returns
returns c =
    subst (λ (cs : List Candidate). FindsAmong cs c.args.octets.now c.place_of.result)
    (ap (λ (t : List ℕ). candidates_of t c.as_slice.result.now) c.as_slice-2.ensures ∙ ap (λ (es : List Entry). candidates_of c.self.inside.octets.items es) c.as_slice.ensures ∙ c.self.view_is)
    c.place_of.ensures
