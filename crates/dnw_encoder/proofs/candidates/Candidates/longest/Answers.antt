use Rattle.std.proofs.Common.{◌∙◌, List, ℕ, ap, subst}
use Rattle.dnw_encoder.specs.Candidates.{FindsLongest, IsLongest, candidates_of}
use Rattle.dnw_encoder.specs.State.{Candidate}
use Rattle.dnw_encoder.specs.declared.candidates.Entry.{Entry}
use Rattle.dnw_encoder.proofs.StartLaws.{none_earlier}
use Rattle.dnw_encoder.proofs.candidates.Candidates.longest.Goals as goal

pub last_whole-requires : goal.last_whole-requires
last_whole-requires c = rw (c.as_slice-entries.ensures, c.as_slice-octets.ensures) c.self.invariant.0

pub longest_of-requires : goal.longest_of-requires
longest_of-requires c = rw (c.as_slice-entries.ensures, c.as_slice-octets.ensures) record {
  within = c.self.invariant.0;
  least = c.least_of.ensures.within;
  none = none_earlier c.self.inside.starts.marks c.self.inside.octets.items c.self.inside.entries.items c.args.name.now.labels c.least_of.result c.self.invariant.0 c.self.invariant.1 c.least_of.ensures.none;
}

pub returns-in-Some : goal.returns-in-Some
returns-in-Some c =
    subst (λ (cs : List Candidate). IsLongest cs c.args.name.now.labels c.in-Some.suffix)
    (ap (λ (t : List ℕ). candidates_of t c.as_slice-entries.result.now) c.as_slice-octets.ensures ∙ ap (λ (es : List Entry). candidates_of c.self.inside.octets.items es) c.as_slice-entries.ensures ∙ c.self.view_is)
    c.in-Some.ensures

pub returns-in-None : goal.returns-in-None
returns-in-None c =
    subst (λ (cs : List Candidate). FindsLongest cs c.args.name.now.labels c.longest_of.result)
    (ap (λ (t : List ℕ). candidates_of t c.as_slice-entries.result.now) c.as_slice-octets.ensures ∙ ap (λ (es : List Entry). candidates_of c.self.inside.octets.items es) c.as_slice-entries.ensures ∙ c.self.view_is)
    c.longest_of.ensures
