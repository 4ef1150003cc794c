use Rattle.std.proofs.Common.{List, ℕ, subst}
use Rattle.std.specs.List.{slice_range}
use Rattle.dnw_encoder.specs.Candidates.{FindsAmong}
use Rattle.dnw_encoder.specs.Encoders.{state}
use Rattle.dnw_encoder.proofs.CandidateLaws.{finds_candidate}
use Rattle.dnw_encoder.proofs.encoder.BinEncoder.get_label_pointer.Goals as goal

pub returns-clause-place : goal.returns-clause-place
returns-clause-place c =
    finds_candidate (state c.args.self.now) (slice_range c.args.self.now.buffer.now.items c.args.start c.args.end) c.find.result
    (subst (λ (o : List ℕ). FindsAmong c.args.self.now.candidates (slice_range o c.args.start c.args.end) c.find.result) c.deref.ensures.value c.find.ensures)
