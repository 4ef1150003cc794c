use Rattle.std.proofs.Common.{ℕ, ◌-◌, length, take, drop, ◌≡◌, ◌++◌, ◌∷◌, [], List, inr, sym, ap, subst, ◌∙◌}
use Rattle.std.proofs.lemmas.Result.{on_err_weaker}
use Rattle.dnw_encoder.specs.Candidates.{AreWithin, candidates_of, octets_at}
use Rattle.dnw_encoder.specs.State.{Candidate}
use Rattle.dnw_encoder.specs.declared.candidates.Entry.{Entry}
use Rattle.dnw_encoder.proofs.CandidateLaws.{on_accepted, on_refused, unchanged}
use Rattle.dnw_encoder.proofs.KeepingLaws.{octets_kept}
use Rattle.dnw_encoder.specs.Starts.{AreMarked}
use Rattle.dnw_encoder.proofs.StartLaws.{marks_added, marks_grown, subst2}
use Rattle.dnw_encoder.proofs.candidates.Candidates.keep_octets.Goals as goal

pub returns-clause-ok : goal.returns-clause-ok
returns-clause-ok c =
    let kept = octets_kept c.self.inside.octets.items c.args.octets.now c.extend_from_slice.new.self.items c.self.inside.entries.items _ c.self.invariant.0 c.in_ok-extend_from_slice.ensures.ok c.len-from.ensures.value c.len-to.ensures.value (c.is_kept.ensures.0 c.if-not-is_kept.false).1 in
    let whole : candidates_of c.extend_from_slice.new.self.items c.push.new.self.items ≡ c.args.self.now ++ octets_at c.args.octets.now c.args.start ∷ [] =
    ap (λ (es : List Entry). candidates_of c.extend_from_slice.new.self.items es) (on_accepted c.push.result (sym c.is_err.ensures.value ∙ c.if-is_err.false) c.push.ensures.ok)
    ∙ kept.keeps
    ∙ ap (λ (cs : List Candidate). cs ++ octets_at c.args.octets.now c.args.start ∷ []) c.self.view_is in
    record { only = inr (whole, (c.is_kept.ensures.0 c.if-not-is_kept.false).1); becomes = λ room early. whole }

pub invariant_of-self : goal.invariant_of-self
invariant_of-self c = rw (ap (λ v. v.items) c.in_err-extend_from_slice.ensures.err) c.self.invariant

pub invariant_of-self-then-is_err : goal.invariant_of-self-then-is_err
invariant_of-self-then-is_err c =
    let same = on_refused c.push.result (sym c.is_err.ensures.value ∙ c.if-is_err.true) (on_err_weaker c.push.result (λ e. ap (λ v. v.items) e) c.push.ensures.err) in
    rw same (
      (unchanged c.self.inside.octets.items c.args.octets.now c.extend_from_slice.new.self.items c.self.inside.entries.items c.self.invariant.0 c.in_ok-extend_from_slice.ensures.ok).within,
      marks_grown c.self.inside.starts.marks c.self.inside.starts.marks c.self.inside.octets.items c.args.octets.now c.extend_from_slice.new.self.items c.self.inside.entries.items c.self.invariant.0 c.self.invariant.1 c.in_ok-extend_from_slice.ensures.ok (λ place marked. marked),
    )

pub returns-then-is_err-clause-err : goal.returns-then-is_err-clause-err
returns-then-is_err-clause-err c =
    let same = on_refused c.push.result (sym c.is_err.ensures.value ∙ c.if-is_err.true) (on_err_weaker c.push.result (λ e. ap (λ v. v.items) e) c.push.ensures.err) in
    ap (λ (es : List Entry). candidates_of c.extend_from_slice.new.self.items es) same
    ∙ (unchanged c.self.inside.octets.items c.args.octets.now c.extend_from_slice.new.self.items c.self.inside.entries.items c.self.invariant.0 c.in_ok-extend_from_slice.ensures.ok).same
    ∙ c.self.view_is

pub invariant_of-self-2 : goal.invariant_of-self-2
invariant_of-self-2 c =
    let kept = octets_kept c.self.inside.octets.items c.args.octets.now c.extend_from_slice.new.self.items c.self.inside.entries.items _ c.self.invariant.0 c.in_ok-extend_from_slice.ensures.ok c.len-from.ensures.value c.len-to.ensures.value (c.is_kept.ensures.0 c.if-not-is_kept.false).1 in
    let put = on_accepted c.push.result (sym c.is_err.ensures.value ∙ c.if-is_err.false) c.push.ensures.ok in (
      subst (λ (es : List Entry). AreWithin c.extend_from_slice.new.self.items es) (sym put) kept.within,
      marks_added c.self.inside.starts.marks c.mark_each.new.self.marks c.self.inside.octets.items c.args.octets.now c.extend_from_slice.new.self.items c.self.inside.entries.items _ c.push.new.self.items c.len-before.result
          c.self.invariant.0 c.self.invariant.1 c.in_ok-extend_from_slice.ensures.ok c.mark_each.ensures.others put c.len-before.ensures.value
          (subst2 (λ (es : List Entry) (os : List ℕ). AreMarked c.mark_each.new.self.marks os (take (length es - c.len-before.result) (drop c.len-before.result es))) c.as_slice.ensures c.as_slice-2.ensures c.mark_each.ensures.marked),
    )
