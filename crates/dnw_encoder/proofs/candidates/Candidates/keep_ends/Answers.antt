use Rattle.std.proofs.Common.{◌-◌, length, take, drop, ◌≡◌, ℕ, ◌++◌, ◌∷◌, [], List, sym, ap, subst, ◌∙◌, append_assoc}
use Rattle.std.proofs.lemmas.Result.{on_ok_weaker, on_err_weaker}
use Rattle.dnw_decoder.specs.dnw_label.Labels.{label_octets}
use Rattle.dnw_encoder.specs.Candidates.{AreWithin, IsWithin, candidates_of}
use Rattle.dnw_encoder.specs.Members.{In}
use Rattle.dnw_encoder.specs.declared.candidates.Entry.{Entry}
use Rattle.dnw_encoder.proofs.CandidateLaws.{on_accepted, on_either, on_refused, unchanged}
use Rattle.dnw_encoder.proofs.KeepingLaws.{keeping}
use Rattle.dnw_encoder.specs.Starts.{AreMarked}
use Rattle.dnw_encoder.proofs.StartLaws.{in_part, marks_added, marks_grown, refused_same, subst2}
use Rattle.dnw_encoder.proofs.candidates.Candidates.keep_ends.Goals as goal

pub returns-clause-ok : goal.returns-clause-ok
returns-clause-ok c =
    let before = c.self.inside.octets.items in
    let labels = label_octets c.args.name.now.labels in
    let grown : c.push.new.self.items ≡ before ++ (labels ++ 0 ∷ []) =
    on_accepted c.push.result (sym c.is_err.ensures.value ∙ c.if-is_err.false) c.push.ensures.ok
    ∙ ap (λ (t : List ℕ). t ++ 0 ∷ []) (c.in_ok-extend_from_slice.ensures.ok ∙ ap (λ (t : List ℕ). before ++ t) c.as_octets.ensures.octets)
    ∙ append_assoc before labels (0 ∷ []) in
    let kept = keeping c.args.name.now.labels c.args.front c.len-to.result c.args.start c.args.end before c.push.new.self.items c.self.inside.entries.items c.push_name.new.entries.items c.self.invariant.0 grown c.len-to.ensures.value c.requires.front c.in_ok-push_name.ensures.ok in
    rw (sym c.self.view_is) kept.keeps

pub invariant_of-self : goal.invariant_of-self
invariant_of-self c = rw (ap (λ v. v.items) c.in_err-extend_from_slice.ensures.err) c.self.invariant

pub invariant_of-self-then-is_err : goal.invariant_of-self-then-is_err
invariant_of-self-then-is_err c =
    let grown = on_refused c.push.result (sym c.is_err.ensures.value ∙ c.if-is_err.true) (on_err_weaker c.push.result (λ same. ap (λ v. v.items) same) c.push.ensures.err) ∙ c.in_ok-extend_from_slice.ensures.ok in (
      (unchanged c.self.inside.octets.items c.as_octets.result.now c.push.new.self.items c.self.inside.entries.items c.self.invariant.0 grown).within,
      marks_grown c.self.inside.starts.marks c.self.inside.starts.marks c.self.inside.octets.items c.as_octets.result.now c.push.new.self.items c.self.inside.entries.items c.self.invariant.0 c.self.invariant.1 grown (λ place marked. marked),
    )

pub returns-then-is_err-clause-err : goal.returns-then-is_err-clause-err
returns-then-is_err-clause-err c =
    (unchanged c.self.inside.octets.items c.as_octets.result.now c.push.new.self.items c.self.inside.entries.items c.self.invariant.0
    (on_refused c.push.result (sym c.is_err.ensures.value ∙ c.if-is_err.true) (on_err_weaker c.push.result (λ same. ap (λ v. v.items) same) c.push.ensures.err) ∙ c.in_ok-extend_from_slice.ensures.ok)).same
    ∙ c.self.view_is

pub invariant_of-self-in_err-push_name : goal.invariant_of-self-in_err-push_name
invariant_of-self-in_err-push_name c =
    let before = c.self.inside.octets.items in
    let labels = label_octets c.args.name.now.labels in
    let grown : c.push.new.self.items ≡ before ++ (labels ++ 0 ∷ []) =
    on_accepted c.push.result (sym c.is_err.ensures.value ∙ c.if-is_err.false) c.push.ensures.ok
    ∙ ap (λ (t : List ℕ). t ++ 0 ∷ []) (c.in_ok-extend_from_slice.ensures.ok ∙ ap (λ (t : List ℕ). before ++ t) c.as_octets.ensures.octets)
    ∙ append_assoc before labels (0 ∷ []) in
    rw c.in_err-push_name.ensures.err (
      (unchanged before (labels ++ 0 ∷ []) c.push.new.self.items c.self.inside.entries.items c.self.invariant.0 grown).within,
      marks_grown c.self.inside.starts.marks c.self.inside.starts.marks before (labels ++ 0 ∷ []) c.push.new.self.items c.self.inside.entries.items c.self.invariant.0 c.self.invariant.1 grown (λ place marked. marked),
    )

pub returns-in_err-push_name-clause-err : goal.returns-in_err-push_name-clause-err
returns-in_err-push_name-clause-err c =
    let before = c.self.inside.octets.items in
    let labels = label_octets c.args.name.now.labels in
    let grown : c.push.new.self.items ≡ before ++ (labels ++ 0 ∷ []) =
    on_accepted c.push.result (sym c.is_err.ensures.value ∙ c.if-is_err.false) c.push.ensures.ok
    ∙ ap (λ (t : List ℕ). t ++ 0 ∷ []) (c.in_ok-extend_from_slice.ensures.ok ∙ ap (λ (t : List ℕ). before ++ t) c.as_octets.ensures.octets)
    ∙ append_assoc before labels (0 ∷ []) in
    refused_same c.from_residual-in_err-push_name.result
    (ap (λ (es : List Entry). candidates_of c.push.new.self.items es) c.in_err-push_name.ensures.err
    ∙ (unchanged before (labels ++ 0 ∷ []) c.push.new.self.items c.self.inside.entries.items c.self.invariant.0 grown).same
    ∙ c.self.view_is)

pub mark_each-requires : goal.mark_each-requires
mark_each-requires c =
    let before = c.self.inside.octets.items in
    let labels = label_octets c.args.name.now.labels in
    let grown : c.push.new.self.items ≡ before ++ (labels ++ 0 ∷ []) =
    on_accepted c.push.result (sym c.is_err.ensures.value ∙ c.if-is_err.false) c.push.ensures.ok
    ∙ ap (λ (t : List ℕ). t ++ 0 ∷ []) (c.in_ok-extend_from_slice.ensures.ok ∙ ap (λ (t : List ℕ). before ++ t) c.as_octets.ensures.octets)
    ∙ append_assoc before labels (0 ∷ []) in
    let kept = keeping c.args.name.now.labels c.args.front c.len-to.result c.args.start c.args.end before c.push.new.self.items c.self.inside.entries.items c.push_name.new.entries.items c.self.invariant.0 grown c.len-to.ensures.value c.requires.front c.in_ok-push_name.ensures.ok in
    λ e member. subst2 (λ (os : List ℕ) (es : List Entry). (x : Entry) → In x es → IsWithin os x) (sym c.as_slice-2.ensures) (sym c.as_slice.ensures) kept.within e (in_part e c.len-before.result c.as_slice.result.now member)

pub invariant_of-self-2 : goal.invariant_of-self-2
invariant_of-self-2 c =
    let before = c.self.inside.octets.items in
    let labels = label_octets c.args.name.now.labels in
    let grown : c.push.new.self.items ≡ before ++ (labels ++ 0 ∷ []) =
    on_accepted c.push.result (sym c.is_err.ensures.value ∙ c.if-is_err.false) c.push.ensures.ok
    ∙ ap (λ (t : List ℕ). t ++ 0 ∷ []) (c.in_ok-extend_from_slice.ensures.ok ∙ ap (λ (t : List ℕ). before ++ t) c.as_octets.ensures.octets)
    ∙ append_assoc before labels (0 ∷ []) in
    let kept = keeping c.args.name.now.labels c.args.front c.len-to.result c.args.start c.args.end before c.push.new.self.items c.self.inside.entries.items c.push_name.new.entries.items c.self.invariant.0 grown c.len-to.ensures.value c.requires.front c.in_ok-push_name.ensures.ok in (
      kept.within,
      marks_added c.self.inside.starts.marks c.mark_each.new.self.marks before (labels ++ 0 ∷ []) c.push.new.self.items c.self.inside.entries.items c.in_ok-push_name.ensures.ok.added c.push_name.new.entries.items c.len-before.result
          c.self.invariant.0 c.self.invariant.1 grown c.mark_each.ensures.others c.in_ok-push_name.ensures.ok.appended c.len-before.ensures.value
          (subst2 (λ (es : List Entry) (os : List ℕ). AreMarked c.mark_each.new.self.marks os (take (length es - c.len-before.result) (drop c.len-before.result es))) c.as_slice.ensures c.as_slice-2.ensures c.mark_each.ensures.marked),
    )
