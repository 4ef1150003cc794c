use Rattle.std.proofs.Common.{◌≡◌, ◌∙◌, ◌+◌, ◌⊎◌, inl, inr, List, ◌∷◌, Option, Some, None, Result, Ok, ap, drop, subst, sym, true}
use Rattle.std.proofs.lemmas.Bool.{true≢false}
use Rattle.std.proofs.lemmas.List.{drop_more}
use Rattle.std.specs.Prelude.{is_some}
use Rattle.std.specs.declared.alloc.AllocError.{AllocError}
use Rattle.zst_map.specs.zst_record.declared.records.Record.{Record}
use Rattle.zst_request.specs.Prerequisites.{is_valued}
use Rattle.zst_request.specs.zst_codes.declared.response_code.ResponseCode.{ResponseCode}
use Rattle.zsv_sqlite.specs.Guarded.{form_refused, refused_unasked}
use Rattle.zsv_sqlite.proofs.Unasked.{err_alone, unasked_by, valued_passes}
use Rattle.zsv_sqlite.proofs.prerequisites.first_refusal.Goals as goal

pub returns-in_err-refused-clause-form : goal.returns-in_err-refused-clause-form
returns-in_err-refused-clause-form c code e =
    let rs = c.args.prerequisites.now in
    let i = c.loop-asked.asked-index in
    let at : drop i rs ≡ c.asked-item.result ∷ drop (i + 1) rs = drop_more rs i c.asked-item.result c.loop-asked-test.true ∙ ap (λ (s : Record). s ∷ drop (i + 1) rs) (sym c.asked-item.is) in
    by (unasked_by c.args.zone.now.origin c.asked-item.result (drop (i + 1) rs) code (subst (λ (ps : List Record). refused_unasked c.args.zone.now.origin ps ≡ Some code) at (c.loop-asked.invariant.1 code e)))
  where
    by : (form_refused c.args.zone.now.origin c.asked-item.result ≡ Some code) ⊎ ((form_refused c.args.zone.now.origin c.asked-item.result ≡ None) × (is_valued c.asked-item.result ≡ true) × (refused_unasked c.args.zone.now.origin (drop (c.loop-asked.asked-index + 1) c.args.prerequisites.now) ≡ Some code)) → c.from_residual.result ≡ Ok (Some code)
    by (inl own) = absurd (err_alone _ _ (c.in_err-refused.ensures.form code own))
    by (inr later) = absurd (true≢false (sym (c.in_err-refused.ensures.valued later.1)))

pub returns-then-is_some-clause-form : goal.returns-then-is_some-clause-form
returns-then-is_some-clause-form c code e =
    let rs = c.args.prerequisites.now in
    let i = c.loop-asked.asked-index in
    let at : drop i rs ≡ c.asked-item.result ∷ drop (i + 1) rs = drop_more rs i c.asked-item.result c.loop-asked-test.true ∙ ap (λ (s : Record). s ∷ drop (i + 1) rs) (sym c.asked-item.is) in
    by (unasked_by c.args.zone.now.origin c.asked-item.result (drop (i + 1) rs) code (subst (λ (ps : List Record). refused_unasked c.args.zone.now.origin ps ≡ Some code) at (c.loop-asked.invariant.1 code e)))
  where
    by : (form_refused c.args.zone.now.origin c.asked-item.result ≡ Some code) ⊎ ((form_refused c.args.zone.now.origin c.asked-item.result ≡ None) × (is_valued c.asked-item.result ≡ true) × (refused_unasked c.args.zone.now.origin (drop (c.loop-asked.asked-index + 1) c.args.prerequisites.now) ≡ Some code)) → ◌≡◌ {A = Result (Option ResponseCode) AllocError} (Ok c.in_ok-refused.refused) (Ok (Some code))
    by (inl own) = c.in_ok-refused.ensures.form code own
    by (inr later) = absurd (true≢false (c.if-is_some.ensures ∙ ap is_some (c.in_ok-refused.ensures.refused ∙ valued_passes c.args.zone.now.origin c.args.zone.now.sets c.asked-item.result later.0 later.1)))
