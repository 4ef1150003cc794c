use Rattle.std.proofs.Common.{◌≡◌, ◌∙◌, List, ℕ, length, ap, subst, sym}
use Rattle.std.specs.Prelude.{Some}
use Rattle.zst_request.specs.zst_handler.Answers.{records_in}
use Rattle.zsv_reply.specs.zst_pointing.Pointing.{ArePointing}
use Rattle.zsv_reply.specs.zst_record.declared.records.Record.{Record}
use Rattle.zsv_answer.specs.Shown.{shown_if}
use Rattle.zsv_answer.proofs.Pointing.{both_found, both_ok, found_told}
use Rattle.zsv_answer.proofs.response.Response.encode_pointing.Goals as goal

pub returns : goal.returns
returns c =
    let list = c.args.list in
    let shown = shown_if list.asked (records_in list.records.now) in
    let is : c.new-shown.result ≡ shown = c.new-shown.ensures ∙ ap (shown_if list.asked) c.iter.ensures in
    let asked = c.in-Some.asked.now in
    let count = c.in-Some-2.count in
    let some : c.in_ok-count.field-0 ≡ Some count = c.in-Some-2.is in
    let told = found_told _ _ c.in_ok-count.field-0 count some c.in_ok-count.ensures in
    let written = c.written-written.ensures asked shown (ap length (sym is) ∙ told.0)
    (subst (λ (o : List ℕ). ArePointing asked shown o) (sym c.as_slice.ensures) (subst (λ (rs : List Record). ArePointing asked rs c.write_records.new.octets.items) is told.1)) in
    both_ok _ _ _ c.encode_written.result (λ found says fits. both_found _ _ _ _ found (λ sent whole within. record {
      within = within;
      stands = λ back. whole asked _ _ c.in-Some.ensures written back;
    }) says fits) c.encode_written.ensures.ok c.encode_written.ensures.limit
