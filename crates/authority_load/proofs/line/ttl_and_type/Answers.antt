use Rattle.std.proofs.Common.{ap, ◌≡◌, ◌≤◌, length, arith, rules, sym, ◌∙◌}
use Rattle.std.specs.Prelude.{Some}
use Rattle.std.proofs.lemmas.Result.{err_from_is_err_and}
use Rattle.zst_zone.specs.dnw_codes.declared.record_type.RecordType.{RecordType}
use Rattle.authority_load.specs.declared.loader.LoadCause.TheVariants as causes
use Rattle.authority_load.specs.ZoneText.{words_of, type_of_text}
use Rattle.authority_load.proofs.Causes.{ttl_refused, class_refused, type_refused, not_loaded, field_read, heading_of}
use Rattle.authority_load.proofs.line.ttl_and_type.Goals as goal

pub returns-in_default : goal.returns-in_default
returns-in_default c = λ line name spelled owned zone.
    let long : 4 ≤ length (words_of line) = omega (arith, ap length spelled) in
    ttl_refused zone line 5 c.args.fields.now.owner.now c.args.fields.now.ttl.now _ name spelled long owned c.in_default.ensures

pub returns-then-not-is_internet_word : goal.returns-then-not-is_internet_word
returns-then-not-is_internet_word c = λ line name spelled owned zone.
    let timed = c.in-Some.ensures in
    class_refused zone line 5 _ _ _ _ _ name c.in-Some.ttl spelled owned timed (search rules)

pub returns-in_err-record_type : goal.returns-in_err-record_type
returns-in_err-record_type c =
    let p = err_from_is_err_and c.from_residual.result c.from_residual.ensures.1 in
    rw (p.1, p.2) (λ line name spelled owned zone.
    let timed = c.in-Some.ensures in
    type_refused zone line _ _ _ _ _ name c.in-Some.ttl c.parse_type.result _ spelled owned timed (search rules) c.parse_type.ensures (sym c.in_err-record_type.ensures))

pub returns-then-is_of_messages : goal.returns-then-is_of_messages
returns-then-is_of_messages c = λ line name spelled owned zone.
    let timed = c.in-Some.ensures in
    let typed = field_read (λ (t : RecordType). type_of_text c.args.fields.now.record_type.now ≡ Some t) causes.UnknownType c.parse_type.result c.in_ok-record_type.record_type c.parse_type.ensures (sym c.in_ok-record_type.ensures) in
    not_loaded zone line 5 _ _ _ _ _ name c.in-Some.ttl c.in_ok-record_type.record_type spelled owned timed (search rules) typed (sym c.is_of_messages.ensures ∙ c.if-is_of_messages.true)

pub returns : goal.returns
returns c = λ line name spelled owned.
    let timed = c.in-Some.ensures in
    let typed = field_read (λ (t : RecordType). type_of_text c.args.fields.now.record_type.now ≡ Some t) causes.UnknownType c.parse_type.result c.in_ok-record_type.record_type c.parse_type.ensures (sym c.in_ok-record_type.ensures) in
    heading_of line _ _ _ _ _ name c.in-Some.ttl c.in_ok-record_type.record_type spelled owned timed (search rules) typed (sym c.is_of_messages.ensures ∙ c.if-is_of_messages.false)
