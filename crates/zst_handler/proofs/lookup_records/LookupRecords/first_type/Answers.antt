use Rattle.std.proofs.Common.{◌∙◌, ap, sym}
use Rattle.std.specs.Prelude.{Some, option_copied}
use Rattle.zst_handler.specs.Answers.{first_type, records_in, owner_name}
use Rattle.zst_handler.specs.declared.lookup_records.LookupRecords.{LookupRecords}
use Rattle.zst_handler.proofs.ShownRecords.{first_shown}
use Rattle.zst_handler.proofs.lookup_records.LookupRecords.first_type.Goals as goal

pub returns-in-Some : goal.returns-in-Some
returns-in-Some c =
    let set = c.in-Records.set in
    ap Some c.record_type.ensures
    ∙ sym (first_shown c.in-Records.field-0.dnssec_ok set.set.now (owner_name set.owner) set.behind c.in-Some.first.now
    (sym c.first.ensures ∙ ap option_copied c.in-Some.is))
    ∙ sym (ap (λ (found : LookupRecords). first_type (records_in found)) c.in-Records.is)
