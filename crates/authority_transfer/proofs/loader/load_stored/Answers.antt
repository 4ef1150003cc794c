use Rattle.std.proofs.Common.{inl, refl, subst}
use Rattle.std.proofs.lemmas.Result.{err_from_is_err_and}
use Rattle.authority_load.specs.zst_zone.zst_handler.Zones.{Zone, empty_zone}
use Rattle.authority_transfer.specs.Transfers.{RefusesRecords, TakesAll}
use Rattle.authority_transfer.proofs.Carried.{made_again, records_alone, whole_alone}
use Rattle.authority_transfer.proofs.Given.{refused_given, transfer_loaded}
use Rattle.authority_transfer.proofs.Loading.{loaded_back}
use Rattle.authority_transfer.proofs.Taken.{takes_rest}
use Rattle.authority_transfer.proofs.loader.load_stored.Goals as goal

pub returns-in_err-records-clause-answers : goal.returns-in_err-records-clause-answers
returns-in_err-records-clause-answers c =
    let p = err_from_is_err_and c.from_residual.result c.from_residual.ensures.1 in
    rw (p.1, p.2) (inl c.in_err-records.ensures.gives)

pub returns-in_err-records-clause-two_roads : goal.returns-in_err-records-clause-two_roads
returns-in_err-records-clause-two_roads c = λ zone dnssec_ok loaded same sends.
    let p = err_from_is_err_and c.from_residual.result c.from_residual.ensures.1 in
    rw (p.1, p.2) (whole_alone (empty_zone c.args.origin c.args.settings) zone dnssec_ok c.args.reply.now refl same loaded sends c.in_err-records.field-0.0 c.in_err-records.ensures.gives c.in_err-records.ensures.unframed)

pub returns-in-Ok-take_records-clause-answers : goal.returns-in-Ok-take_records-clause-answers
returns-in-Ok-take_records-clause-answers c = record {
  records = c.in_ok-records.records.items;
  transferred = c.in_ok-records.ensures.gives;
  takes = subst (λ (z : Zone). TakesAll z c.in_ok-records.records.items c.take_records.new.zone) c.in-Ok.ensures c.in-Ok-take_records.ensures.ok;
}

pub returns-in-Ok-take_records-clause-settings : goal.returns-in-Ok-take_records-clause-settings
returns-in-Ok-take_records-clause-settings c =
    takes_rest 0 (empty_zone c.args.origin c.args.settings) c.in_ok-records.records.items c.take_records.new.zone
    (subst (λ (z : Zone). TakesAll z c.in_ok-records.records.items c.take_records.new.zone) c.in-Ok.ensures c.in-Ok-take_records.ensures.ok)

pub returns-in-Ok-take_records-clause-reads_back : goal.returns-in-Ok-take_records-clause-reads_back
returns-in-Ok-take_records-clause-reads_back c =
    loaded_back c.take_records.new.zone
    (transfer_loaded (empty_zone c.args.origin c.args.settings) c.args.reply.now c.in_ok-records.records.items c.take_records.new.zone refl c.in_ok-records.ensures.gives
    (subst (λ (z : Zone). TakesAll z c.in_ok-records.records.items c.take_records.new.zone) c.in-Ok.ensures c.in-Ok-take_records.ensures.ok)
    c.origin-origin.ensures.ordered c.origin-origin.ensures.stored)

pub returns-in-Ok-take_records-clause-loaded : goal.returns-in-Ok-take_records-clause-loaded
returns-in-Ok-take_records-clause-loaded c =
    transfer_loaded (empty_zone c.args.origin c.args.settings) c.args.reply.now c.in_ok-records.records.items c.take_records.new.zone refl c.in_ok-records.ensures.gives
    (subst (λ (z : Zone). TakesAll z c.in_ok-records.records.items c.take_records.new.zone) c.in-Ok.ensures c.in-Ok-take_records.ensures.ok)
    c.origin-origin.ensures.ordered c.origin-origin.ensures.stored

pub returns-in-Ok-take_records-clause-two_roads : goal.returns-in-Ok-take_records-clause-two_roads
returns-in-Ok-take_records-clause-two_roads c = λ zone dnssec_ok loaded same sends.
    made_again (empty_zone c.args.origin c.args.settings) zone dnssec_ok c.args.reply.now refl same loaded sends c.take_records.new.zone
    (record {
      records = c.in_ok-records.records.items;
      transferred = c.in_ok-records.ensures.gives;
      takes = subst (λ (z : Zone). TakesAll z c.in_ok-records.records.items c.take_records.new.zone) c.in-Ok.ensures c.in-Ok-take_records.ensures.ok;
    })

pub returns-in-Err-clause-answers : goal.returns-in-Err-clause-answers
returns-in-Err-clause-answers c =
    refused_given (empty_zone c.args.origin c.args.settings) c.args.reply.now c.in_ok-records.records.items c.in-Err.refused c.in_ok-records.ensures.gives
    (subst (λ (z : Zone). RefusesRecords z c.in_ok-records.records.items c.in-Err.refused) c.in-Ok.ensures c.in-Err.ensures.refused)

pub returns-in-Err-clause-two_roads : goal.returns-in-Err-clause-two_roads
returns-in-Err-clause-two_roads c = λ zone dnssec_ok loaded same sends.
    records_alone (empty_zone c.args.origin c.args.settings) zone dnssec_ok c.args.reply.now refl same loaded sends c.in_ok-records.records.items c.in-Err.refused c.in_ok-records.ensures.gives
    (subst (λ (z : Zone). RefusesRecords z c.in_ok-records.records.items c.in-Err.refused) c.in-Ok.ensures c.in-Err.ensures.refused)
