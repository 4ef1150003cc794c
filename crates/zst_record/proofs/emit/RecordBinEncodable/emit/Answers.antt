use Rattle.std.proofs.Common.{subst}
use Rattle.std.specs.Prelude.{IfErr}
use Rattle.drd_rdata.specs.dnw_encoder.Encoders.{state}
use Rattle.zst_record.specs.Writing.{RefusesRecord}
use Rattle.zst_record.specs.declared.records.Record.{Record}
use Rattle.zst_record.proofs.emit.RecordBinEncodable.emit.Goals as goal

pub returns-clause-err : goal.returns-clause-err
returns-clause-err c =
    subst (λ (r : Record). IfErr c.emit.result (λ e. RefusesRecord r (state c.args.encoder.now) e)) c.lend.ensures c.emit.ensures.err
