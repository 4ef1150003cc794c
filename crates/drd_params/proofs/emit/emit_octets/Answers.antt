use Rattle.std.proofs.Common.{sym, subst}
use Rattle.drd_params.specs.dnw_encoder.Encoders.{state}
use Rattle.std.specs.Prelude.{IfErr}
use Rattle.drd_params.specs.Writing.{RefusesValueWriting}
use Rattle.drd_params.specs.declared.value.SvcParamValue.{SvcParamValue}
use Rattle.drd_params.proofs.Emitting.{alpn-refused}
use Rattle.drd_params.proofs.emit.emit_octets.Goals as goal

pub returns-in-Alpn-clause-refused : goal.returns-in-Alpn-clause-refused
returns-in-Alpn-clause-refused c =
    subst (λ (v : SvcParamValue). IfErr c.emit_entries-in-Alpn.result (RefusesValueWriting v (state c.args.encoder.now))) (sym c.in-Alpn.is)
    (alpn-refused c.emit_entries-in-Alpn.result c.in-Alpn.alpn c.deref-in-Alpn.result.now (state c.args.encoder.now) c.deref-in-Alpn.ensures.value c.emit_entries-in-Alpn.ensures.refused)
