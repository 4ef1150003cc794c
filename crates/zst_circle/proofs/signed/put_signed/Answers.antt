use Rattle.std.proofs.Common.{subst}
use Rattle.std.specs.Prelude.{Some}
use Rattle.zst_absence.specs.zst_handler.Updates.{Replaces}
use Rattle.zst_absence.specs.zst_record.RecordSets.{RRset}
use Rattle.zst_circle.proofs.Signatures.{are_unsigned}
use Rattle.zst_circle.proofs.signed.put_signed.Goals as goal

pub returns-clause-ok : goal.returns-clause-ok
returns-clause-ok g c =
    let set = c.args.set in
    let signatures = c.in-Ok.signatures.items in (
      signatures,
      are_unsigned g.K.ZoneSigner.gives c.args.keys.now set c.args.now signatures c.in-Ok.ensures.given,
      subst (λ (s : RRset). Replaces c.args.sets.now s.name s.record_type (Some s) c.put.new.self) c.sign_with.ensures c.in_ok-put.ensures.ok,
    )
