use Rattle.std.proofs.lemmas.Result.{on_ok_weaker}
use Rattle.zst_absence.specs.dnw_codes.declared.record_type.RecordType.TheVariants as kind
use Rattle.zst_circle.proofs.NsecHashedParameters.{only_there, others_stay}
use Rattle.zst_circle.proofs.by_hash.put_parameters.Goals as goal

pub returns-clause-others : goal.returns-clause-others
returns-clause-others g c =
    on_ok_weaker c.put_signed.result (λ ok. others_stay c.args.sets.now c.put_signed.new.sets kind.NSEC3PARAM c.in_ok-set.set (record c.in_ok-set.set { signatures = ok.0 }) c.in_ok-set.ensures.record_type ok.2) c.put_signed.ensures.ok

pub returns-clause-only : goal.returns-clause-only
returns-clause-only g c =
    on_ok_weaker c.put_signed.result (λ ok. only_there c.args.sets.now c.put_signed.new.sets kind.NSEC3PARAM c.in_ok-set.set (record c.in_ok-set.set { signatures = ok.0 }) c.args.origin.now c.in_ok-set.ensures.name c.requires.none ok.2) c.put_signed.ensures.ok
