use Rattle.std.proofs.Common.{rules, ◌≡◌, ◌∙◌, ap, refl, subst, sym, false, List, ℕ}
use Rattle.std.specs.Prelude.{Option, Some, is_some, option_copied}
use Rattle.zst_absence.specs.dnw_codes.declared.record_type.RecordType.TheVariants as kind
use Rattle.zst_absence.specs.zst_codes.declared.nx_proof.NxProofKind.{NxProofKind}
use Rattle.zst_absence.specs.zst_codes.declared.nx_proof.NxProofKind.TheVariants as proofs
use Rattle.zst_absence.specs.zst_denial.Hashed.{AreApart, IsSecuredByHash}
use Rattle.zst_absence.specs.zst_denial.Signing.{any_fails}
use Rattle.zst_absence.specs.zst_handler.Zones.{IsStored, rrset_at}
use Rattle.zst_absence.specs.zst_record.RecordLaws.{name_eq_equiv}
use Rattle.zst_absence.specs.zst_record.RecordSets.{RRset}
use Rattle.zst_circle.specs.Secures.{IsCircledBy, IsMadeFor}
use Rattle.zst_circle.specs.Securing.{IsMade, SomeFails}
use Rattle.zst_circle.proofs.HashCircled.{same_origin}
use Rattle.zst_circle.proofs.Settled.{by_types, none_is}
use Rattle.zst_circle.proofs.Signatures.{err_as, ok_three, ok_two}
use Rattle.zst_circle.proofs.secured.put_circle.Goals as goal

pub returns-in-Some-Nsec-clause-made : goal.returns-in-Some-Nsec-clause-made
returns-in-Some-Nsec-clause-made g c =
    let P : RRset → Type 0 = λ set. IsMade g.K.ZoneSigner.gives c.args.keys.now c.args.now c.args.ttl set × (any_fails g.K.ZoneSigner.fails c.args.keys.now set c.args.now ≡ false) in
    ok_two c.put_nsec_circle.result (λ made others. by_types P c.put_nsec_circle.new.sets made
    (none_is P c.put_nsec_circle.new.sets kind.NSEC3 (λ name. others name kind.NSEC3 refl ∙ c.requires.none name kind.NSEC3 refl))
    (none_is P c.put_nsec_circle.new.sets kind.NSEC3PARAM (λ name. others name kind.NSEC3PARAM refl ∙ c.requires.none name kind.NSEC3PARAM refl)))
    c.put_nsec_circle.ensures.made c.put_nsec_circle.ensures.others

pub returns-in-Some-Nsec-clause-stored : goal.returns-in-Some-Nsec-clause-stored
returns-in-Some-Nsec-clause-stored g c =
    ok_two c.put_nsec_circle.result (λ made others. by_types IsStored c.put_nsec_circle.new.sets made
    (none_is IsStored c.put_nsec_circle.new.sets kind.NSEC3 (λ name. others name kind.NSEC3 refl ∙ c.requires.none name kind.NSEC3 refl))
    (none_is IsStored c.put_nsec_circle.new.sets kind.NSEC3PARAM (λ name. others name kind.NSEC3PARAM refl ∙ c.requires.none name kind.NSEC3PARAM refl)))
    c.put_nsec_circle.ensures.stored c.put_nsec_circle.ensures.others

pub returns-in-Some-Nsec-clause-failed : goal.returns-in-Some-Nsec-clause-failed
returns-in-Some-Nsec-clause-failed g c =
    let by_nsec : option_copied c.args.proof ≡ Some proofs.Nsec = search rules in
    err_as c.put_nsec_circle.result (λ e failed is zone at. subst (λ (o : Option NxProofKind). SomeFails g.K.ZoneSigner.fails c.args.keys.now c.args.now (IsMadeFor o c.args.ttl zone)) (sym by_nsec) (failed is zone at))
    c.put_nsec_circle.ensures.failed

pub returns-in-Some-Nsec3-clause-made : goal.returns-in-Some-Nsec3-clause-made
returns-in-Some-Nsec3-clause-made g c =
    let P : RRset → Type 0 = λ set. IsMade g.K.ZoneSigner.gives c.args.keys.now c.args.now c.args.ttl set × (any_fails g.K.ZoneSigner.fails c.args.keys.now set c.args.now ≡ false) in
    let new = c.put_nsec3_circle.new.sets in
    ok_three c.put_nsec3_circle.result (λ made parameters others. by_types P new
    (none_is P new kind.NSEC (λ name. others name kind.NSEC refl refl ∙ c.requires.none name kind.NSEC refl)) made parameters)
    c.put_nsec3_circle.ensures.made c.put_nsec3_circle.ensures.parameters_made c.put_nsec3_circle.ensures.others

pub returns-in-Some-Nsec3-clause-stored : goal.returns-in-Some-Nsec3-clause-stored
returns-in-Some-Nsec3-clause-stored g c =
    let new = c.put_nsec3_circle.new.sets in
    ok_three c.put_nsec3_circle.result (λ made parameters others. by_types IsStored new
    (none_is IsStored new kind.NSEC (λ name. others name kind.NSEC refl refl ∙ c.requires.none name kind.NSEC refl)) made parameters)
    c.put_nsec3_circle.ensures.stored c.put_nsec3_circle.ensures.parameters_stored c.put_nsec3_circle.ensures.others

pub returns-in-Some-Nsec3-clause-circle : goal.returns-in-Some-Nsec3-clause-circle
returns-in-Some-Nsec3-clause-circle g c =
    let n = c.in-Some-Nsec3 in
    let new = c.put_nsec3_circle.new.sets in
    let by_hash : option_copied c.args.proof ≡ Some (proofs.Nsec3 n.field-0-0 n.salt n.iterations n.opt_out) = search rules in
    ok_three c.put_nsec3_circle.result (λ secured others alone zone at. subst (λ (o : Option NxProofKind). IsCircledBy o zone) (sym by_hash) (
      λ name. ap (λ (l : List RRset). rrset_at l name kind.NSEC) at.has_sets ∙ others name kind.NSEC refl refl ∙ c.requires.none name kind.NSEC refl,
      λ name some. name_eq_equiv.congr name c.args.origin.now zone.origin (alone name (ap (λ (l : List RRset). is_some (rrset_at l name kind.NSEC3PARAM)) (sym at.has_sets) ∙ some))
          ∙ same_origin c.args.origin.now c.args.key.now zone at.has_origin c.requires.key,
      subst (λ (salt : List ℕ). AreApart (record { salt = salt; iterations = n.iterations }) n.opt_out zone → IsSecuredByHash (record { salt = salt; iterations = n.iterations }) n.opt_out zone)
          c.as_bytes.ensures.value (secured zone at),
    ))
    c.put_nsec3_circle.ensures.secured c.put_nsec3_circle.ensures.others c.put_nsec3_circle.ensures.parameters_alone
