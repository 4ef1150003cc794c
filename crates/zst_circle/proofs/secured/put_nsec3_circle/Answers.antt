use Rattle.std.proofs.Common.{arith, ◌+◌, ◌≤◌, ◌≡◌, ◌∙◌, ap, refl, subst, sym, false, inl, inr, List}
use Rattle.std.specs.Prelude.{IfSome, IsSome, IsSomeAnd, Option, Some, None, is_some}
use Rattle.std.proofs.lemmas.Bool.Decides.{nat_tests}
use Rattle.std.proofs.lemmas.Result.{err_from_is_err_and}
use Rattle.zst_absence.specs.dnw_codes.declared.record_type.RecordType.TheVariants as kind
use Rattle.zst_absence.specs.dnw_name.DomainName.{DomainName, labels_len, name_eq}
use Rattle.zst_absence.specs.zst_denial.Signing.{any_fails}
use Rattle.zst_absence.specs.zst_handler.Zones.{IsStored, rrset_at}
use Rattle.zst_absence.specs.zst_record.RecordSets.{RRset, least_ttl}
use Rattle.zst_circle.specs.Nsec3Circle.{hashing_of}
use Rattle.zst_circle.specs.Secures.{with_parameters}
use Rattle.zst_circle.specs.Securing.{AreAuthoritative, IsMade}
use Rattle.zst_circle.proofs.HashCircled.{alike_with, at_origin, on_still, same_origin}
use Rattle.zst_circle.proofs.Signatures.{err_as, ok_as}
use Rattle.zst_circle.proofs.secured.put_nsec3_circle.Goals as goal

some_part : {P Q : RRset → Type 0} (o : Option RRset) → ((s : RRset) → P s → Q s) → IsSomeAnd o P → IsSomeAnd o Q
some_part (Some s) f p = f s p
some_part None f p = absurd p

some_is : (P : RRset → Type 0) (o : Option RRset) → IsSomeAnd o P → IsSome o
some_is P (Some s) p = refl
some_is P None p = absurd p

pub returns-in_err-put_parameters-clause-failed : goal.returns-in_err-put_parameters-clause-failed
returns-in_err-put_parameters-clause-failed g c =
    let p = err_from_is_err_and c.from_residual.result c.from_residual.ensures.1 in
    rw (p.1, p.2) (λ is zone at.
    let f = c.in_err-put_parameters.ensures.failed is in
    record {
      set = f.set;
      is = inl (
        ap (λ (n : DomainName). name_eq n zone.origin) f.is.name ∙ same_origin c.args.origin.now c.args.key.now zone at.has_origin c.requires.key,
        record { only = f.is.only; one = f.is.one; held = f.is.held },
        record { record_type = f.is.record_type; class = f.is.class; lasts = ap least_ttl f.is.one ∙ f.is.lasts },
      );
      failed = f.failed;
    })

pub put_nsec3-requires-clause-names : goal.put_nsec3-requires-clause-names
put_nsec3-requires-clause-names g c = λ zone at.
    subst (λ (l : List DomainName). AreAuthoritative kind.NSEC3 zone l) (sym c.deref.ensures.value)
    (c.in_ok-names.ensures.are kind.NSEC3 zone at (λ name. c.in_ok-put_parameters.ensures.others name kind.NSEC3 refl ∙ c.requires.none name))

pub returns-clause-parameters_alone : goal.returns-clause-parameters_alone
returns-clause-parameters_alone g c =
    ok_as c.put_nsec3.result (λ others name some. c.in_ok-put_parameters.ensures.only name (ap is_some (sym (others name kind.NSEC3PARAM refl)) ∙ some))
    c.put_nsec3.ensures.others

pub returns-clause-parameters_made : goal.returns-clause-parameters_made
returns-clause-parameters_made g c =
    let P : RRset → Type 0 = λ set. IsMade g.K.ZoneSigner.gives c.args.keys.now c.args.now c.args.ttl set × (any_fails g.K.ZoneSigner.fails c.args.keys.now set c.args.now ≡ false) in
    let put = c.in_ok-put_parameters.ensures in
    let mid = c.put_parameters.new.sets in
    ok_as c.put_nsec3.result (λ others name. subst (λ (o : Option RRset). IfSome o P) (sym (others name kind.NSEC3PARAM refl))
    (at_origin c.args.sets.now mid c.args.origin.now put.others c.requires.parameters put.only P (some_part (rrset_at mid c.args.origin.now kind.NSEC3PARAM) (λ s is. (is.1, is.2)) put.made) name))
    c.put_nsec3.ensures.others

pub returns-clause-parameters_stored : goal.returns-clause-parameters_stored
returns-clause-parameters_stored g c =
    let put = c.in_ok-put_parameters.ensures in
    let mid = c.put_parameters.new.sets in
    ok_as c.put_nsec3.result (λ others name. subst (λ (o : Option RRset). IfSome o IsStored) (sym (others name kind.NSEC3PARAM refl))
    (at_origin c.args.sets.now mid c.args.origin.now put.others c.requires.parameters put.only IsStored (some_part (rrset_at mid c.args.origin.now kind.NSEC3PARAM) (λ s is. is.3) put.made) name))
    c.put_nsec3.ensures.others

pub returns-clause-failed : goal.returns-clause-failed
returns-clause-failed g c =
    let put = c.in_ok-put_parameters.ensures in
    let mid = c.put_parameters.new.sets in
    err_as c.put_nsec3.result (λ e failed is zone at. elim (failed is) [
      | inl long ↦
          let room = c.requires.room in
          let within : labels_len c.args.origin.now.labels + 34 ≤ 255 = grind (room, nat_tests, arith) in
          absurd (omega (arith, long, within))
      | inr some ↦
          let f = some (record zone { sets = mid }) (record { has_sets = refl; has_origin = at.has_origin }) in
          record {
            set = f.set;
            is = inr (
              on_still (hashing_of c.args.by) c.args.by.opt_out (record zone { sets = mid }) (with_parameters zone)
                  (alike_with c.args.sets.now mid c.args.origin.now put.others c.requires.parameters put.only zone at.has_sets
                  (same_origin c.args.origin.now c.args.key.now zone at.has_origin c.requires.key) (some_is _ (rrset_at mid c.args.origin.now kind.NSEC3PARAM) put.made)) f.set f.is.0,
              f.is.1,
            );
            failed = f.failed;
          }
    ])
    c.put_nsec3.ensures.failed
