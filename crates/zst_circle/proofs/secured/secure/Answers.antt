use Rattle.std.proofs.Common.{◌≡◌, ◌∙◌, ap, refl, subst, sym, false, List}
use Rattle.std.specs.Prelude.{IfSome, Option, option_copied}
use Rattle.zst_absence.specs.dnw_name.DomainName.{lowercase_name}
use Rattle.zst_absence.specs.zst_codes.declared.nx_proof.NxProofKind.{NxProofKind}
use Rattle.zst_absence.specs.zst_denial.Signing.{any_fails}
use Rattle.zst_absence.specs.zst_handler.Zones.{IsStored, rrset_at}
use Rattle.zst_absence.specs.zst_record.RecordSets.{RRset}
use Rattle.zst_circle.specs.Resigning.{IsResigning}
use Rattle.zst_circle.specs.Secures.{has_room, IsCircledBy, KeepsSet, Secures}
use Rattle.zst_circle.specs.Securing.{IsMade, IsZoneAt}
use Rattle.zst_circle.proofs.StoredSets.{all_stored}
use Rattle.zst_circle.proofs.Settled.{circled_then, kept_then, made_then}
use Rattle.zst_circle.proofs.secured.secure.Goals as goal

pub returns-clause-ok : goal.returns-clause-ok
returns-clause-ok g c = λ zone of.
    let gives = g.K.ZoneSigner.gives in
    let fails = g.K.ZoneSigner.fails in
    let keys = c.args.keys.now in
    let now = c.args.now in
    let old = c.args.sets.now in
    let new = c.make.new.new in
    let final = c.commit.new.new in
    let list = c.make.new.list.items in
    let key = c.args.key.now in
    let it = c.in_default.ensures in
    let moves = c.commit.ensures.moved in
    let keyed : lowercase_name zone.origin ≡ key = ap lowercase_name of.has_origin ∙ sym c.requires in
    let at : IsZoneAt old key zone = record { has_sets = of.has_sets; has_origin = keyed } in
    let P : RRset → Type 0 = λ set. IsMade gives keys now c.args.ttl set × (any_fails fails keys set now ≡ false) in
    let is : Secures gives fails keys now zone c.args.ttl (record zone { sets = final }) = record {
      rest = refl;
      room = (λ i. has_room (of.has_proof i) (of.has_origin i)) ∙ sym c.has_room.ensures ∙ c.if-not-has_room.false;
      ordered = c.commit.ensures.ordered;
      kept = λ name t other.
          subst (λ (l : List RRset). KeepsSet gives fails keys now zone name t (rrset_at l name t) (rrset_at final name t)) (sym of.has_sets)
          (kept_then old new final list moves it.listed it.there gives fails keys now key zone at it.resigned name t other);
      circle = subst (λ (o : Option NxProofKind). IsCircledBy o (record zone { sets = final })) (sym of.has_proof)
          (circled_then old new final list moves it.listed it.there (option_copied c.args.proof) zone (it.circle (record zone { sets = new }) (record { has_sets = refl; has_origin = keyed })));
      made = made_then old new final list moves it.listed it.there P it.made;
    } in
    subst (λ (sets : List RRset). Secures gives fails keys now zone c.args.ttl (record zone { sets = sets })) (sym c.replace.ensures.after) is

pub returns-clause-stored : goal.returns-clause-stored
returns-clause-stored g c = λ stored name t.
    let it = c.in_default.ensures in
    subst (λ (sets : List RRset). IfSome (rrset_at sets name t) IsStored) (sym c.replace.ensures.after)
    (all_stored c.args.sets.now c.make.new.new c.commit.new.new c.make.new.list.items
    (IsResigning g.K.ZoneSigner.gives g.K.ZoneSigner.fails c.args.keys.now c.args.now c.args.sets.now c.args.key.now) (λ p set is. is.fit) c.commit.ensures.moved it.listed it.there it.resigned it.stored stored name t)
