use Rattle.std.proofs.Common.{◌≡◌, ◌∙◌, ap, subst, List}
use Rattle.zst_absence.specs.dnw_name.DomainName.{DomainName}
use Rattle.zst_absence.specs.zst_record.RecordSets.{RRset}
use Rattle.zst_circle.specs.NsecCircle.{IsNsecIn, is_nsec_type}
use Rattle.zst_circle.proofs.Circling.{slice_at}
use Rattle.zst_circle.proofs.Signatures.{if_ok}
use Rattle.zst_circle.proofs.TypesListed.{listed_by_sets, one_at}
use Rattle.zst_circle.proofs.by_name.nsec_set.Goals as goal

pub returns : goal.returns
returns c =
    let names = c.args.names.now in
    let sets = c.args.sets.now in
    let here = c.index-names-place.result in
    if_ok c.set_of_types.result (λ set is owner at.
    let same : here ≡ owner = one_at names c.args.place here owner c.requires.place c.index-names-place.is at in
    subst (λ (o : DomainName). IsNsecIn sets c.args.origin.now names c.args.ttl o set) same (record {
      next = c.next_on.result.now;
      follows = c.next_on.ensures.follows here (slice_at names c.args.place here c.requires.place c.index-names-place.is);
      lower = c.next_on.ensures.lower;
      types = c.in_ok-types.types;
      lists = λ zone in_zone t.
          c.in_ok-types.ensures t ∙ ap (λ (l : List RRset). is_nsec_type l c.is_delegation-delegated.result t) c.sets_at.ensures
          ∙ listed_by_sets sets c.args.origin.now zone in_zone c.in_ok-key.key here c.in_ok-key.ensures.key c.is_delegation-delegated.result (c.is_delegation-delegated.ensures zone in_zone) t;
      is = is;
    }))
    c.set_of_types.ensures
