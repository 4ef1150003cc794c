use Rattle.std.proofs.Common.{subst, sym}
use Rattle.std.proofs.lemmas.Map.Iter.{rest_more}
use Rattle.zst_map.specs.dnw_name.DomainName.{DomainName}
use Rattle.zst_draft.specs.Settling.{Drafted}
use Rattle.zst_draft.specs.declared.owner.OwnerDraft.{OwnerDraft}
use Rattle.zst_draft.proofs.Loops.{PutsOwners, first_can, puts_owner}
use Rattle.zst_draft.proofs.commit.put_owners.Goals as goal

pub put_owner-requires : goal.put_owner-requires
put_owner-requires c =
    let rest = rest_more (λ (p : DomainName × OwnerDraft). p) c.owners.key-iterator c.next.new.self c.next.result (c.in-Some.key, c.in-Some.owner) c.in-Some.is c.next.ensures.steps in
    first_can c.args.zone.now c.owners.zone c.args.owners.entries c.owners.put.items c.owners.key-iterator c.next.new.self c.in-Some.key c.in-Some.owner
    rest c.owners.invariant.puts

pub owners-preserved : goal.owners-preserved
owners-preserved c =
    let rest = rest_more (λ (p : DomainName × OwnerDraft). p) c.owners.key-iterator c.next.new.self c.next.result (c.in-Some.key, c.in-Some.owner) c.in-Some.is c.next.ensures.steps in
    record {
      puts = subst (λ (done : Drafted). PutsOwners c.args.zone.now c.args.owners.entries c.put_owner.new.zone done c.next.new.self) (sym {A = Drafted} c.in_ok-push.ensures.ok)
          (puts_owner c.args.zone.now c.owners.zone c.put_owner.new.zone c.args.owners.entries c.owners.put.items c.owners.key-iterator c.next.new.self c.in-Some.key c.in-Some.owner c.put_owner.new.owner
          rest c.in_ok-put_owner.ensures.settles c.in_ok-put_owner.ensures.ready c.owners.invariant.puts);
      back = λ start from. c.put_owner.ensures.back start (c.owners.invariant.back start from);
    }
