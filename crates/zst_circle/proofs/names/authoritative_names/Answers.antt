use Rattle.std.proofs.Common.{◌≡◌, [], List, sym, subst}
use Rattle.std.specs.Prelude.{MatchOption, IfSome, Option}
use Rattle.zst_absence.specs.dnw_name.DomainName.{DomainName, lowercase_name}
use Rattle.zst_circle.specs.Securing.{IsAuthoritativeOwner}
use Rattle.zst_circle.proofs.Authoritative.{Listing, listed_all, lists_all, lists_none, lists_one}
use Rattle.zst_circle.proofs.names.authoritative_names.Goals as goal

pub owners-init : goal.owners-init
owners-init c =
    let sets = c.args.sets.now in
    let origin = c.args.origin.now in
    let owners = c.owners-key-items in
    subst (λ (names : List DomainName). Listing sets origin c.into_iter-key-iterator.result names) (sym c.new-names.ensures.items)
    (subst (λ (left : List DomainName). Listing sets origin left []) (sym c.into_iter-key-iterator.ensures.into_iter_gives)
    (lists_all sets origin owners.result owners.ensures.ordered owners.ensures.each))

pub owners-preserved-in-Continue-branch-3 : goal.owners-preserved-in-Continue-branch-3
owners-preserved-in-Continue-branch-3 c =
    let sets = c.args.sets.now in
    let origin = c.args.origin.now in
    let names = c.owners.names.items in
    let last = c.in-Some-2.name in
    let key = c.in-Some.key.now in
    subst (Listing sets origin c.next.new.self) (sym c.in_ok-push.ensures.ok)
    (lists_one sets origin key c.next.new.self names last
    (subst (λ (left : List DomainName). Listing sets origin left names) c.in-Some.ensures.steps c.owners.invariant)
    (subst (λ (o : Option DomainName). IfSome o (λ name. name ≡ lowercase_name key)) c.in-Some-2.is c.in_ok-name.ensures.named)
    (λ zone at. subst (λ (o : Option DomainName). MatchOption o (IsAuthoritativeOwner zone key → ⊥) (λ name. IsAuthoritativeOwner zone key)) c.in-Some-2.is (c.in_ok-name.ensures.is zone at)))

pub owners-preserved : goal.owners-preserved
owners-preserved c =
    let sets = c.args.sets.now in
    let origin = c.args.origin.now in
    let names = c.owners.names.items in
    let key = c.in-Some.key.now in
    lists_none sets origin key c.next.new.self names
    (subst (λ (left : List DomainName). Listing sets origin left names) c.in-Some.ensures.steps c.owners.invariant)
    (λ zone at. subst (λ (o : Option DomainName). MatchOption o (IsAuthoritativeOwner zone key → ⊥) (λ name. IsAuthoritativeOwner zone key)) c.in_default.is (c.in_ok-name.ensures.is zone at))

pub returns-clause-are : goal.returns-clause-are
returns-clause-are c = λ circle zone at none.
    listed_all c.args.sets.now c.args.origin.now c.owners.names.items
    (subst (λ (left : List DomainName). Listing c.args.sets.now c.args.origin.now left c.owners.names.items) c.in-None.ensures.steps.0 c.owners.invariant) circle zone at none
