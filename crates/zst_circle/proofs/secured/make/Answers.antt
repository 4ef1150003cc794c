use Rattle.std.proofs.Common.{[], refl, inl, inr}
use Rattle.zst_circle.proofs.Placing.{can_still, listed_all}
use Rattle.zst_circle.proofs.Settled.{made_bare}
use Rattle.zst_circle.proofs.Signatures.{err_as, ok_as}
use Rattle.zst_circle.proofs.secured.make.Goals as goal

pub returns-clause-can : goal.returns-clause-can
returns-clause-can g c =
    let list = c.placeholders.new.list.items in
    let placed = c.in_ok-placeholders.ensures in
    ok_as c.put_circle.result (λ others. can_still c.args.old.now c.placeholders.new.new c.put_circle.new.sets list list others placed.listed (listed_all [] list) placed.can)
    c.put_circle.ensures.others

pub returns-clause-failed : goal.returns-clause-failed
returns-clause-failed g c =
    let placed = c.in_ok-placeholders.ensures in
    err_as c.put_circle.result (λ e failed is zone at.
    inr (inl (made_bare g.K.ZoneSigner.gives g.K.ZoneSigner.fails c.args.keys.now c.args.now _ c.args.ttl c.args.old.now c.placeholders.new.new zone at.has_sets placed.there
    (failed is (record zone { sets = c.placeholders.new.new }) (record { has_sets = refl; has_origin = at.has_origin })))))
    c.put_circle.ensures.failed
