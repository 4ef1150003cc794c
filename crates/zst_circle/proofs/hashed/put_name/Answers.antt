use Rattle.std.proofs.Common.{◌≡◌, ◌∙◌, ap, sym, true, false, ◌&&◌, Bool, List, ℕ}
use Rattle.std.proofs.lemmas.Result.{on_ok_weaker}
use Rattle.zst_absence.specs.dnw_name.DomainName.{lowercase_name}
use Rattle.zst_absence.specs.zst_handler.Zones.{Zone}
use Rattle.zst_absence.specs.zst_hash.Owners.{hashed_owner}
use Rattle.zst_circle.specs.Nsec3Circle.{hashing_of, is_left_out}
use Rattle.zst_circle.specs.Securing.{IsZoneAt}
use Rattle.zst_circle.proofs.NsecHashedNames.{entries_left, entries_put_as, left_key, left_one, left_two}
use Rattle.zst_circle.proofs.hashed.put_name.Goals as goal
use Rattle.zst_circle.proofs.hashed.put_name.Goals.{else-by-via-then-by+else-is_unsigned_delegation, else-by-via-else-by}

pub returns-then-is_unsigned_delegation : goal.returns-then-is_unsigned_delegation
returns-then-is_unsigned_delegation c = λ zone at.
    let by = c.args.by in
    let name = c.args.name.now in
    let key = c.in_ok-name_key.name_key in
    let out : is_left_out by.opt_out zone key ≡ true
    = ap (λ (b : Bool). by.opt_out && b) (sym (c.is_unsigned_delegation.ensures zone at) ∙ c.if-is_unsigned_delegation.true) ∙ ap (λ (b : Bool). b && true) c.if-by.true in
    entries_left (hashing_of by) by.opt_out zone c.args.origin.now c.args.circle.now.entries name (sym (left_key by.opt_out zone name key c.in_ok-name_key.ensures.key) ∙ out)

pub returns : goal.returns
returns c =
    let by = c.args.by in
    let name = c.args.name.now in
    let key = c.in_ok-name_key.name_key in
    let kept : (zone : Zone) → IsZoneAt c.args.sets.now c.args.key.now zone → is_left_out by.opt_out zone key ≡ false
    = λ zone at. elim c.else-by.branch [
      | else-by-via-then-by+else-is_unsigned_delegation w ↦ left_two by.opt_out zone key (sym (w.is_unsigned_delegation.ensures zone at) ∙ w.if-is_unsigned_delegation.false)
      | else-by-via-else-by w ↦ left_one by.opt_out zone key w.if-by.false
    ] in
    on_ok_weaker c.put.result
    (λ is zone at. entries_put_as (hashing_of by) by.opt_out zone c.args.origin.now c.args.circle.now.entries c.put.new.map.entries name c.in_ok-of.field-0 (record { key = key; digest = c.nsec3_digest-digest.result }) (sym (left_key by.opt_out zone name key c.in_ok-name_key.ensures.key) ∙ kept zone at) is
    (c.in_ok-of.ensures.key ∙ ap lowercase_name (c.in_ok-owner.ensures ∙ ap (λ (d : List ℕ). hashed_owner d c.args.origin.now) c.nsec3_digest-digest.ensures))
    (λ i. record { key = c.in_ok-name_key.ensures.key i; digest = c.nsec3_digest-digest.ensures i }))
    c.put.ensures
