use Rattle.std.proofs.Common.{◌∙◌, ap, sym, subst, refl, Bool}
use Rattle.std.specs.Prelude.{Some, None, cond}
use Rattle.zst_circle.specs.Nsec3Circle.{IsSetWith}
use Rattle.zst_circle.proofs.Authoritative.{same_type}
use Rattle.zst_circle.proofs.by_hash.set_with.Goals as goal

pub returns : goal.returns
returns c =
    subst (IsSetWith c.args.owner c.args.record_type c.args.ttl c.args.octets.items) (sym c.from_record.ensures) (record {
      name = refl;
      record_type = refl;
      class = refl;
      only = _;
      one = refl;
      lasts = refl;
      held = ap (λ (b : Bool). cond b (Some c.with.result.anything.items) None) (same_type c.args.record_type) ∙ ap (λ v. Some v.items) c.with.ensures;
      bare = refl;
    })
