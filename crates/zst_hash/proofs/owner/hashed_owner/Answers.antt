use Rattle.std.proofs.Common.{◌≡◌, ap, arith, ◌∙◌}
use Rattle.std.specs.Prelude.{length}
use Rattle.dnw_name.specs.DomainName.{labels_len}
use Rattle.dnw_name.proofs.dnw_label_lemmas.LabelsLemmas.{length-label_octets}
use Rattle.zst_hash.proofs.Hashing.{err_when}
use Rattle.zst_hash.proofs.owner.hashed_owner.Goals as goal

pub returns-then-as_octets-gt-MAX_LENGTH-clause-owner :
    goal.returns-then-as_octets-gt-MAX_LENGTH-clause-owner
returns-then-as_octets-gt-MAX_LENGTH-clause-owner c =
    let long : length c.as_octets.result.now ≡ labels_len c.args.origin.now.labels = ap length c.as_octets.ensures.octets ∙ length-label_octets c.args.origin.now.labels in
    omega (arith, long, c.if-as_octets-gt-MAX_LENGTH.true)

pub returns-in_err-text-clause-fits : goal.returns-in_err-text-clause-fits
returns-in_err-text-clause-fits c =
    let long : length c.as_octets.result.now ≡ labels_len c.args.origin.now.labels = ap length c.as_octets.ensures.octets ∙ length-label_octets c.args.origin.now.labels in
    err_when c.from_residual.result (omega (arith, long, c.if-as_octets-gt-MAX_LENGTH.false))

pub returns-clause-fits : goal.returns-clause-fits
returns-clause-fits c =
    let long : length c.as_octets.result.now ≡ labels_len c.args.origin.now.labels = ap length c.as_octets.ensures.octets ∙ length-label_octets c.args.origin.now.labels in
    omega (arith, long, c.if-as_octets-gt-MAX_LENGTH.false)
