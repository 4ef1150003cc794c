use Rattle.std.proofs.Common.{◌≡◌, true, false}
use Rattle.zst_absence.specs.zst_denial.Signing.{AreSignatures, any_fails}
use Rattle.zst_circle.specs.Resigning.{IsSignedBy}
use Rattle.zst_circle.proofs.Signatures.{are_unsigned, ok_both}
use Rattle.zst_circle.proofs.resigned.sign_if.Goals as goal

pub returns-then-signs-clause-signed : goal.returns-then-signs-clause-signed
returns-then-signs-clause-signed g c =
    let gives = g.K.ZoneSigner.gives in
    let fails = g.K.ZoneSigner.fails in
    let keys = c.args.keys.now in
    let set = c.args.set.now in
    ok_both (λ signatures. AreSignatures gives keys set c.args.now signatures.items) (λ signatures. c.args.signs ≡ true → IsSignedBy gives fails keys c.args.now set signatures.items)
    (any_fails fails keys set c.args.now ≡ false) c.sign_set.result
    (λ signatures given none signs. record { given = are_unsigned gives keys set c.args.now signatures.items given; none_fails = none })
    c.sign_set.ensures.given c.sign_set.ensures.ok
