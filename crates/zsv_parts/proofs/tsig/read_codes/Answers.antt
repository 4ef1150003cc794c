use Rattle.std.proofs.Common.{◌≡◌, ℕ, ◌+◌, ◌∷◌, [], refl, subst, ◌∙◌, arith}
use Rattle.std.proofs.lemmas.Result.{err_from_is_err_and}
use Rattle.dnw_encoder.specs.dnw_decoder.Octets.{octets_16, number_16}
use Rattle.zsv_parts.specs.Signatures.{RefusesFields}
use Rattle.zsv_parts.proofs.TsigLaws.{took}
use Rattle.zsv_parts.proofs.tsig.read_codes.Goals as goal

pub returns-in_err-oid-clause-err : goal.returns-in_err-oid-clause-err
returns-in_err-oid-clause-err c =
    let p = err_from_is_err_and c.from_residual.result c.from_residual.ensures.1 in
    let old = c.args.decoder.now in
    rw (p.1, p.2) (c.in_err-oid.ensures.err (2 ∷ 2 ∷ number_16 old.octets (old.index + 4) ∷ []))

pub returns-in_err-error-clause-err : goal.returns-in_err-error-clause-err
returns-in_err-error-clause-err c =
    let p = err_from_is_err_and c.from_residual-in_err-error.result c.from_residual-in_err-error.ensures.1 in
    let old = c.args.decoder.now in
    rw (p.1, p.2) (took old (octets_16 c.in_ok-oid.oid) c.read_number.new.decoder 2 c.args.start c.args.len (2 ∷ 2 ∷ number_16 old.octets (old.index + 4) ∷ []) _ c.in_ok-oid.ensures.ok refl c.in_ok-oid.ensures.end (c.in_err-error.ensures.err (2 ∷ number_16 old.octets (old.index + 4) ∷ [])))

pub returns-in_err-other-clause-err : goal.returns-in_err-other-clause-err
returns-in_err-other-clause-err c =
    let p = err_from_is_err_and c.from_residual-in_err-other.result c.from_residual-in_err-other.ensures.1 in
    let old = c.args.decoder.now in
    let oid = c.in_ok-oid.ensures.ok in
    let error = c.in_ok-error.ensures.ok in
    let second = c.read_number.new.decoder in
    let third = c.read_number-2.new.decoder in
    let octets : third.octets ≡ old.octets = error.same ∙ oid.same in
    let at : third.index ≡ old.index + 4 = omega (arith, error.there.behind, oid.there.behind) in
    let size : number_16 third.octets third.index ≡ number_16 old.octets (old.index + 4) = λ i. number_16 (octets i) (at i) in
    rw (p.1, p.2) (subst (λ (n : ℕ). RefusesFields old.octets c.args.start c.args.len old.index (2 ∷ 2 ∷ 2 ∷ n ∷ []) c.in_err-other.field-0.0) size
    (took old (octets_16 c.in_ok-oid.oid) second 2 c.args.start c.args.len (2 ∷ 2 ∷ number_16 third.octets third.index ∷ []) c.in_err-other.field-0.0 oid refl c.in_ok-oid.ensures.end
    (took second (octets_16 c.in_ok-error.error) third 2 c.args.start c.args.len (2 ∷ number_16 third.octets third.index ∷ []) c.in_err-other.field-0.0 error refl c.in_ok-error.ensures.end (c.in_err-other.ensures.err []))))
