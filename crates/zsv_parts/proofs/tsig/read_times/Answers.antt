use Rattle.std.proofs.Common.{◌≡◌, ℕ, ◌+◌, ◌∷◌, refl, subst, ◌∙◌, arith}
use Rattle.std.proofs.lemmas.Result.{err_from_is_err_and}
use Rattle.dnw_encoder.specs.dnw_decoder.Octets.{octets_16, number_16}
use Rattle.zsv_parts.specs.Signatures.{octets_48, mac_size, RefusesFields}
use Rattle.zsv_parts.proofs.TsigLaws.{length-octets_48, took}
use Rattle.zsv_parts.proofs.tsig.read_times.Goals as goal

pub returns-in_err-time-clause-err : goal.returns-in_err-time-clause-err
returns-in_err-time-clause-err c =
    let p = err_from_is_err_and c.from_residual.result c.from_residual.ensures.1 in
    let old = c.args.decoder.now in
    rw (p.1, p.2) (λ later. c.in_err-time.ensures.err (2 ∷ 2 ∷ mac_size old.octets old.index ∷ later))

pub returns-in_err-fudge-clause-err : goal.returns-in_err-fudge-clause-err
returns-in_err-fudge-clause-err c =
    let p = err_from_is_err_and c.from_residual-in_err-fudge.result c.from_residual-in_err-fudge.ensures.1 in
    let old = c.args.decoder.now in
    rw (p.1, p.2) (λ later. took old (octets_48 c.in_ok-time.time) c.read_time.new.decoder 6 c.args.start c.args.len (2 ∷ 2 ∷ mac_size old.octets old.index ∷ later) _ c.in_ok-time.ensures.ok (length-octets_48 c.in_ok-time.time) c.in_ok-time.ensures.end (c.in_err-fudge.ensures.err (2 ∷ mac_size old.octets old.index ∷ later)))

pub returns-in_err-mac-clause-err : goal.returns-in_err-mac-clause-err
returns-in_err-mac-clause-err c =
    let p = err_from_is_err_and c.from_residual-in_err-mac.result c.from_residual-in_err-mac.ensures.1 in
    let old = c.args.decoder.now in
    let time = c.in_ok-time.ensures.ok in
    let fudge = c.in_ok-fudge.ensures.ok in
    let second = c.read_time.new.decoder in
    let third = c.read_number.new.decoder in
    let octets : third.octets ≡ old.octets = fudge.same ∙ time.same in
    let at : third.index ≡ old.index + 8 = omega (arith, fudge.there.behind, time.there.behind, length-octets_48 c.in_ok-time.time) in
    let size : number_16 third.octets third.index ≡ mac_size old.octets old.index = λ i. number_16 (octets i) (at i) in
    rw (p.1, p.2) (λ later. subst (λ (n : ℕ). RefusesFields old.octets c.args.start c.args.len old.index (6 ∷ 2 ∷ 2 ∷ n ∷ later) c.in_err-mac.field-0.0) size
    (took old (octets_48 c.in_ok-time.time) second 6 c.args.start c.args.len (2 ∷ 2 ∷ number_16 third.octets third.index ∷ later) c.in_err-mac.field-0.0 time (length-octets_48 c.in_ok-time.time) c.in_ok-time.ensures.end
    (took second (octets_16 c.in_ok-fudge.fudge) third 2 c.args.start c.args.len (2 ∷ number_16 third.octets third.index ∷ later) c.in_err-mac.field-0.0 fudge refl c.in_ok-fudge.ensures.end (c.in_err-mac.ensures.err later))))
