use Rattle.std.proofs.Common.{◌+◌, ℕ, ◌++◌, ◌∷◌, [], List, length, sym, ap, ◌∙◌, arith}
use Rattle.dnw_decoder.specs.dnw_name.DomainName.{name_octets}
use Rattle.dnw_decoder.proofs.Standing.{stands_within}
use Rattle.dnw_encoder.proofs.NameLaws.{length-octets}
use Rattle.dnw_encoder.proofs.PointerLaws.{stands_part}
use Rattle.dnw_encoder.proofs.pointers.stands_in_full.Goals as goal
use Rattle.dnw_encoder.proofs.pointers.stands_in_full.Goals.{then-place-octets-via-then-place-octets, then-place-octets-via-else-place-octets+then-octets-place}

pub returns-then-place-octets : goal.returns-then-place-octets
returns-then-place-octets c =
    let long = ap length c.as_octets-labels.ensures.octets in (
      λ e. absurd (cc e),
      λ s.
          let within = stands_within c.args.octets.now c.args.place (name_octets c.args.name.now) (c.args.place + length (name_octets c.args.name.now)) (omega (arith, length-octets c.args.name.now)) s in
          elim c.then-place-octets.branch [
            | then-place-octets-via-then-place-octets w ↦ absurd (omega (arith, w.if-place-octets.true, within))
            | then-place-octets-via-else-place-octets+then-octets-place w ↦ absurd (omega (arith, w.if-octets-place.true, within, long, length-octets c.args.name.now))
          ],
    )

pub returns : goal.returns
returns c =
    let labels = c.as_octets-labels.result.now in
    let same = ap (λ (t : List ℕ). t ++ 0 ∷ []) c.as_octets-labels.ensures.octets in
    let long = ap length c.as_octets-labels.ensures.octets in
    let part = stands_part c.args.octets.now (name_octets c.args.name.now) c.args.place (c.args.place + length labels + 1) (omega (arith, long, length-octets c.args.name.now)) (omega (arith, c.if-octets-place.false)) in
    (λ test. part.0 (c.is_name_of.ensures.0 test ∙ same), λ s. c.is_name_of.ensures.1 (part.1 s ∙ sym same))
