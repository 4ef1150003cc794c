use Rattle.std.proofs.Common.{◌≡◌, ◌++◌, ◌-◌, ◌∷◌, [], ℕ, List, length, take, refl, sym, subst, ap, ◌∙◌, arith}
use Rattle.std.proofs.lemmas.List.{length-append, take_at}
use Rattle.dnw_encoder.specs.Effects.{Writes, place_of}
use Rattle.dnw_encoder.specs.Encoders.{state}
use Rattle.dnw_encoder.proofs.Laws.{writes_same}
use Rattle.dnw_encoder.proofs.PlaceLaws.{opens_writes}
use Rattle.dnw_encoder.specs.declared.open_places.OpenPlace.{OpenPlace}
use Rattle.dnw_encoder.proofs.encoder.BinEncoder.open.Goals as goal

pub returns-in-Ok-clear_at-clause-writes : goal.returns-in-Ok-clear_at-clause-writes
returns-in-Ok-clear_at-clause-writes c =
    opens_writes c.args.self.now.offset c.args.size _ _ (omega arith) (record {
      at = refl;
      offset = refl;
      octets = c.in-Ok-clear_at.ensures.ok;
      candidates = refl;
      places = c.in-Ok.ensures.ok;
      modes = record { maximum = refl; encoding = refl; canonical = refl; points = refl };
    })

pub returns-in-Err-clause-writes : goal.returns-in-Err-clause-writes
returns-in-Err-clause-writes c =
    let old = state c.args.self.now in
    let place = place_of old.offset c.args.size in
    let places : c.pop.new.self.items ≡ old.places =
    c.pop.ensures.rest
    ∙ ap (λ (rs : List OpenPlace). take (length rs - 1) rs) c.in-Ok.ensures.ok
    ∙ take_at old.places (place ∷ []) (length (old.places ++ place ∷ []) - 1) (omega (arith, length-append old.places (place ∷ []))) in
    subst (λ (rs : List OpenPlace). Writes old (record old { octets = c.clear_at.new.buffer.items; places = rs })) (sym places)
    (subst (λ (octets : List ℕ). Writes old (record old { octets = octets })) (sym c.in-Err.ensures.err) (writes_same old))
