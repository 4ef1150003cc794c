use Rattle.std.proofs.Common.{◌≡◌, ℕ, List, length, inl, inr, sym, subst, ◌∙◌, arith}
use Rattle.dnw_encoder.specs.dnw_decoder.Octets.{Stands}
use Rattle.dnw_encoder.proofs.dnw_decoder_lemmas.Standing.{stands_same}
use Rattle.dnw_wire.specs.BitMaps.{BitMaps, IsMap}
use Rattle.dnw_wire.specs.BitMapLaws.{maps_rise}
use Rattle.dnw_wire.proofs.set.RecordTypeSet.read_data.Goals as goal

pub invariant_of-result : goal.invariant_of-result
invariant_of-result c = maps_rise 0 c.unverified-octets.result.now c.in-Ok-read_types.codes.items (omega arith) c.in-Ok-read_types.ensures.ok

pub returns-in-Err-read_types-clause-none : goal.returns-in-Err-read_types-clause-none
returns-in-Err-read_types-clause-none c =
    let octets = c.unverified-octets.result.now in
    let there : Stands c.args.decoder.now.octets c.args.decoder.now.index octets c.read_slice.new.self.index = rw c.unverified-octets.ensures c.in-Ok.ensures.ok.there in
    let long : length octets ≡ c.args.len = rw c.unverified-octets.ensures (c.in-Ok.ensures.long ∙ c.from.ensures) in
    elim c.in-Err-read_types.ensures.none [
      | inl memory ↦ inl memory
      | inr none ↦ inr (λ types end t.
          let same : t.octets ≡ octets = (stands_same c.args.decoder.now.octets c.args.decoder.now.index t.octets octets end _ (t.long ∙ sym long) t.there there).0 in
          none types (subst (λ (o : List ℕ). BitMaps IsMap 0 o types) same t.maps))
    ]
