use Rattle.std.proofs.Common.{ℕ, ◌+◌, ◌≤◌, List, length, refl, subst, ◌∙◌, arith}
use Rattle.std.proofs.lemmas.Result.{on_ok_weaker}
use Rattle.std.specs.Prelude.{Result, Ok, Err, OnOk}
use Rattle.dnw_encoder.specs.Effects.{WritesOctets}
use Rattle.dnw_encoder.specs.Encoders.{state}
use Rattle.dnw_encoder.proofs.Laws.{puts_stands, holds_map}
use Rattle.dnw_wire.specs.BitMaps.{AreTightMaps}
use Rattle.dnw_wire.specs.BitMapLaws.{tight_reads}
use Rattle.dnw_wire.proofs.set.RecordTypeSetBinEncodable.emit.Goals as goal

both_ok : {T E : Type 0} (P Q : Type 0) (r : Result T E) → OnOk r P → OnOk r Q → OnOk r (P × Q)
both_ok P Q (Ok v) p q = (p, q)
both_ok P Q (Err e) p q = tt

pub returns-in-Ok-clause-ok : goal.returns-in-Ok-clause-ok
returns-in-Ok-clause-ok c =
    let old = state c.args.encoder.now in
    let new = state c.emit_vec.new.self in
    let octets = c.as_slice.result.now in
    let types = c.args.self.now in
    let tight : AreTightMaps octets types = rw c.as_slice.ensures (subst (λ (ts : List ℕ). AreTightMaps c.in-Ok.octets.items ts) (c.deref.ensures.value ∙ c.self.view_is) c.in-Ok.ensures) in
    on_ok_weaker c.emit_vec.result
    (λ (done : WritesOctets octets old new × (old.offset + length octets ≤ old.maximum)). record {
      octets = octets;
      maps = tight.maps;
      small = tight.small;
      puts = done.0;
      stays = λ s. holds_map new.offset new _ _ (λ message there. record { octets = octets; there = there; long = refl; maps = tight_reads 0 octets types tight.maps }) (puts_stands octets old new s done.0);
      fits = omega (arith, done.0.offset, done.1);
    })
    (both_ok _ _ c.emit_vec.result c.emit_vec.ensures.ok c.emit_vec.ensures.fits)
