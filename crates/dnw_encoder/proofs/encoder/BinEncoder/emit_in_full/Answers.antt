use Rattle.std.proofs.Common.{◌≡◌, ◌+◌, ℕ, List, length, refl, sym, ap, arith, ◌∙◌}
use Rattle.dnw_decoder.specs.dnw_name.DomainName.{name_octets}
use Rattle.dnw_encoder.specs.Encoders.{state}
use Rattle.dnw_encoder.specs.Effects.{written_at}
use Rattle.dnw_encoder.specs.Names.{written_name}
use Rattle.dnw_encoder.proofs.Laws.{puts_writes, written_length}
use Rattle.dnw_encoder.proofs.NameLaws.{puts_name, length-encoded, length-octets}
use Rattle.dnw_encoder.proofs.encoder.BinEncoder.emit_in_full.Goals as goal

pub write_name-requires-clause-size : goal.write_name-requires-clause-size
write_name-requires-clause-size c = ap (λ (n : ℕ). n + 1) (ap length c.as_octets.ensures.octets) ∙ sym (length-octets c.args.name.now) ∙ sym (length-encoded c.args.self.now.name_encoding c.args.name.now)

pub invariant_of-self-2 : goal.invariant_of-self-2
invariant_of-self-2 c =
    let old = state c.args.self.now in
    let more = name_octets (written_name old c.args.name.now) in
    let sizes = written_length old.octets old.offset more (omega arith) in
    let long : length c.write_name.new.buffer.items ≡ length (written_at old.octets old.offset more) = ap (λ (o : List ℕ). length o) c.in_ok-write_name.ensures.ok in
    record { within = omega (arith, long, sizes.1, ap length c.as_octets.ensures.octets, length-octets c.args.name.now, length-encoded old.encoding c.args.name.now) }

pub returns-clause-writes : goal.returns-clause-writes
returns-clause-writes c =
    puts_writes (name_octets (written_name (state c.args.self.now) c.args.name.now)) _ _ (omega arith) (record {
      octets = c.in_ok-write_name.ensures.ok;
      offset = omega (arith, ap length c.as_octets.ensures.octets, length-octets c.args.name.now, length-encoded c.args.self.now.name_encoding c.args.name.now);
      candidates = refl;
      places = refl;
      modes = record { maximum = refl; encoding = refl; canonical = refl; points = refl };
    })

pub returns-clause-ok : goal.returns-clause-ok
returns-clause-ok c =
    puts_name c.args.name.now _ _ c.requires.in_full c.in_ok-write_name.ensures.name (record {
      octets = c.in_ok-write_name.ensures.ok;
      offset = omega (arith, ap length c.as_octets.ensures.octets, length-octets c.args.name.now, length-encoded c.args.self.now.name_encoding c.args.name.now);
      candidates = refl;
      places = refl;
      modes = record { maximum = refl; encoding = refl; canonical = refl; points = refl };
    })
