use Rattle.std.proofs.Common.{ℕ, List, ◌∙◌, ap, refl, arith}
use Rattle.dnw_decoder.specs.Octets.{octets_16}
use Rattle.dnw_encoder.specs.Effects.{written_at}
use Rattle.dnw_encoder.specs.Encoders.{state}
use Rattle.dnw_encoder.proofs.PlaceLaws.{fills}
use Rattle.dnw_encoder.proofs.encoder.BinEncoder.fill_u16.Goals as goal

pub returns-clause-fills : goal.returns-clause-fills
returns-clause-fills c =
    fills c.args.place.start (octets_16 c.args.number) (state c.args.self.now) _
    (omega arith) c.requires.is_open (omega (arith, c.requires.behind))
    (c.overwrite_few.ensures ∙ ap (λ (more : List ℕ). written_at c.args.self.now.buffer.now.items c.args.place.start more) c.to_be_bytes.ensures)
    refl refl c.shut.ensures
    (record { maximum = refl; encoding = refl; canonical = refl; points = refl })
