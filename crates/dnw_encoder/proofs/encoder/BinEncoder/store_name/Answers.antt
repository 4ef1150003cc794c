use Rattle.std.proofs.Common.{ℕ, ◌+◌, List, length, refl, ap, subst, arith}
use Rattle.dnw_decoder.specs.Octets.{Stands}
use Rattle.dnw_decoder.specs.dnw_name.DomainName.{name_octets}
use Rattle.dnw_encoder.specs.Candidates.{KeepsSuffixes}
use Rattle.dnw_encoder.specs.Encoders.{state}
use Rattle.dnw_encoder.proofs.NameLaws.{length-octets}
use Rattle.dnw_encoder.proofs.PointerLaws.{stores_name}
use Rattle.dnw_encoder.proofs.encoder.BinEncoder.store_name.Goals as goal

pub returns-in-Ok-clause-ok : goal.returns-in-Ok-clause-ok
returns-in-Ok-clause-ok c =
    let name = c.args.name.now in
    let stands = c.stands_in_full.ensures.0 c.if-not-stands_in_full.false in
    let long = ap length c.as_octets-front.ensures.octets in
    stores_name name c.args.start (c.args.start + length c.as_octets-front.result.now + 1) (state c.args.self.now) _ c.as_octets-front.ensures.name
    (omega (arith, long, length-octets name))
    (subst (λ (o : List ℕ). Stands o c.args.start (name_octets name) (c.args.start + length (name_octets name))) c.deref.ensures.value stands)
    c.requires refl refl refl
    (record { maximum = refl; encoding = refl; canonical = refl; points = refl })
    (subst (λ (n : ℕ). KeepsSuffixes name.labels n c.args.start (c.args.start + length c.as_octets-front.result.now + 1) c.args.self.now.candidates c.keep_name.new.self) long c.in-Ok.ensures.ok)
