use Rattle.std.proofs.Common.{◌+◌, ℕ, List, arith, inl, inr, subst, sym}
use Rattle.drd_csync.specs.Data.{MapsAt}
use Rattle.drd_csync.proofs.Reading.{no_front, no_flags, no_maps}
use Rattle.drd_csync.proofs.csync.CSYNCRecordDataDecodable.read_data.Goals as goal

pub returns-in-Err-clause-none : goal.returns-in-Err-clause-none
returns-in-Err-clause-none c = elim c.in-Err.ensures.none [
  | inl memory ↦ inl memory
  | inr none ↦ inr (no_front c.args.decoder.now.octets c.args.decoder.now.index (c.args.decoder.now.index + c.args.length) none)
]

pub returns-then-not-are_known-clause-none : goal.returns-then-not-are_known-clause-none
returns-then-not-are_known-clause-none c =
    inr (no_flags c.args.decoder.now.octets c.args.decoder.now.index c.in-Ok.front.0 c.in-Ok.front.1 c.read_front.new.decoder.index (c.args.decoder.now.index + c.args.length) c.in-Ok.ensures.ok (omega arith) c.if-not-are_known.ensures)

pub returns-in-Err-read_maps-clause-none : goal.returns-in-Err-read_maps-clause-none
returns-in-Err-read_maps-clause-none c = elim c.in-Err-read_maps.ensures.none [
  | inl memory ↦ inl memory
  | inr none ↦ inr (no_maps c.args.decoder.now.octets c.args.decoder.now.index c.in-Ok.front.0 c.in-Ok.front.1 c.read_front.new.decoder.index (c.args.decoder.now.index + c.args.length) c.in-Ok.ensures.ok (λ types maps.
      none types (subst (λ (o : List ℕ). MapsAt o c.read_front.new.decoder.index types (c.index.result + c.from.result)) (sym c.in-Ok.ensures.same) (subst (λ (n : ℕ). MapsAt c.args.decoder.now.octets c.read_front.new.decoder.index types n) (omega (arith, c.index.ensures.value, c.from.ensures, c.unverified.ensures)) maps))))
]
