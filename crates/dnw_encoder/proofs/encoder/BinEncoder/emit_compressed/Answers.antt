use Rattle.std.proofs.Common.{ℕ, ◌∷◌, [], List, length, sym, ap, subst, ◌∙◌, arith}
use Rattle.std.proofs.lemmas.Result.{on_ok_weaker, on_err_weaker}
use Rattle.dnw_encoder.specs.Effects.{Writes}
use Rattle.dnw_encoder.specs.Encoders.{state}
use Rattle.dnw_encoder.specs.Names.{WritesFront}
use Rattle.dnw_encoder.specs.State.{State, writes_pointers}
use Rattle.dnw_encoder.proofs.CandidateLaws.{on_both, on_either}
use Rattle.dnw_encoder.proofs.Laws.{writes_same}
use Rattle.dnw_encoder.proofs.PointerLaws.{pointer_bytes, points_to, points_nowhere}
use Rattle.dnw_encoder.proofs.encoder.BinEncoder.emit_compressed.Goals as goal

pub overflow_add-pointer : goal.overflow_add-pointer
overflow_add-pointer c = omega (arith, c.in-Some.ensures.small)

pub returns-in-Some-clause-writes : goal.returns-in-Some-clause-writes
unfolding writes_pointers
returns-in-Some-clause-writes c =
    let old = state c.args.self.now in
    let new = state c.write_front.new.self in
    let s = c.in-Some.suffix in
    let octets = c.to_be_bytes.ensures ∙ pointer_bytes s.place c.in-Some.ensures.small in
    on_either c.write_front.result
    (on_both c.write_front.result (λ name w.
    (points_to c.args.name.now s old new name c.requires.compressed (ap writes_pointers c.requires.compressed) (omega arith) c.in-Some.ensures
    (subst (λ (o : List ℕ). WritesFront c.args.name.now.labels s.front o old new) octets w)).writes)
    c.write_front.ensures.name c.write_front.ensures.ok)
    (on_err_weaker c.write_front.result (λ same. subst (λ (t : State). Writes old t) (sym same) (writes_same old)) c.write_front.ensures.err)

pub returns-in-Some-clause-ok : goal.returns-in-Some-clause-ok
unfolding writes_pointers
returns-in-Some-clause-ok c =
    let old = state c.args.self.now in
    let new = state c.write_front.new.self in
    let s = c.in-Some.suffix in
    let octets = c.to_be_bytes.ensures ∙ pointer_bytes s.place c.in-Some.ensures.small in
    on_both c.write_front.result (λ name w.
    (points_to c.args.name.now s old new name c.requires.compressed (ap writes_pointers c.requires.compressed) (omega arith) c.in-Some.ensures
    (subst (λ (o : List ℕ). WritesFront c.args.name.now.labels s.front o old new) octets w)).emits)
    c.write_front.ensures.name c.write_front.ensures.ok

pub returns-in-None-clause-writes : goal.returns-in-None-clause-writes
unfolding writes_pointers
returns-in-None-clause-writes c =
    let old = state c.args.self.now in
    let new = state c.write_front-in-None.new.self in
    on_either c.write_front-in-None.result
    (on_ok_weaker c.write_front-in-None.result (λ w.
    (points_nowhere c.args.name.now old new c.as_octets.ensures.name c.requires.compressed (ap writes_pointers c.requires.compressed) (omega arith) c.in-None.ensures
    (subst (λ (n : ℕ). WritesFront c.args.name.now.labels n (0 ∷ []) old new) (ap length c.as_octets.ensures.octets) w)).writes)
    c.write_front-in-None.ensures.ok)
    (on_err_weaker c.write_front-in-None.result (λ same. subst (λ (t : State). Writes old t) (sym same) (writes_same old)) c.write_front-in-None.ensures.err)

pub returns-in-None-clause-ok : goal.returns-in-None-clause-ok
unfolding writes_pointers
returns-in-None-clause-ok c =
    let old = state c.args.self.now in
    let new = state c.write_front-in-None.new.self in
    on_ok_weaker c.write_front-in-None.result (λ w.
    (points_nowhere c.args.name.now old new c.as_octets.ensures.name c.requires.compressed (ap writes_pointers c.requires.compressed) (omega arith) c.in-None.ensures
    (subst (λ (n : ℕ). WritesFront c.args.name.now.labels n (0 ∷ []) old new) (ap length c.as_octets.ensures.octets) w)).emits)
    c.write_front-in-None.ensures.ok
