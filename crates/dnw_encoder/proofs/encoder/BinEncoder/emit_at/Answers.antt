use Rattle.std.proofs.Common.{◌≡◌, ℕ, ◌+◌, ◌≤◌, List, length, filter, sym, ap, subst, ◌∙◌, arith, Result, Ok, Err}
use Rattle.std.specs.Result.{OnOk, OnErr}
use Rattle.std.proofs.lemmas.Result.{on_ok_weaker, MatchResult-weaker}
use Rattle.dnw_encoder.specs.Effects.{written_at, place_of}
use Rattle.dnw_encoder.specs.Encoders.{state}
use Rattle.dnw_encoder.proofs.Laws.{written_length}
use Rattle.dnw_encoder.specs.Members.{In}
use Rattle.dnw_encoder.proofs.PlaceLaws.{fills}
use Rattle.dnw_encoder.specs.State.{is_other}
use Rattle.dnw_encoder.specs.State.{State}
use Rattle.dnw_encoder.specs.declared.open_places.OpenPlace.{OpenPlace}
use Rattle.dnw_encoder.proofs.encoder.BinEncoder.emit_at.Goals as goal

either : {T E : Type 0} (r : Result T E) (P : Type 0) → OnOk r P → OnErr r P → P
either (Ok x) P a b = a
either (Err e) P a b = b

pub set_offset-requires-2 : goal.set_offset-requires-2
set_offset-requires-2 g c =
    let before = state c.set_offset.new.self in
    let after = state c.emit-written.new.encoder in
    let laws = g.met.T.EncodedSize.laws c.args.value in
    let moved = c.set_offset.ensures.state in
    let octets : before.octets ≡ (state c.args.self.now).octets = ap (λ (s : State). s.octets) moved in
    let start : before.offset ≡ c.args.place.start = ap (λ (s : State). s.offset) moved in
    let within : before.offset ≤ length before.octets = omega (arith, c.requires.behind, ap length octets) in
    let grows : length before.octets ≤ length after.octets =
    either c.emit-written.result (length before.octets ≤ length after.octets)
    (on_ok_weaker c.emit-written.result (λ emitted.
    let puts = laws.2 before after emitted in
    omega (arith, ap length puts.octets, (written_length before.octets before.offset (g.T.EncodedSize.octets c.args.value) within).0)) c.emit-written.ensures.ok)
    (MatchResult-weaker c.emit-written.result c.emit-written.ensures.err (λ done unit. unit) (λ e refused. omega (arith, ap (λ (s : State). length s.octets) (laws.3 before after e refused)))) in
    omega (arith, ap length octets)

pub returns-in-Ok-clause-ok : goal.returns-in-Ok-clause-ok
returns-in-Ok-clause-ok g c =
    let old = state c.args.self.now in
    let before = state c.set_offset.new.self in
    let after = state c.emit-written.new.encoder in
    let back = state c.set_offset-2.new.self in
    let more = g.T.EncodedSize.octets c.args.value in
    let laws = g.met.T.EncodedSize.laws c.args.value in
    let moved = c.set_offset.ensures.state in
    let moved_back = c.set_offset-2.ensures.state in
    let puts = laws.2 before after c.in-Ok.ensures.ok in
    let size : c.LEN.result ≡ length more = c.LEN.ensures ∙ sym laws.1 in
    let places : back.places ≡ old.places = ap (λ (s : State). s.places) moved_back ∙ puts.places ∙ ap (λ (s : State). s.places) moved in
    fills c.args.place.start more old _
    (omega (arith, laws.0, laws.1))
    (subst (λ (n : ℕ). In (place_of c.args.place.start n) old.places) (sym laws.1) c.requires.is_open)
    (omega (arith, laws.1, c.requires.behind))
    (ap (λ (s : State). s.octets) moved_back ∙ puts.octets ∙ ap (λ (s : State). written_at s.octets s.offset more) moved)
    (ap (λ (s : State). s.offset) moved_back)
    (ap (λ (s : State). s.candidates) moved_back ∙ puts.candidates ∙ ap (λ (s : State). s.candidates) moved)
    (c.shut.ensures
    ∙ ap (λ (rs : List OpenPlace). filter (is_other c.args.place.start (c.args.place.start + c.LEN.result)) rs) places
    ∙ ap (λ (n : ℕ). filter (is_other c.args.place.start (c.args.place.start + n)) old.places) size)
    (record {
      maximum = ap (λ (s : State). s.maximum) moved_back ∙ puts.modes.maximum ∙ ap (λ (s : State). s.maximum) moved;
      encoding = ap (λ (s : State). s.encoding) moved_back ∙ puts.modes.encoding ∙ ap (λ (s : State). s.encoding) moved;
      canonical = ap (λ (s : State). s.canonical) moved_back ∙ puts.modes.canonical ∙ ap (λ (s : State). s.canonical) moved;
      points = ap (λ (s : State). s.points) moved_back ∙ puts.modes.points ∙ ap (λ (s : State). s.points) moved;
    })

pub returns-clause-err : goal.returns-clause-err
returns-clause-err g c =
    let before = state c.set_offset.new.self in
    let after = state c.emit-written.new.encoder in
    let laws = g.met.T.EncodedSize.laws c.args.value in
    let at : State → State = λ s. record s { offset = c.args.self.now.offset } in
    let same : after ≡ before = laws.3 before after c.in-Err.refused c.in-Err.ensures.err in
    c.set_offset-2.ensures.state ∙ ap at same ∙ ap at c.set_offset.ensures.state

pub returns-clause-cause : goal.returns-clause-cause
returns-clause-cause g c =
    let after = state c.emit-written.new.encoder in
    (after, subst (λ (s : State). g.T.BinEncodable.refuses c.args.value s c.in-Err.refused after) c.set_offset.ensures.state c.in-Err.ensures.err)
