use Rattle.std.proofs.Common.{◌≡◌, ℕ, ◌+◌, ◌-◌, ◌≤◌, ◌⊎◌, List, length, inl, inr, refl, ap, sym, subst, arith}
use Rattle.drd_params.specs.dnw_decoder.Reading.{IsWantOfMemory}
use Rattle.drd_params.specs.drd_fields.Fields.{FieldsAt}
use Rattle.drd_params.specs.drd_fields.Reading.{RefusesWindow}
use Rattle.drd_params.specs.Params.{NoParams}
use Rattle.drd_svcb.specs.Fields.{svcb_fields, svcb_kinds, svcb_parts}
use Rattle.drd_svcb.proofs.Parts.{has-none, no-rest, no-svcb, rest-fits}
use Rattle.drd_svcb.proofs.svcb.SVCBRecordDataDecodable.read_data.Goals as goal

pub returns-in-Err-clause-refused : goal.returns-in-Err-clause-refused
returns-in-Err-clause-refused c =
    inl (no-rest c.args.decoder.now.octets c.args.decoder.now.index (c.args.decoder.now.index + c.args.length) c.in-Err.refused c.read_window.new.decoder.index
    (subst (λ (n : ℕ). RefusesWindow c.args.decoder.now.octets (c.args.decoder.now.index + n) svcb_kinds c.args.decoder.now.index c.in-Err.refused c.read_window.new.decoder.index) c.unverified.ensures c.in-Err.ensures.refused))

pub returns-in-Err-clause-none : goal.returns-in-Err-clause-none
returns-in-Err-clause-none c = elim c.in-Err.ensures.none [
  | inl m ↦ inl m
  | inr none ↦ inr (λ value there. none (svcb_fields value) refl (subst (λ (n : ℕ). FieldsAt c.args.decoder.now.octets c.args.decoder.now.index (svcb_fields value) (c.args.decoder.now.index + n)) (sym c.unverified.ensures) there.0))
]

pub returns-in-Err-read_params_until-clause-forward : goal.returns-in-Err-read_params_until-clause-forward
returns-in-Err-read_params_until-clause-forward c =
    let parts = c.in-Ok.parts in
    let fits = rest-fits c.args.decoder.now.octets c.args.decoder.now.index parts.0 parts.1.0 parts.1.1.0.items (c.args.decoder.now.index + c.unverified.result) c.in-Ok.ensures.ok in
    let left : c.in-Err-read_params_until.stopped.left ≤ length parts.1.1.0.items =
    subst (λ (o : List ℕ). c.in-Err-read_params_until.stopped.left ≤ length o) c.deref.ensures.value c.in-Err-read_params_until.ensures.within in
    let at : c.set_index.new.self.index ≡ c.index.result - c.in-Err-read_params_until.stopped.left = ap (λ decoder. decoder.index) c.set_index.ensures in
    omega (arith, fits, left, at, c.index.ensures.value, c.in-Ok.ensures.end)

pub returns-in-Err-read_params_until-clause-refused : goal.returns-in-Err-read_params_until-clause-refused
returns-in-Err-read_params_until-clause-refused c =
    let message = c.args.decoder.now.octets in
    let place = c.args.decoder.now.index in
    let parts = c.in-Ok.parts in
    let stopped = c.in-Err-read_params_until.stopped in
    let there : FieldsAt message place (svcb_parts parts.0 parts.1.0 parts.1.1.0.items) (place + c.args.length) =
    subst (λ (n : ℕ). FieldsAt message place (svcb_parts parts.0 parts.1.0 parts.1.1.0.items) (place + n)) c.unverified.ensures c.in-Ok.ensures.ok in
    let fits = rest-fits message place parts.0 parts.1.0 parts.1.1.0.items (place + c.args.length) there in
    let left : stopped.left ≤ length parts.1.1.0.items =
    subst (λ (o : List ℕ). stopped.left ≤ length o) c.deref.ensures.value c.in-Err-read_params_until.ensures.within in
    let at : c.set_index.new.self.index ≡ c.index.result - stopped.left = ap (λ decoder. decoder.index) c.set_index.ensures in
    let stop : c.set_index.new.self.index + stopped.left ≡ place + c.args.length =
    omega (arith, fits, left, at, c.index.ensures.value, c.in-Ok.ensures.end, c.unverified.ensures) in
    let none : IsWantOfMemory stopped.cause ⊎ ((behind : List ℕ) × NoParams parts.1.1.0.items stopped.cause behind × (length behind ≡ stopped.left)) =
    subst (λ (o : List ℕ). IsWantOfMemory stopped.cause ⊎ ((behind : List ℕ) × NoParams o stopped.cause behind × (length behind ≡ stopped.left))) c.deref.ensures.value c.in-Err-read_params_until.ensures.refused in
    inr (has-none message place parts.0 parts.1.0 parts.1.1.0.items (place + c.args.length) c.set_index.new.self.index stopped.left stopped.cause there stop none)

pub returns-in-Err-read_params_until-clause-none : goal.returns-in-Err-read_params_until-clause-none
returns-in-Err-read_params_until-clause-none c =
    let message = c.args.decoder.now.octets in
    let place = c.args.decoder.now.index in
    let parts = c.in-Ok.parts in
    let stopped = c.in-Err-read_params_until.stopped in
    let there : FieldsAt message place (svcb_parts parts.0 parts.1.0 parts.1.1.0.items) (place + c.args.length) =
    subst (λ (n : ℕ). FieldsAt message place (svcb_parts parts.0 parts.1.0 parts.1.1.0.items) (place + n)) c.unverified.ensures c.in-Ok.ensures.ok in
    let none : IsWantOfMemory stopped.cause ⊎ ((behind : List ℕ) × NoParams parts.1.1.0.items stopped.cause behind × (length behind ≡ stopped.left)) =
    subst (λ (o : List ℕ). IsWantOfMemory stopped.cause ⊎ ((behind : List ℕ) × NoParams o stopped.cause behind × (length behind ≡ stopped.left))) c.deref.ensures.value c.in-Err-read_params_until.ensures.refused in
    no-svcb message place parts.0 parts.1.0 parts.1.1.0.items (place + c.args.length) stopped.left stopped.cause there none
