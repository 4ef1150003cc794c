use Rattle.std.proofs.Common.{◌≡◌, ◌<◌, ◌≤◌, ◌+◌, [], ◌∷◌, ◌++◌, inl, inr, refl, length, rules, arith}
use Rattle.std.proofs.lemmas.Bool.Decides.{nat_tests}
use Rattle.drd_param_keys.specs.Keys.{key_number}
use Rattle.drd_params.proofs.ReadParams.{left-fits, no-order, no-params, read-more}
use Rattle.drd_params.proofs.params.read_params_until.Goals as goal

pub returns-in-Err-clause-refused : goal.returns-in-Err-clause-refused
returns-in-Err-clause-refused c =
    let some : 0 < length c.params.rest.now = grind (arith, nat_tests) in
    elim c.in-Err.ensures.refused [
      | inl memory ↦ inl memory
      | inr why ↦ inr (
        why.0,
        no-params c.args.octets.now c.params.found.items c.params.least c.params.rest.now c.in-Err.stopped.cause why.0 c.params.invariant.read some why.1,
        why.2,
      )
    ]

pub returns-in-Err-clause-within : goal.returns-in-Err-clause-within
returns-in-Err-clause-within c =
    omega (arith, left-fits c.args.octets.now c.params.found.items c.params.least c.params.rest.now c.params.invariant.read, c.in-Err.ensures.within)

pub returns-then-number-least-clause-refused : goal.returns-then-number-least-clause-refused
returns-then-number-least-clause-refused c =
    let some : 0 < length c.params.rest.now = grind (arith, nat_tests) in
    let below : key_number c.in-Ok.split.0.0 < c.params.least = omega (arith, c.from.ensures, c.from-number.ensures, c.if-number-least.true) in
    inr (
      c.in-Ok.split.1.now,
      no-order c.args.octets.now c.params.found.items c.params.least c.params.rest.now c.in-Ok.split.0 c.in-Ok.split.1.now c.params.invariant.read some c.in-Ok.ensures.param c.in-Ok.ensures.ok below,
      refl,
    )

pub params-preserved : goal.params-preserved
params-preserved c =
    let some : 0 < length c.params.rest.now = grind (arith, nat_tests) in
    let param = c.in-Ok.split.0 in
    let least : c.params.least ≤ key_number param.0 = omega (arith, c.from.ensures, c.from-number.ensures, c.if-number-least.false) in
    let above : c.from-number.result + 1 ≡ key_number param.0 + 1 = omega (arith, c.from.ensures, c.from-number.ensures) in
    let pushed : c.push.new.self.items ≡ c.params.found.items ++ param ∷ [] = search rules in
    record {
      read = read-more c.args.octets.now c.params.found.items c.push.new.self.items c.params.least (c.from-number.result + 1) c.params.rest.now param c.in-Ok.split.1.now c.params.invariant.read some c.in-Ok.ensures.param c.in-Ok.ensures.ok least pushed above;
      small = omega (arith, c.from-number.ensures, c.from.type_inv);
    }
