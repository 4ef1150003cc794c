use Rattle.std.proofs.Common.{◌<◌, inl, inr, refl, rules}
use Rattle.drd_params.proofs.ReadParams.{no-param-value}
use Rattle.drd_params.proofs.params.split_param.Goals as goal

pub returns-in-Err-read-clause-refused : goal.returns-in-Err-read-clause-refused
returns-in-Err-read-clause-refused c =
    let part = c.in-Ok.part in
    let small : part.0 < 65536 = search rules in
    elim c.in-Err-read.ensures.refused [
      | inl memory ↦ inl memory
      | inr why ↦ inr (
        part.2.now,
        no-param-value c.args.octets.now c.in-Err-read.cause part.0 part.1.now part.2.now c.from-key.result small c.in-Ok.ensures.few c.in-Ok.ensures.ok
            c.from-key.ensures.0 why,
        refl,
      )
    ]
