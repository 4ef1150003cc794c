use Rattle.std.proofs.Common.{ℕ, ◌+◌, List, length, ◌∙◌, ap, arith}
use Rattle.dnw_encoder.specs.Effects.{written_at}
use Rattle.dnw_encoder.proofs.Written.{written_twice}
use Rattle.dnw_encoder.proofs.buffer.write_at.Goals as goal

pub returns-then-size-len-clause-ok : goal.returns-then-size-len-clause-ok
returns-then-size-len-clause-ok c =
    let octets = c.args.buffer.now.items in
    c.overwrite-then-size-len.ensures
    ∙ ap (λ (o : List ℕ). written_at o (c.args.place + length c.args.front.now) c.args.rest.now) c.overwrite.ensures
    ∙ written_twice octets c.args.place c.args.front.now c.args.rest.now (omega arith)
