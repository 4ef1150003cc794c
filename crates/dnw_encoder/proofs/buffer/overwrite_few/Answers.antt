use Rattle.std.proofs.Common.{ℕ, List, ◌∙◌, ap, arith, length, drop}
use Rattle.std.proofs.lemmas.List.{take_at}
use Rattle.dnw_encoder.specs.Effects.{written_at}
use Rattle.dnw_encoder.proofs.buffer.overwrite_few.Goals as goal

pub returns : goal.returns
returns c =
    let new = c.put_each.new.octets in
    take_at new (drop (length new) c.args.buffer.now.items) c.args.buffer.now.len (omega arith)
    ∙ c.put_each.ensures
    ∙ ap (λ (o : List ℕ). written_at o c.args.place c.args.more.now) c.deref_mut.ensures.value
