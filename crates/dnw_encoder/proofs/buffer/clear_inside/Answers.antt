use Rattle.std.proofs.Common.{ℕ, List, ◌∙◌, ap, arith, length, drop, replicate}
use Rattle.std.proofs.lemmas.List.{take_at}
use Rattle.dnw_encoder.specs.Effects.{written_at}
use Rattle.dnw_encoder.proofs.buffer.clear_inside.Goals as goal

pub returns : goal.returns
returns c =
    let new = c.clear.new.octets in
    take_at new (drop (length new) c.args.buffer.now.items) c.args.buffer.now.len (omega arith)
    ∙ c.clear.ensures
    ∙ ap (λ (o : List ℕ). written_at o c.args.place (replicate c.args.size 0)) c.deref_mut.ensures.value
