use Rattle.std.proofs.Common.{◌≡◌, ℕ, ◌+◌, sym, ◌∙◌, take, ap, arith, get_or, set, List, length}
use Rattle.dnw_encoder.specs.Effects.{written_at}
use Rattle.dnw_encoder.proofs.Written.{written_none, written_more, written_all}
use Rattle.dnw_encoder.proofs.buffer.put_each.Goals as goal

pub octets-init : goal.octets-init
octets-init c = sym (written_none c.args.octets.now c.args.place)

pub octets-preserved : goal.octets-preserved
octets-preserved c =
    let more = c.args.more.now in
    ap (λ (o : List ℕ). set o (c.args.place + c.octets.i) (get_or more c.octets.i 0)) c.octets.invariant
    ∙ written_more c.args.octets.now c.args.place more c.octets.i (omega arith) (omega arith)

pub returns : goal.returns
returns c =
    let more = c.args.more.now in
    let all : c.octets.i ≡ length more = omega arith in
    c.octets.invariant
    ∙ ap (λ (i : ℕ). written_at c.args.octets.now c.args.place (take i more)) all
    ∙ written_all c.args.octets.now c.args.place more
