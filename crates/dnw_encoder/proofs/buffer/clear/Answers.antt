use Rattle.std.proofs.Common.{◌≡◌, sym, ◌∙◌, take, ap, arith, set, List, get_or, length, replicate}
use Rattle.std.specs.Prelude.{ℕ, ◌+◌, ◌<◌}
use Rattle.std.proofs.lemmas.List.{length-replicate, get_or-replicate}
use Rattle.dnw_encoder.specs.Effects.{written_at}
use Rattle.dnw_encoder.proofs.Written.{written_none, written_more, written_all}
use Rattle.dnw_encoder.proofs.buffer.clear.Goals as goal

pub octets-init : goal.octets-init
octets-init c = sym (written_none c.args.octets.now c.args.place)

pub octets-preserved : goal.octets-preserved
octets-preserved c =
    let zeros = replicate c.args.size 0 in
    let long : length zeros ≡ c.args.size = length-replicate c.args.size 0 in
    let lt : c.octets.i < length zeros = omega arith in
    let zero : get_or zeros c.octets.i 0 ≡ 0 = get_or-replicate c.args.size c.octets.i 0 0 (omega arith) in
    ap (λ (o : List ℕ). set o (c.args.place + c.octets.i) 0) c.octets.invariant
    ∙ ap (λ (v : ℕ). set (written_at c.args.octets.now c.args.place (take c.octets.i zeros)) (c.args.place + c.octets.i) v) (sym zero)
    ∙ written_more c.args.octets.now c.args.place zeros c.octets.i (omega arith) lt

pub returns : goal.returns
returns c =
    let zeros = replicate c.args.size 0 in
    let long : length zeros ≡ c.args.size = length-replicate c.args.size 0 in
    let all : c.octets.i ≡ length zeros = omega arith in
    c.octets.invariant
    ∙ ap (λ (i : ℕ). written_at c.args.octets.now c.args.place (take i zeros)) all
    ∙ written_all c.args.octets.now c.args.place zeros
