use Rattle.std.proofs.Common.{◌≡◌, ℕ, ◌+◌, ◌++◌, ◌∷◌, [], ◌-◌, ◌/◌, ◌%◌, ◌^◌, ◌==◌, Bool, List, Vec, Global, cond, arith, ap, sym, ◌∙◌, append_assoc, append-nil}
use Rattle.dnw_wire.specs.BitMaps.{bits_types}
use Rattle.dnw_wire.proofs.SetBits.{bits_more, bits_whole}
use Rattle.dnw_wire.proofs.bits.push_octet.Goals as goal
use Rattle.dnw_wire.proofs.bits.push_octet.Goals.{then-is_set+in_ok-push, else-is_set}

pub bits-preserved : goal.bits-preserved
bits-preserved c =
    let base = c.args.base in
    let bit = c.bits.bit in
    let front = c.args.codes.now.items in
    let done = bits_types base bit (c.args.octet / 2 ^ (8 - bit)) in
    let more = bits_more base bit c.args.octet c.bits-test.true in
    let test : c.is_set.result ≡ (c.args.octet / 2 ^ (7 - bit) % 2 == 1) = c.is_set.ensures in
    let next : (b : Bool) → c.is_set.result ≡ b → bits_types base (bit + 1) (c.args.octet / 2 ^ (8 - (bit + 1))) ≡ done ++ cond b ((base + bit) ∷ []) [] =
    λ b e. more ∙ ap (λ (v : Bool). done ++ cond v ((base + bit) ∷ []) []) (sym test ∙ e) in
    elim c.if-is_set.branch [
      | then-is_set+in_ok-push w ↦
          ap (λ (v : Vec ℕ Global). v.items) w.codes-is
          ∙ w.in_ok-push.ensures.items
          ∙ ap (λ (o : List ℕ). o ++ (base + bit) ∷ []) c.bits.invariant
          ∙ append_assoc front done ((base + bit) ∷ [])
          ∙ sym (ap (λ (t : List ℕ). front ++ t) (next _ w.if-is_set.true))
      | else-is_set w ↦
          ap (λ (v : Vec ℕ Global). v.items) w.codes-is
          ∙ c.bits.invariant
          ∙ sym (ap (λ (t : List ℕ). front ++ t) (next _ w.if-is_set.false ∙ append-nil done))
    ]

pub returns : goal.returns
returns c =
    let all : c.bits.bit ≡ 8 = omega arith in
    c.bits.invariant
    ∙ ap (λ (n : ℕ). c.args.codes.now.items ++ bits_types c.args.base n (c.args.octet / 2 ^ (8 - n))) all
    ∙ ap (λ (t : List ℕ). c.args.codes.now.items ++ t) (bits_whole c.args.base c.args.octet)
