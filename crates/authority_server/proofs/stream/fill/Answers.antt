use Rattle.std.proofs.Common.{◌≡◌, ℕ, ◌+◌, ◌-◌, ◌≤◌, List, ◌++◌, rules, arith, length, take, slice_range, sym, ap, ◌∙◌, subst, le_refl, drop_at, length-take-le}
use Rattle.std.proofs.lemmas.Slice.{take-put_mid_below}
use Rattle.std.specs.Io.KnownBytes.{Consumes}
use Rattle.std.proofs.KnownBytes.{Consumes-kept, Consumes-trans}
use borrow.Rule.Slice.PartMut.{put_mid, post_of}
use lib.Seq.{take-add, take-append-le}
use Rattle.authority_server.proofs.stream.fill.Goals as goal

take_split : (a b : ℕ) (old new : List ℕ) → a ≤ b → take a new ≡ take a old → take a old ++ slice_range new a b ≡ take b new
take_split a b old new h front =
    let same : a + (b - a) ≡ b = omega arith in
    ap (λ (l : List ℕ). l ++ slice_range new a b) (sym front) ∙ sym (take-add a (b - a) new) ∙ ap (λ (n : ℕ). take n new) same

slice_range-put_mid : (a k n : ℕ) (xs ys : List ℕ) → a ≤ length xs → n ≤ length ys → slice_range (put_mid a k xs ys) a (a + n) ≡ take n ys
slice_range-put_mid a k n xs ys within fits =
    let same : (a + n) - a ≡ n = omega arith in
    let after = post_of a k xs in
    ap (take ((a + n) - a)) (drop_at (take a xs) (ys ++ after) a (length-take-le a xs within)) ∙ ap (λ (m : ℕ). take m (ys ++ after)) same ∙ take-append-le n ys after fits

pub filling-preserved : goal.filling-preserved
filling-preserved g c =
    let from = c.filling.at in
    let room = length c.filling.buffer - from in
    let within = c.filling.invariant.within in
    let part = slice_range-put_mid from room c.in-Some.count c.filling.buffer c.read.new.buffer within c.in-Some.ensures.bytes.0 in
    let joined = take_split from (from + c.in-Some.count) c.filling.buffer (put_mid from room c.filling.buffer c.read.new.buffer) (omega arith) (take-put_mid_below _ _ _ _ _ (le_refl _) within) in
    record {
      long = search rules;
      within = search rules;
      well = search rules;
      consumed = subst (Consumes _ _) (ap (λ (l : List ℕ). take from c.filling.buffer ++ l) (sym part) ∙ joined) (Consumes-trans _ _ _ _ _ c.filling.invariant.consumed c.in-Some.ensures.bytes.1);
    }

pub returns-in-None-clause-fault : goal.returns-in-None-clause-fault
returns-in-None-clause-fault g c =
    let octets = take c.filling.at c.filling.buffer in
    (octets, search rules, Consumes-kept _ _ _ _ c.filling.invariant.consumed c.in-None.ensures.bytes)
