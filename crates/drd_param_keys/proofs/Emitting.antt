-- Entries that are written one behind the other.
use Rattle.std.proofs.Common.{◌≡◌, ◌<◌, ◌≤◌, ◌+◌, ℕ, ◌⊎◌, inl, inr, List, [], ◌∷◌, ◌++◌, length, take, get_or, sym, ap, subst, ◌∙◌, arith, append-nil}
use Rattle.std.specs.List.{Contains, flat_map}
use Rattle.std.proofs.lemmas.Grind.{flat_map-append}
use Rattle.std.proofs.lemmas.List.{take_more}
use Rattle.std.proofs.lemmas.List.Concat.{flat_map-cons}
use Rattle.std.proofs.lemmas.List.Elements.{Contains-get_or}
use Rattle.std.proofs.lemmas.List.Folds.{length-flat_map-take}
use Rattle.drd_param_keys.specs.dnw_codes.declared.error.ProtoError.{ProtoError}
use Rattle.drd_param_keys.specs.dnw_codes.declared.error.ProtoError.TheVariants.{MaxBufferSizeExceeded}
use Rattle.dnw_encoder.specs.Effects.{IsRefusal, WritesOctets, Writes}
use Rattle.dnw_encoder.specs.State.{State}
use Rattle.drd_param_keys.specs.Writing.{EndsWithin}
use Rattle.dnw_encoder.proofs.Laws.{writes_then, writes_same}
use Rattle.drd_param_keys.proofs.Putting.{puts_then, puts_none, within_then}

-- A write behind what was put is refused as one of all would be.
pub refused-behind : (old mid : State) (first size whole : ℕ) (e : ProtoError) → mid.offset ≡ old.offset + first → mid.maximum ≡ old.maximum → first + size ≤ whole → IsRefusal mid size e → IsRefusal old whole e
refused-behind old mid first size whole e at same within (inl m) = inl m
refused-behind old mid first size whole e at same within (inr (is, past)) =
    inr (subst (λ (n : ℕ). e ≡ MaxBufferSizeExceeded n) same is, omega (arith, at, same, within, past))

module _ {T : Type 0} (spelled : T → List ℕ) where
  -- The first entries were put.
  pub record Put (entries : List T) (i : ℕ) (old new : State) : Type 0 where
    pub writes : Writes old new
    pub puts : WritesOctets (flat_map spelled (take i entries)) old new
    pub within : EndsWithin old new

  pub put-none : (entries : List T) (s : State) → s.offset ≤ length s.octets → Put entries 0 s s
  put-none entries s le = record { writes = writes_same s; puts = puts_none s le; within = λ moved. omega (arith, moved) }

  pub put-more : (entries : List T) (i : ℕ) (d : T) (x : T) (old mid new : State) → i < length entries → old.offset ≤ length old.octets → x ≡ get_or entries i d → Put entries i old mid → WritesOctets (spelled x) mid new → Writes mid new → EndsWithin mid new → Put entries (i + 1) old new
  put-more entries i d x old mid new small le is put one writes ends = record {
    writes = writes_then old mid new put.writes writes;
    puts = subst (λ (o : List ℕ). WritesOctets o old new) (sym whole) (puts_then (flat_map spelled (take i entries)) (spelled x) old mid new le put.puts one);
    within = within_then old mid new put.writes.modes.maximum writes.forward put.within ends;
  }
    where
      whole : flat_map spelled (take (i + 1) entries) ≡ flat_map spelled (take i entries) ++ spelled x
      whole =
          ap (flat_map spelled) (take_more entries i d small ∙ ap (λ (y : T). take i entries ++ y ∷ []) (sym is))
          ∙ flat_map-append spelled (take i entries) (x ∷ [])
          ∙ ap (λ (o : List ℕ). flat_map spelled (take i entries) ++ o) (flat_map-cons spelled x [] ∙ append-nil (spelled x))

  pub put-refused : (long : T → ProtoError → Type 0) (entries : List T) (i : ℕ) (x : T) (old mid : State) (e : ProtoError) → i < length entries → x ≡ get_or entries i x → Put entries i old mid → IsRefusal mid (length (spelled x)) e ⊎ long x e → IsRefusal old (length (flat_map spelled entries)) e ⊎ ((y : T) × Contains entries y × long y e)
  put-refused long entries i x old mid e small is put (inl refused) =
      inl (refused-behind old mid (length (flat_map spelled (take i entries))) (length (spelled x)) (length (flat_map spelled entries)) e put.puts.offset put.puts.modes.maximum
      (omega (arith, length-flat_map-take spelled entries i x small, ap (λ (y : T). length (spelled y)) is)) refused)
  put-refused long entries i x old mid e small is put (inr why) =
      inr (x, subst (λ (y : T). Contains entries y) (sym is) (Contains-get_or entries i x small), why)
