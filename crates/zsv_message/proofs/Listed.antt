-- Values written one behind the other stand one behind the other.
use Rattle.std.proofs.Common.{◌≡◌, ℕ, ◌+◌, ◌^◌, ◌<◌, ◌≤◌, inl, inr, List, [], ◌∷◌, ◌++◌, refl, sym, ap, subst, arith}
use Rattle.std.proofs.lemmas.List.Sums.{sum_by-cons}
use Rattle.std.specs.List.{AllByRecursion, sum_by}
use Rattle.std.specs.Prelude.{IfErr, Result, Ok, Err}
use Rattle.std.specs.Result.{IsErrAnd}
use Rattle.zsv_sections.specs.zst_record.dnw_codes.declared.error.ProtoError.{ProtoError}
use Rattle.zsv_sections.specs.zst_record.dnw_codes.declared.error.ProtoError.TheVariants.{MaxBufferSizeExceeded}
use Rattle.zsv_sections.specs.zst_record.dnw_encoder.Effects.{Emitted, IsRefusal, StaysTrue, Writes}
use Rattle.zsv_sections.specs.zst_record.dnw_encoder.State.{State}
use Rattle.zsv_sections.proofs.zst_record_lemmas.dnw_encoder_lemmas.Laws.{holds_more, holds_written, writes_same, writes_then}
use Rattle.zsv_sections.specs.zsv_parts.Wire.{Entries}
use Rattle.zsv_message.specs.Writing.{RefusesAmong}

-- An error that is passed on.
pub if_passed_on : {T E : Type 0} (Q : E → Type 0) (r : Result T E) (e : E) → IsErrAnd r (λ other. other ≡ e) → Q e → IfErr r Q
if_passed_on Q (Ok x) e is q = tt
if_passed_on Q (Err other) e is q = subst Q (sym is) q

-- What is refused for so many octets is refused for more.
pub refusal_more : (n more : ℕ) (s : State) (e : ProtoError) → n ≤ more → IsRefusal s n e → IsRefusal s more e
refusal_more n more s e le (inl memory) = inl memory
refusal_more n more s e le (inr refused) = inr (refused.0, omega (arith, refused.1))

-- So many octets were written before it at most.
pub refusal_behind : (before n : ℕ) (old mid : State) (e : ProtoError) → mid.maximum ≡ old.maximum → mid.offset ≤ old.offset + before → IsRefusal mid n e → IsRefusal old (before + n) e
refusal_behind before n old mid e same far (inl memory) = inl memory
refusal_behind before n old mid e same far (inr refused) =
    inr (subst (λ (k : ℕ). e ≡ MaxBufferSizeExceeded k) same refused.0, omega (arith, refused.1, far, same))

module _ {X : Type 0} (emits : X → State → State → Type 0) where
  pub emitted_writes : (xs : List X) (old new : State) → Emitted emits old xs new → Writes old new
  emitted_writes [] old new e = subst (λ (s : State). Writes old s) (sym e) (writes_same old)
  emitted_writes (x ∷ xs) old new (mid, one, w, more) = writes_then old mid new w (emitted_writes xs mid new more)

  -- The first of a list, and then the others.
  pub emitted_first : (x : X) (xs all : List X) (old mid new : State) → all ≡ x ∷ xs → emits x old mid → Writes old mid → Emitted emits mid xs new → Emitted emits old all new
  emitted_first x xs all old mid new is one w more = subst (λ (ys : List X). Emitted emits old ys new) (sym is) (mid, one, w, more)

  -- One list, and then another.
  pub emitted_then : (xs ys : List X) (old mid new : State) → Emitted emits old xs mid → Emitted emits mid ys new → Emitted emits old (xs ++ ys) new
  emitted_then [] ys old mid new e f = subst (λ (s : State). Emitted emits s ys new) e f
  emitted_then (x ∷ xs) ys old mid new (next, one, w, more) f = (next, one, w, emitted_then xs ys next mid new more f)

  module _ (Refuses : X → State → Type 0) where
    pub refused_here : (x : X) (xs all : List X) (old : State) → all ≡ x ∷ xs → Refuses x old → RefusesAmong emits Refuses old all
    refused_here x xs all old is refused = subst (λ (ys : List X). RefusesAmong emits Refuses old ys) (sym is) (inl refused)

    pub refused_behind : (x : X) (xs all : List X) (old mid : State) → all ≡ x ∷ xs → emits x old mid → Writes old mid → RefusesAmong emits Refuses mid xs → RefusesAmong emits Refuses old all
    refused_behind x xs all old mid is one w more = subst (λ (ys : List X). RefusesAmong emits Refuses old ys) (sym is) (inr (mid, one, w, more))

    pub refused_first : (xs ys : List X) (old : State) → RefusesAmong emits Refuses old xs → RefusesAmong emits Refuses old (xs ++ ys)
    refused_first [] ys old none = absurd none
    refused_first (x ∷ xs) ys old (inl here) = inl here
    refused_first (x ∷ xs) ys old (inr (mid, one, w, more)) = inr (mid, one, w, refused_first xs ys mid more)

    pub refused_then : (xs ys : List X) (old mid : State) → Emitted emits old xs mid → RefusesAmong emits Refuses mid ys → RefusesAmong emits Refuses old (xs ++ ys)
    refused_then [] ys old mid same refused = subst (λ (s : State). RefusesAmong emits Refuses s ys) same refused
    refused_then (x ∷ xs) ys old mid (next, one, w, more) refused = inr (next, one, w, refused_then xs ys next mid more refused)

-- What stands of two lists, one behind the other.
pub entries_split : {X : Type 0} (At : ℕ → X → ℕ → Type 0) (place : ℕ) (xs ys : List X) (end : ℕ) → Entries At place (xs ++ ys) end → (middle : ℕ) × Entries At place xs middle × Entries At middle ys end
entries_split At place [] ys end there = (place, refl, there)
entries_split At place (x ∷ xs) ys end (behind, at, more) =
    let later = entries_split At behind xs ys end more in
    (later.0, (behind, at, later.1), later.2)

-- Values that are good stand where they are written by an encoder that is fit, and are refused for room or for want of
-- memory.
pub record Standing {X : Type 0} (Fit : State → Type 0) (At : List ℕ → ℕ → X → ℕ → Type 0) (plain : X → ℕ) (Good : X → Type 0) (Emits : X → State → State → Type 0) (Refuses : X → State → ProtoError → Type 0) : Type 0 where
  pub goes_on : (old new : State) → Fit old → Writes old new → Fit new
  pub stays : (x : X) (old new : State) → Emits x old new → Good x → Fit old → StaysTrue new new.offset (λ message. At message old.offset x new.offset)
  pub size : (x : X) (old new : State) → Emits x old new → Good x → new.offset ≤ old.offset + plain x
  pub fits : (x : X) (old new : State) → Emits x old new → new.offset ≤ old.maximum
  pub refused : (x : X) (old : State) (e : ProtoError) → Refuses x old e → Good x → old.maximum < 2 ^ 16 → IsRefusal old (plain x) e

module _ {X : Type 0} (Fit : State → Type 0) (At : List ℕ → ℕ → X → ℕ → Type 0) (plain : X → ℕ) (Good : X → Type 0) (Emits : X → State → State → Type 0) (Refuses : X → State → ProtoError → Type 0) (laws : Standing Fit At plain Good Emits Refuses) where
  -- Values that were written stand there, in the finished message too.
  pub list_stands : (xs : List X) (old new : State) → AllByRecursion Good xs → Fit old → Emitted Emits old xs new → StaysTrue new new.offset (λ message. Entries (At message) old.offset xs new.offset)
  list_stands [] old new good fit e = record { of = λ later a. ap (λ (s : State). s.offset) e }
  list_stands (x ∷ xs) old new good fit (mid, one, w, more) =
      let behind = emitted_writes Emits xs mid new more in
      let here = holds_more mid.offset new.offset new _ behind.forward (holds_written mid.offset mid new _ behind (omega arith) (laws.stays x old mid one good.0 fit)) in
      let later = list_stands xs mid new good.1 (laws.goes_on old mid fit w) more in
      record { of = λ message a. (mid.offset, here.of message a, later.of message a) }

  pub list_size : (xs : List X) (old new : State) → AllByRecursion Good xs → Emitted Emits old xs new → new.offset ≤ old.offset + sum_by plain xs
  list_size [] old new good e = omega (arith, ap (λ (s : State). s.offset) e)
  list_size (x ∷ xs) old new good (mid, one, w, more) = omega (arith, laws.size x old mid one good.0, list_size xs mid new good.1 more, sum_by-cons plain x xs)

  pub list_fits : (xs : List X) (old new : State) → old.offset ≤ old.maximum → Emitted Emits old xs new → new.offset ≤ old.maximum
  list_fits [] old new within e = omega (arith, within, ap (λ (s : State). s.offset) e)
  list_fits (x ∷ xs) old new within (mid, one, w, more) =
      omega (arith, w.modes.maximum, list_fits xs mid new (omega (arith, laws.fits x old mid one, w.modes.maximum)) more)

  -- Why one of them is refused.
  pub list_refused : (xs : List X) (old : State) (e : ProtoError) → AllByRecursion Good xs → old.maximum < 2 ^ 16 → RefusesAmong Emits (λ x at. Refuses x at e) old xs → IsRefusal old (sum_by plain xs) e
  list_refused [] old e good small none = absurd none
  list_refused (x ∷ xs) old e good small (inl here) =
      refusal_more (plain x) (sum_by plain (x ∷ xs)) old e (omega (arith, sum_by-cons plain x xs)) (laws.refused x old e here good.0 small)
  list_refused (x ∷ xs) old e good small (inr (mid, one, w, more)) =
      subst (λ (n : ℕ). IsRefusal old n e) (sym (sum_by-cons plain x xs))
      (refusal_behind (plain x) (sum_by plain xs) old mid e w.modes.maximum (laws.size x old mid one good.0) (list_refused xs mid e good.1 (omega (arith, w.modes.maximum)) more))
