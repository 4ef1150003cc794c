-- Items that were written one behind the other are a front of their list.
use Rattle.std.proofs.Common.{◌≡◌, ◌⊎◌, ℕ, zero, suc, ◌+◌, ◌*◌, ◌^◌, ◌<◌, ◌≤◌, ◌||◌, Bool, true, false, inl, inr, List, [], ◌∷◌, ◌++◌, length, length-append, map, refl, sym, ap, subst, ◌∙◌, arith}
use Rattle.std.proofs.lemmas.Bool.{lt-ltb, le-ltb, ltb-true, ltb-false}
use Rattle.std.specs.Prelude.{nat_lt, Option, Some, None, Result, Ok, Err, IfOk, IfErr}
use Rattle.std.specs.Iterator.{AlwaysYields, Yields}
use Rattle.std.specs.List.{AllByRecursion}
use Rattle.zsv_request.specs.zsv_message.zst_record.dnw_codes.ProtoError.{IsMemory}
use Rattle.zsv_request.specs.zsv_message.zst_record.dnw_codes.declared.error.ProtoError.{ProtoError}
use Rattle.zsv_request.specs.zsv_message.zst_record.dnw_codes.declared.error.ProtoError.TheVariants.{MaxBufferSizeExceeded, NotAllRecordsWritten}
use Rattle.zsv_request.specs.zsv_message.zst_record.dnw_encoder.Effects.{RolledBack, StaysTrue, Writes, Emitted, WroteAll, WroteFront, IsRefusal, IsSizeError}
use Rattle.zsv_request.proofs.zsv_message_lemmas.zst_record_lemmas.dnw_encoder_lemmas.Laws.{holds_map, holds_now, holds_more, holds_written, writes_same, writes_then}
use Rattle.zsv_request.specs.zsv_message.zst_record.dnw_encoder.State.{State, is_lower}
use Rattle.zsv_request.specs.zsv_message.zst_record.drd_rdata.Writing.{WritesInFull}
use Rattle.zsv_reply.specs.declared.fronts.Kept.{Kept}
use Rattle.zsv_reply.specs.Iterators.{StartsWith, Supplies}
use Rattle.zsv_reply.specs.Replies.{Front, is_cut}
use Rattle.zsv_reply.specs.Writing.{written_count, EmitsFront, IsNotKept}

-- An encoder goes on writing names in full.
pub in_full_then : (old new : State) → WritesInFull old → Writes old new → WritesInFull new
in_full_then old new full w = record {
  sound = w.sound full.sound;
  own = w.modes.canonical ∙ full.own;
  same_case = ap is_lower w.modes.encoding ∙ full.same_case;
}

-- A record that is refused for its size passes the maximum; one that is refused otherwise wants memory.
passes : (s : State) (size told : ℕ) → IsRefusal s size (MaxBufferSizeExceeded told) → s.maximum < s.offset + size
passes s size told (inl memory) = absurd memory
passes s size told (inr refused) = refused.1

memory_left : (s : State) (size : ℕ) (e : ProtoError) → IsRefusal s size e → (IsSizeError e → ⊥) → IsMemory e
memory_left s size e (inl memory) other = memory
memory_left s size e (inr refused) other = absurd (other (subst IsSizeError (sym refused.0) tt))

-- A list is cut where items are left behind what is kept of it, and not where none are.
cut_before : {X : Type 0} (xs kept : List X) (x : X) (rest : List X) → xs ≡ kept ++ x ∷ rest → is_cut xs kept ≡ true
cut_before xs kept x rest is = lt-ltb (length kept) (length xs) (omega (arith, ap length is, length-append kept (x ∷ rest)))

cut_nowhere : {X : Type 0} (xs kept rest : List X) → xs ≡ kept ++ rest → rest ≡ [] → is_cut xs kept ≡ false
cut_nowhere xs kept rest is none = le-ltb (length kept) (length xs) (omega (arith, ap length is, length-append kept rest, ap length none))

-- Items that are good stand where they are written, and are refused for room or for want of memory. Each takes eleven
-- octets at least. An encoder that is fit for them stays so, and is so again where one is taken back.
pub record Standing {X : Type 0} (Fit : State → Type 0) (At : List ℕ → ℕ → X → ℕ → Type 0) (plain : X → ℕ) (Good : X → Type 0) (Emits : X → State → State → Type 0) (Refuses : X → State → ProtoError → Type 0) : Type 0 where
  pub small : (s : State) → Fit s → s.maximum < 2 ^ 16
  pub fit : (x : X) (old new : State) → Emits x old new → Good x → Fit old → Writes old new → Fit new
  pub back : (mid new : State) → Fit mid → RolledBack mid new → Fit new
  pub stays : (x : X) (old new : State) → Emits x old new → Good x → Fit old → Writes old new → StaysTrue new new.offset (λ message. At message old.offset x new.offset)
  pub size : (x : X) (old new : State) → Emits x old new → Good x → new.offset ≤ old.offset + plain x
  pub fits : (x : X) (old new : State) → Emits x old new → new.offset ≤ old.maximum
  pub refused : (x : X) (old : State) (e : ProtoError) → Refuses x old e → Good x → old.maximum < 2 ^ 16 → IsRefusal old (plain x) e
  pub long : (message : List ℕ) (place : ℕ) (x : X) (end : ℕ) → At message place x end → place + 11 ≤ end

-- An encoder that writes names in full, within a maximum that was set.
pub record IsSet (s : State) : Type 0 where
  pub in_full : WritesInFull s
  pub small : s.maximum < 2 ^ 16

pub set_then : (old new : State) → IsSet old → Writes old new → IsSet new
set_then old new f w = record { in_full = in_full_then old new f.in_full w; small = omega (arith, w.modes.maximum, f.small) }

-- As much more of both leaves a list cut, or not.
cut_behind : (k x m y km xy : ℕ) → k ≡ x → km ≡ k + m → xy ≡ x + y → nat_lt km xy ≡ nat_lt m y
cut_behind k x m y km xy same counts long = by (nat_lt m y) refl where
  by : (b : Bool) → nat_lt m y ≡ b → nat_lt km xy ≡ nat_lt m y
  by true e = lt-ltb km xy (omega (arith, ltb-true m y e, same, counts, long)) ∙ sym e
  by false e = le-ltb km xy (omega (arith, ltb-false m y e, same, counts, long)) ∙ sym e

-- Items that stand in one way stand in another.
pub front_as : {X : Type 0} (At Other : List ℕ → ℕ → X → ℕ → Type 0) (plain : X → ℕ) → ((message : List ℕ) (place : ℕ) (x : X) (end : ℕ) → At message place x end → Other message place x end) → (message : List ℕ) (limit place : ℕ) (xs kept : List X) (end : ℕ) → Front At plain message limit place xs kept end → Front Other plain message limit place xs kept end
front_as At Other plain turn message limit place [] [] end f = f
front_as At Other plain turn message limit place (x ∷ xs) [] end f = f
front_as At Other plain turn message limit place [] (k ∷ ks) end f = f
front_as At Other plain turn message limit place (x ∷ xs) (k ∷ ks) end (behind, same, at, small, later) =
    (behind, same, turn message place k behind at, small, front_as At Other plain turn message limit behind xs ks end later)

module _ {X : Type 0} (At : List ℕ → ℕ → X → ℕ → Type 0) (plain : X → ℕ) where
  -- A front without items ends where it begins.
  front_empty : (message : List ℕ) (limit place : ℕ) (xs kept : List X) (end : ℕ) → length kept ≡ 0 → Front At plain message limit place xs kept end → end ≡ place
  front_empty message limit place [] [] end none f = f
  front_empty message limit place (x ∷ xs) [] end none f = f.0
  front_empty message limit place xs (k ∷ ks) end none f = absurd (omega (arith, none))

  emits_nothing : (xs : List X) (written : Kept) (old new : State) → written.count ≡ 0 → EmitsFront At plain xs written old new → new.offset ≡ old.offset
  emits_nothing xs written old new none f =
      front_empty new.octets old.maximum old.offset xs f.kept new.offset (omega (arith, none, f.counted)) (holds_now new.offset new _ f.stays)

  pub emits_fits : (xs : List X) (written : Kept) (old new : State) → EmitsFront At plain xs written old new → old.offset ≤ old.maximum → new.offset ≤ old.maximum
  emits_fits xs written old new f within = by written.count refl where
    by : (n : ℕ) → written.count ≡ n → new.offset ≤ old.maximum
    by zero e = omega (arith, within, emits_nothing xs written old new e f)
    by (suc n) e = f.room (omega (arith, e))

  -- Nothing of nothing.
  pub emits_none : (old : State) → EmitsFront At plain [] (record { count = 0; is_cut = false }) old old
  emits_none old = record {
    kept = [];
    counted = refl;
    cut = refl;
    stays = record { of = λ later a. refl };
    room = λ some. absurd (omega (arith, some));
  }

  -- A front of two lists: the whole of the first and a front of the second, or a front of the first that is cut.
  front_short : (message : List ℕ) (limit place : ℕ) (xs kept : List X) (end : ℕ) → Front At plain message limit place xs kept end → length kept ≤ length xs
  front_short message limit place [] [] end f = omega arith
  front_short message limit place (x ∷ xs) [] end f = omega arith
  front_short message limit place [] (k ∷ ks) end f = absurd f
  front_short message limit place (x ∷ xs) (k ∷ ks) end (behind, same, at, small, later) =
      omega (arith, front_short message limit behind xs ks end later)

  front_then : (message : List ℕ) (limit place middle : ℕ) (xs ys kept more : List X) (end : ℕ) → length xs ≤ length kept → Front At plain message limit place xs kept middle → Front At plain message limit middle ys more end → Front At plain message limit place (xs ++ ys) (kept ++ more) end
  front_then message limit place middle [] ys [] more end whole f g = subst (λ (p : ℕ). Front At plain message limit p ys more end) f g
  front_then message limit place middle [] ys (k ∷ ks) more end whole f g = absurd f
  front_then message limit place middle (x ∷ xs) ys [] more end whole f g = absurd (omega (arith, whole))
  front_then message limit place middle (x ∷ xs) ys (k ∷ ks) more end whole (behind, same, at, small, later) g =
      (behind, same, at, small, front_then message limit behind middle xs ys ks more end (omega (arith, whole)) later g)

  front_cut : (message : List ℕ) (limit place : ℕ) (xs ys kept : List X) (end : ℕ) → length kept < length xs → Front At plain message limit place xs kept end → Front At plain message limit place (xs ++ ys) kept end
  front_cut message limit place [] ys kept end less f = absurd (omega (arith, less))
  front_cut message limit place (x ∷ xs) ys [] end less f = f
  front_cut message limit place (x ∷ xs) ys (k ∷ ks) end less (behind, same, at, small, later) =
      (behind, same, at, small, front_cut message limit behind xs ys ks end (omega (arith, less)) later)

  pub emits_cut : (xs ys : List X) (written : Kept) (old new : State) → written.is_cut ≡ true → EmitsFront At plain xs written old new → EmitsFront At plain (xs ++ ys) written old new
  emits_cut xs ys written old new cut f =
      let less : length f.kept < length xs = ltb-true (length f.kept) (length xs) (f.cut ∙ cut) in
      record {
        kept = f.kept;
        counted = f.counted;
        cut = lt-ltb (length f.kept) (length (xs ++ ys)) (omega (arith, less, length-append xs ys)) ∙ sym cut;
        stays = holds_map new.offset new _ _ (λ message front. front_cut message old.maximum old.offset xs ys f.kept new.offset less front) f.stays;
        room = f.room;
      }

  pub emits_two : (xs ys : List X) (one two both : Kept) (old mid new : State) → one.is_cut ≡ false → EmitsFront At plain xs one old mid → Writes old mid → EmitsFront At plain ys two mid new → Writes mid new → both.count ≡ one.count + two.count → both.is_cut ≡ (one.is_cut || two.is_cut) → EmitsFront At plain (xs ++ ys) both old new
  emits_two xs ys one two both old mid new whole f w g v counts cuts =
      let all : length xs ≤ length f.kept = ltb-false (length f.kept) (length xs) (f.cut ∙ whole) in
      let same : length f.kept ≡ length xs = omega (arith, all, front_short mid.octets old.maximum old.offset xs f.kept mid.offset (holds_now mid.offset mid _ f.stays)) in
      let first = holds_more mid.offset new.offset new _ v.forward (holds_written mid.offset mid new _ v (omega arith) f.stays) in
      let second = subst (λ (k : ℕ). StaysTrue new new.offset (λ message. Front At plain message k mid.offset ys g.kept new.offset)) w.modes.maximum g.stays in
      record {
        kept = f.kept ++ g.kept;
        counted = omega (arith, length-append f.kept g.kept, f.counted, g.counted, counts);
        cut = cut_behind (length f.kept) (length xs) (length g.kept) (length ys) (length (f.kept ++ g.kept)) (length (xs ++ ys)) same (length-append f.kept g.kept) (length-append xs ys) ∙ g.cut ∙ sym (cuts ∙ ap (λ (b : Bool). b || two.is_cut) whole);
        stays = record { of = λ message a. front_then message old.maximum old.offset mid.offset xs ys f.kept g.kept new.offset all (first.of message a) (second.of message a) };
        room = λ some. by some two.count refl;
      }
    where
      by : 0 < both.count → (n : ℕ) → two.count ≡ n → new.offset ≤ old.maximum
      by some zero e = omega (arith, emits_nothing ys two mid new e g, f.room (omega (arith, some, counts, e)))
      by some (suc n) e = omega (arith, w.modes.maximum, g.room (omega (arith, e)))

module _ {X : Type 0} (Fit : State → Type 0) (At : List ℕ → ℕ → X → ℕ → Type 0) (plain : X → ℕ) (Good : X → Type 0) (Emits : X → State → State → Type 0) (Refuses : X → State → ProtoError → Type 0) (laws : Standing Fit At plain Good Emits Refuses) where
  emitted_writes : (kept : List X) (old new : State) → Emitted Emits old kept new → Writes old new
  emitted_writes [] old new e = subst (λ (s : State). Writes old s) (sym e) (writes_same old)
  emitted_writes (k ∷ ks) old new (mid, one, w, more) = writes_then old mid new w (emitted_writes ks mid new more)

  -- A front ends at its place or behind it.
  pub front_forward : (message : List ℕ) (limit place : ℕ) (xs kept : List X) (end : ℕ) → Front At plain message limit place xs kept end → place ≤ end
  front_forward message limit place [] [] end f = omega (arith, f)
  front_forward message limit place (x ∷ xs) [] end f = omega (arith, f.0)
  front_forward message limit place [] (k ∷ ks) end f = absurd f
  front_forward message limit place (x ∷ xs) (k ∷ ks) end (behind, same, at, small, later) =
      omega (arith, laws.long message place k behind at, front_forward message limit behind xs ks end later)

  emitted_long : (kept : List X) (old new : State) → AllByRecursion Good kept → Fit old → Emitted Emits old kept new → old.offset + 11 * length kept ≤ new.offset
  emitted_long [] old new alone fit e = omega (arith, ap (λ (s : State). s.offset) e)
  emitted_long (k ∷ ks) old new alone fit (mid, one, w, more) =
      let at = holds_now mid.offset mid _ (laws.stays k old mid one alone.0 fit w) in
      let later = emitted_long ks mid new alone.1 (laws.fit k old mid one alone.0 fit w) more in
      omega (arith, laws.long mid.octets old.offset k mid.offset at, later)

  emitted_fits : (kept : List X) (old new : State) → old.offset ≤ old.maximum → Emitted Emits old kept new → new.offset ≤ old.maximum
  emitted_fits [] old new within e = omega (arith, within, ap (λ (s : State). s.offset) e)
  emitted_fits (k ∷ ks) old new within (mid, one, w, more) =
      omega (arith, w.modes.maximum, emitted_fits ks mid new (omega (arith, laws.fits k old mid one, w.modes.maximum)) more)

  emitted_few : (kept : List X) (old new : State) → AllByRecursion Good kept → Fit old → Emitted Emits old kept new → 11 * length kept ≤ old.maximum
  emitted_few [] old new alone fit e = omega arith
  emitted_few (k ∷ ks) old new alone fit e =
      let fits = emitted_fits ks e.0 new (omega (arith, laws.fits k old e.0 e.1, e.2.modes.maximum)) e.3 in
      omega (arith, emitted_long (k ∷ ks) old new alone fit e, fits, e.2.modes.maximum)

  all_front : (xs ys : List X) → AllByRecursion Good (xs ++ ys) → AllByRecursion Good xs
  all_front [] ys all = tt
  all_front (x ∷ xs) ys all = (all.0, all_front xs ys all.1)

  all_rest : (xs ys : List X) → AllByRecursion Good (xs ++ ys) → AllByRecursion Good ys
  all_rest [] ys all = all
  all_rest (x ∷ xs) ys all = all_rest xs ys all.1

  -- The items that were written stand as a front, if the list may be cut behind them.
  front_holds : (limit : ℕ) (kept rest : List X) (old new : State) → AllByRecursion Good kept → Fit old → Emitted Emits old kept new →
      ((message : List ℕ) → Front At plain message limit new.offset rest [] new.offset) → StaysTrue new new.offset (λ message. Front At plain message limit old.offset (kept ++ rest) kept new.offset)
  front_holds limit [] rest old new alone fit e stops = record {
    of = λ later a. subst (λ (s : State). Front At plain later limit s.offset rest [] new.offset) e (stops later);
  }
  front_holds limit (k ∷ ks) rest old new alone fit (mid, one, w, more) stops =
      let behind = emitted_writes ks mid new more in
      let here = holds_more mid.offset new.offset new _ behind.forward (holds_written mid.offset mid new _ behind (omega arith) (laws.stays k old mid one alone.0 fit w)) in
      let later = front_holds limit ks rest mid new alone.1 (laws.fit k old mid one alone.0 fit w) more stops in
      record { of = λ message a. (mid.offset, refl, here.of message a, laws.size k old mid one alone.0, later.of message a) }

  -- It is still fit behind them.
  fit_behind : (kept : List X) (old new : State) → AllByRecursion Good kept → Fit old → Emitted Emits old kept new → Fit new
  fit_behind [] old new alone fit e = subst Fit (sym e) fit
  fit_behind (k ∷ ks) old new alone fit (mid, one, w, more) = fit_behind ks mid new alone.1 (laws.fit k old mid one alone.0 fit w) more

  nothing_left : (message : List ℕ) (limit place : ℕ) (rest : List X) → rest ≡ [] → Front At plain message limit place rest [] place
  nothing_left message limit place [] none = refl
  nothing_left message limit place (x ∷ xs) none = absurd (cc none)

  emitted_room : (kept : List X) (old new : State) → 0 < length kept → Emitted Emits old kept new → new.offset ≤ old.maximum
  emitted_room [] old new some e = absurd (omega (arith, some))
  emitted_room (k ∷ ks) old new some (mid, one, w, more) =
      omega (arith, w.modes.maximum, emitted_fits ks mid new (omega (arith, laws.fits k old mid one, w.modes.maximum)) more)

  -- Each item of a front takes eleven octets at least, so that 16 bits count those of several.
  front_long : (message : List ℕ) (limit place : ℕ) (xs kept : List X) (end : ℕ) → Front At plain message limit place xs kept end → place + 11 * length kept ≤ end
  front_long message limit place [] [] end f = omega (arith, f)
  front_long message limit place (x ∷ xs) [] end f = omega (arith, f.0)
  front_long message limit place [] (k ∷ ks) end f = absurd f
  front_long message limit place (x ∷ xs) (k ∷ ks) end (behind, same, at, small, later) =
      omega (arith, laws.long message place k behind at, front_long message limit behind xs ks end later)

  pub emits_few : (xs : List X) (written : Kept) (old new : State) → EmitsFront At plain xs written old new → 11 * written.count ≤ old.maximum
  emits_few xs written old new f = by written.count refl where
    by : (n : ℕ) → written.count ≡ n → 11 * written.count ≤ old.maximum
    by zero e = omega (arith, e)
    by (suc n) e =
        let long = front_long new.octets old.maximum old.offset xs f.kept new.offset (holds_now new.offset new _ f.stays) in
        let within = f.room (omega (arith, e)) in
        omega (arith, long, within, f.counted)

  -- What is told of the items that were written: how many, and whether one was left out.
  pub record Told (xs : List X) (old new : State) (written : ℕ × Bool) : Type 0 where
    pub front : EmitsFront At plain xs (record { count = written.0; is_cut = written.1 }) old new
    pub fit : Fit new
    pub few : written.0 < 2 ^ 16

  -- The front that was written, from what is left of the list. More than 65,535 items would take more than any message
  -- holds.
  written_front : (xs kept rest : List X) (count : ℕ) (cut : Bool) (old mid new : State) → xs ≡ kept ++ rest → length kept ≡ count → is_cut xs kept ≡ cut → AllByRecursion Good xs → Fit old → Emitted Emits old kept mid → Writes mid new → new.offset ≡ mid.offset → (Fit mid → Fit new) →
      ((message : List ℕ) → Front At plain message old.maximum mid.offset rest [] mid.offset) → Told xs old new (count, cut)
  written_front xs kept rest count cut old mid new is counted told all fit e w same goes_on stops =
      let alone = all_front kept rest (subst (λ (ys : List X). AllByRecursion Good ys) is all) in
      let holds = holds_written mid.offset mid new _ w (omega arith) (front_holds old.maximum kept rest old mid alone fit e stops) in
      let few = emitted_few kept old mid alone fit e in
      record {
        front = record {
          kept = kept;
          counted = counted;
          cut = told;
          stays = rw is (subst (λ (end : ℕ). StaysTrue new end (λ message. Front At plain message old.maximum old.offset (kept ++ rest) kept end)) (sym same) holds);
          room = λ some. omega (arith, same, emitted_room kept old mid (omega (arith, some, counted)) e);
        };
        fit = goes_on (fit_behind kept old mid alone fit e);
        few = omega (arith, counted, laws.small old fit, few);
      }

  -- Where calls of an iterator always yield items that lend these, what they gave lent a front of them, and they go on with
  -- the rest.
  module _ {I Y : Type 0} (gives : I → Option Y → I → Type 0) (lent : Y → X) where
    abbrev found : List Y → List X
    found items = map lent items

    found_long : (items : List Y) → length (found items) ≡ length items
    found_long [] = refl
    found_long (y ∷ ys) = omega (arith, found_long ys)

    given : (items : List Y) (xs : List X) (from to : I) → AlwaysYields gives lent from xs → Yields gives from items to → (rest : List X) × (xs ≡ found items ++ rest) × AlwaysYields gives lent to rest
    given [] xs from to yields e = (xs, refl, subst (λ s. AlwaysYields gives lent s xs) e yields)
    given (y ∷ ys) [] from to yields (next, step, later) = absurd (yields y next step)
    given (y ∷ ys) (x ∷ xs) from to (more, each) (next, step, later) =
        let first = each y next step in
        let behind = given ys xs next to first.1 later in
        let split : x ∷ xs ≡ lent y ∷ (found ys ++ behind.0) = let same = first.0 in let others = behind.1 in cc in
        (behind.0, split, behind.2)

    -- The same where an iterator begins with these, or all of these were written.
    begun : (items : List Y) (xs : List X) (from to : I) (old new : State) → StartsWith gives lent from xs → Yields gives from items to → AllByRecursion Good xs → Fit old → Emitted Emits old (found items) new →
        ((rest : List X) × (xs ≡ found items ++ rest) × StartsWith gives lent to rest) ⊎ (old.offset + 11 * length xs ≤ old.maximum)
    begun [] xs from to old new starts e all fit emitted = inl (xs, refl, subst (λ s. StartsWith gives lent s xs) e starts)
    begun (y ∷ ys) [] from to old new starts gave all fit (mid, one, w, more) = inr (omega (arith, laws.fits (lent y) old mid one, w.forward))
    begun (y ∷ ys) (x ∷ xs) from to old new (some, each) (next, step, later) all fit (mid, one, w, more) =
        let first = each y next step in
        let good = subst Good (sym first.0) all.0 in
        let long = laws.long mid.octets old.offset (lent y) mid.offset (holds_now mid.offset mid _ (laws.stays (lent y) old mid one good fit w)) in
        elim (begun ys xs next to mid new first.1 later all.1 (laws.fit (lent y) old mid one good fit w) more) [
          | inl left ↦ let split : x ∷ xs ≡ lent y ∷ (found ys ++ left.0) = let same = first.0 in let others = left.1 in cc in inl (left.0, split, left.2)
          | inr many ↦ inr (omega (arith, many, long, w.modes.maximum))
        ]

    -- The next call of an iterator gives the first of these, or none where there are none.
    abbrev Next : I → List X → Type 0
    Next from [] = (y : Y) (to : I) → gives from (Some y) to → ⊥
    Next from (x ∷ xs) = ((to : I) → gives from None to → ⊥) × ((y : Y) (to : I) → gives from (Some y) to → lent y ≡ x)

    next_given : (xs : List X) (from : I) → AlwaysYields gives lent from xs → Next from xs
    next_given [] from none = none
    next_given (x ∷ xs) from (some, each) = (some, λ y to step. (each y to step).0)

    next_begun : (xs : List X) (from : I) → 0 < length xs → StartsWith gives lent from xs → Next from xs
    next_begun [] from some starts = absurd (omega (arith, some))
    next_begun (x ∷ xs) from some (more, each) = (more, λ y to step. (each y to step).0)

    -- Items of an iterator that supplies these were written: they are a prefix of these, and the next call gives the next one.
    -- 65,535 items would take more octets than any message holds.
    supplied : (items : List Y) (xs : List X) (from to : I) (old new : State) → Supplies gives lent from xs → Yields gives from items to → AllByRecursion Good xs → Fit old → Emitted Emits old (found items) new →
        (rest : List X) × (xs ≡ found items ++ rest) × Next to rest
    supplied items xs from to old new (inl yields) gave all fit e =
        let left = given items xs from to yields gave in
        (left.0, left.1, next_given left.0 to left.2)
    supplied items xs from to old new (inr (many, starts)) gave all fit e =
        elim (begun items xs from to old new starts gave all fit e) [
          | inl left ↦
              let few = emitted_few (found items) old new (all_front (found items) left.0 (subst (λ (ys : List X). AllByRecursion Good ys) left.1 all)) fit e in
              let some : 0 < length left.0 = omega (arith, few, many, laws.small old fit, ap length left.1, length-append (found items) left.0) in
              (left.0, left.1, next_begun left.0 to some left.2)
          | inr whole ↦ absurd (omega (arith, whole, many, laws.small old fit))
        ]

    none_left : (xs : List X) (from to : I) → Next from xs → gives from None to → xs ≡ []
    none_left [] from to next step = refl
    none_left (x ∷ xs) from to (more, each) step = absurd (more to step)

    next_left : (xs : List X) (from to : I) (y : Y) → Next from xs → gives from (Some y) to → (rest : List X) × (xs ≡ lent y ∷ rest)
    next_left [] from to y next step = absurd (next y to step)
    next_left (x ∷ xs) from to y (more, each) step = (xs, ap (λ (first : X). first ∷ xs) (sym (each y to step)))

    -- Items that are written, and refused, as those that they lend.
    module _ (emits : Y → State → State → Type 0) (refuses : Y → State → ProtoError → State → Type 0)
        (emits_lent : (y : Y) (old new : State) → emits y old new → Emits (lent y) old new)
        (refuses_lent : (y : Y) (old : State) (e : ProtoError) (new : State) → refuses y old e new → Refuses (lent y) old e) where
      emitted_lent : (items : List Y) (old new : State) → Emitted emits old items new → Emitted Emits old (found items) new
      emitted_lent [] old new e = e
      emitted_lent (y ∷ ys) old new (mid, one, w, more) = (mid, emits_lent y old mid one, w, emitted_lent ys mid new more)

      -- All items were written.
      front_all : (xs : List X) (from to : I) (count : ℕ) (old new : State) → Supplies gives lent from xs → AllByRecursion Good xs → Fit old →
          WroteAll gives emits from to count old new → Told xs old new (count, false)
      front_all xs from to count old new yields all fit (last, wrote, why) =
          let kept = found wrote.items in
          let e = emitted_lent wrote.items old new wrote.emitted in
          let behind = supplied wrote.items xs from last old new yields wrote.yielded all fit e in
          let split = behind.1 in
          let few = emitted_few kept old new (all_front kept behind.0 (subst (λ (ys : List X). AllByRecursion Good ys) split all)) fit e in
          let none : behind.0 ≡ [] = elim why [
            | inl many ↦ absurd (omega (arith, few, laws.small old fit, many.0, wrote.counted, found_long wrote.items))
            | inr step ↦ none_left behind.0 last to behind.2 step
          ] in
          written_front xs kept behind.0 count false old new new split (found_long wrote.items ∙ wrote.counted) (cut_nowhere xs kept behind.0 split none) all fit e (writes_same new) refl (λ f. f) (λ message. nothing_left message old.maximum new.offset behind.0 none)

      -- The next item was refused: it doesn't fit, or memory is wanting.
      front_stopped : (xs : List X) (from to : I) (old : State) (e : ProtoError) (new : State) → Supplies gives lent from xs → AllByRecursion Good xs → Fit old →
          WroteFront gives emits refuses from to old e new → IsMemory e ⊎ ((count : ℕ) × (e ≡ NotAllRecordsWritten count) × Told xs old new (count, true))
      front_stopped xs from to old e new yields all fit (last, count, mid, y, wrote, step, stops) =
          let kept = found wrote.items in
          let emitted = emitted_lent wrote.items old mid wrote.emitted in
          let behind = supplied wrote.items xs from last old mid yields wrote.yielded all fit emitted in
          let next = next_left behind.0 last to y behind.2 step in
          let rest = lent y ∷ next.0 in
          let split : xs ≡ kept ++ rest = behind.1 ∙ ap (λ (ys : List X). kept ++ ys) next.1 in
          let alone : Good (lent y) = (all_rest kept rest (subst (λ (ys : List X). AllByRecursion Good ys) split all)).0 in
          let same : mid.maximum ≡ old.maximum = (emitted_writes kept old mid emitted).modes.maximum in
          elim stops [
            | inl (left, size, refused, told, back) ↦
                let past : old.maximum < mid.offset + plain (lent y) = omega (arith, same, passes mid (plain (lent y)) size (laws.refused (lent y) mid (MaxBufferSizeExceeded size) (refuses_lent y mid (MaxBufferSizeExceeded size) left refused) alone (omega (arith, same, laws.small old fit)))) in
                inr (count, told, written_front xs kept rest count true old mid new split (found_long wrote.items ∙ wrote.counted) (cut_before xs kept (lent y) next.0 split) all fit emitted back.writes back.offset (λ f. laws.back mid new f back) (λ message. (refl, past)))
            | inr (refused, other) ↦ inl (memory_left mid (plain (lent y)) e (laws.refused (lent y) mid e (refuses_lent y mid e new refused) alone (omega (arith, same, laws.small old fit))) other)
          ]

      not_kept : (xs : List X) (old new : State) (written : Result (ℕ × Bool) ProtoError) (e : ProtoError) → IfOk written (Told xs old new) → IfErr written IsMemory → IsNotKept written e → IsMemory e
      not_kept xs old new (Ok count) e told memory many = absurd (omega (arith, told.few, many))
      not_kept xs old new (Err refused) e told memory is = subst IsMemory (sym is) memory

      front_told : (xs : List X) (from : I) (old new : State) (r : Result ℕ ProtoError) → Supplies gives lent from xs → AllByRecursion Good xs → Fit old →
          IfOk r (λ count. (left : I) × WroteAll gives emits from left count old new) → IfErr r (λ e. (left : I) × WroteFront gives emits refuses from left old e new) →
          IfOk (written_count r) (Told xs old new) × IfErr (written_count r) IsMemory
      front_told xs from old new (Ok count) yields all fit ok err = (front_all xs from ok.0 count old new yields all fit ok.1, tt)
      front_told xs from old new (Err (NotAllRecordsWritten n)) yields all fit ok err =
          elim (front_stopped xs from err.0 old (NotAllRecordsWritten n) new yields all fit err.1) [
            | inl memory ↦ absurd memory
            | inr f ↦ let same : n ≡ f.0 = cc f.1 in (rw same f.2, tt)
          ]
      front_told xs from old new (Err e) yields all fit ok err =
          elim (front_stopped xs from err.0 old e new yields all fit err.1) [
            | inl memory ↦ (tt, memory)
            | inr f ↦ absurd (cc f.1)
          ]

      -- What a call that writes the items, and tells what was kept of them, answers.
      module _ (from : I) (old new : State) (r : Result ℕ ProtoError) (fit : Fit old) (ok : IfOk r (λ count. (left : I) × WroteAll gives emits from left count old new)) (err : IfErr r (λ e. (left : I) × WroteFront gives emits refuses from left old e new)) where
        pub front_kept : (answer : Result Kept ProtoError) → IfOk answer (λ kept. written_count r ≡ Ok (kept.count, kept.is_cut)) → IfOk answer (λ kept. (xs : List X) → Supplies gives lent from xs → AllByRecursion Good xs → EmitsFront At plain xs kept old new × Fit new)
        front_kept (Ok kept) is = λ xs yields all.
            let told = front_told xs from old new r yields all fit ok err in
            let of = subst (λ (w : Result (ℕ × Bool) ProtoError). IfOk w (Told xs old new)) is told.0 in
            (of.front, of.fit)
        front_kept (Err e) is = tt

        pub front_refused : (answer : Result Kept ProtoError) → IfErr answer (IsNotKept (written_count r)) → IfErr answer (λ e. (xs : List X) → Supplies gives lent from xs → AllByRecursion Good xs → IsMemory e)
        front_refused (Ok kept) is = tt
        front_refused (Err e) is = λ xs yields all.
            let told = front_told xs from old new r yields all fit ok err in
            not_kept xs old new (written_count r) e told.0 told.1 is
