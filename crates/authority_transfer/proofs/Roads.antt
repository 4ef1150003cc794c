-- A map that is made of the records of another one is that one, in whatever place the records of one set come.
use Rattle.std.proofs.Common.{◌≡◌, refl, sym, ap, ◌∙◌, subst, Bool, true, false, not, List, [], ◌∷◌, ◌++◌}
use Rattle.std.specs.Prelude.{Option, Some, None, cond, find}
use Rattle.std.specs.List.{AllByRecursion, filter, flat_map}
use Rattle.authority_transfer.specs.Alike.{AllSame, SameOption}
use Rattle.std.proofs.lemmas.Bool.{true≢false}
use Rattle.std.proofs.lemmas.List.Elements.{filter-append}

module _ {R S Q : Type 0} (at : Q → R → Bool) (at_set : Q → S → Bool) (join : Option S → R → S) (records : S → List R) where
  -- What is stored under each name and type.
  abbrev pub Stored : Type 0
  Stored = Q → Option S

  -- One record more.
  abbrev pub Joins : Stored → R → Stored → Type 0
  Joins old r new = (q : Q) → new q ≡ cond (at q r) (Some (join (old q) r)) (old q)

  -- One record after the other.
  abbrev pub Runs : Stored → List R → Stored → Type 0
  Runs old [] new = (q : Q) → new q ≡ old q
  Runs old (r ∷ rs) new = (next : Stored) × Joins old r next × Runs next rs new

  abbrev pub gather : Option S → List R → Option S
  gather o [] = o
  gather o (r ∷ rs) = gather (Some (join o r)) rs

  gather_step : (b : Bool) (o : Option S) (r : R) (rs : List R) → gather (cond b (Some (join o r)) o) rs ≡ gather o (cond b (r ∷ rs) rs)
  gather_step true o r rs = refl
  gather_step false o r rs = refl

  -- What stands under a name and a type is made of its own records alone.
  pub runs_gather : (old : Stored) (rs : List R) (new : Stored) → Runs old rs new → (q : Q) → new q ≡ gather (old q) (filter (at q) rs)
  runs_gather old [] new run q = run q
  runs_gather old (r ∷ rs) new run q =
      runs_gather run.0 rs new run.2 q
      ∙ ap (λ (o : Option S). gather o (filter (at q) rs)) (run.1 q)
      ∙ gather_step (at q r) (old q) r (filter (at q) rs)

  -- ---- the records of sets
  -- The records of a set are its own.
  abbrev pub Owns : S → Type 0
  Owns s = (q : Q) → AllByRecursion (λ r. at q r ≡ at_set q s) (records s)

  -- No two sets are of one name and type.
  abbrev pub Distinct : List S → Type 0
  Distinct [] = Unit {0}
  Distinct (s ∷ ss) = ((q : Q) → at_set q s ≡ true → find (at_set q) ss ≡ None) × Distinct ss

  abbrev pub all_records : List S → List R
  all_records ss = flat_map records ss

  abbrev pub records_if : Option S → List R
  records_if None = []
  records_if (Some s) = records s

  filter_cond : (b : Bool) (r : R) (xs : List R) → b ≡ true → cond b (r ∷ xs) xs ≡ r ∷ xs
  filter_cond true r xs e = refl
  filter_cond false r xs e = absurd (true≢false (sym e))

  filter_cond_not : (b : Bool) (r : R) (xs : List R) → b ≡ false → cond b (r ∷ xs) xs ≡ xs
  filter_cond_not true r xs e = absurd (true≢false e)
  filter_cond_not false r xs e = refl

  pub all_of : (test : R → Bool) (rs : List R) → AllByRecursion (λ r. test r ≡ true) rs → filter test rs ≡ rs
  all_of test [] all = refl
  all_of test (r ∷ rs) all = filter_cond (test r) r (filter test rs) all.0 ∙ ap (λ (xs : List R). r ∷ xs) (all_of test rs all.1)

  pub none_of : (test : R → Bool) (rs : List R) → AllByRecursion (λ r. test r ≡ false) rs → filter test rs ≡ []
  none_of test [] all = refl
  none_of test (r ∷ rs) all = filter_cond_not (test r) r (filter test rs) all.0 ∙ none_of test rs all.1

  as_value : (test : R → Bool) (b c : Bool) (rs : List R) → b ≡ c → AllByRecursion (λ r. test r ≡ b) rs → AllByRecursion (λ r. test r ≡ c) rs
  as_value test b c [] e all = tt
  as_value test b c (r ∷ rs) e all = (all.0 ∙ e, as_value test b c rs e all.1)

  append_none : {X : Type 0} (xs : List X) → xs ++ [] ≡ xs
  append_none [] = refl
  append_none (x ∷ xs) = ap (λ ys. x ∷ ys) (append_none xs)

  of_step : (q : Q) (s : S) (ss : List S) (b : Bool) → at_set q s ≡ b → Owns s → (at_set q s ≡ true → find (at_set q) ss ≡ None)
      → filter (at q) (all_records ss) ≡ records_if (find (at_set q) ss)
      → filter (at q) (records s) ++ filter (at q) (all_records ss) ≡ records_if (cond b (Some s) (find (at_set q) ss))
  of_step q s ss true e owns none later =
      ap (λ (xs : List R). xs ++ filter (at q) (all_records ss)) (all_of (at q) (records s) (as_value (at q) (at_set q s) true (records s) e (owns q)))
      ∙ ap (λ (xs : List R). records s ++ xs) (later ∙ ap records_if (none e))
      ∙ append_none (records s)
  of_step q s ss false e owns none later =
      ap (λ (xs : List R). xs ++ filter (at q) (all_records ss)) (none_of (at q) (records s) (as_value (at q) (at_set q s) false (records s) e (owns q)))
      ∙ later

  -- Of all records those of a name and type are those of its set.
  pub of_set : (q : Q) (ss : List S) → AllByRecursion Owns ss → Distinct ss → filter (at q) (all_records ss) ≡ records_if (find (at_set q) ss)
  of_set q [] owns apart = refl
  of_set q (s ∷ ss) owns apart =
      filter-append (at q) (records s) (all_records ss) ∙ of_step q s ss (at_set q s) refl owns.0 (apart.0 q) (of_set q ss owns.1 apart.1)

  -- ---- the records of one set first
  -- Two names and types that one record has are the same.
  abbrev pub Agree : Type 0
  Agree = (p q : Q) (r : R) → at p r ≡ true → at q r ≡ true → ((x : R) → at p x ≡ at q x) × ((s : S) → at_set p s ≡ at_set q s)

  abbrev pub AgreeSets : Type 0
  AgreeSets = (p q : Q) (s : S) → at_set p s ≡ true → at_set q s ≡ true → (x : R) → at p x ≡ at q x

  filter_same : (p q : R → Bool) (rs : List R) → ((r : R) → p r ≡ q r) → filter p rs ≡ filter q rs
  filter_same p q [] e = refl
  filter_same p q (r ∷ rs) e = ap (λ (b : Bool). cond b (r ∷ filter p rs) (filter p rs)) (e r) ∙ ap (λ (xs : List R). cond (q r) (r ∷ xs) xs) (filter_same p q rs e)

  none_twice : (p : R → Bool) (rs : List R) → filter p (filter (λ r. not (p r)) rs) ≡ []
  none_twice p [] = refl
  none_twice p (r ∷ rs) = by (p r) refl (none_twice p rs)
    where
      by : (b : Bool) → p r ≡ b → filter p (filter (λ x. not (p x)) rs) ≡ [] → filter p (cond (not b) (r ∷ filter (λ x. not (p x)) rs) (filter (λ x. not (p x)) rs)) ≡ []
      by true e more = more
      by false e more = filter_cond_not (p r) r (filter p (filter (λ x. not (p x)) rs)) e ∙ more

  kept_step : (b c : Bool) (p q : R → Bool) (r : R) (xs ys : List R) → (b ≡ true → c ≡ false) → q r ≡ b → filter q xs ≡ ys
      → filter q (cond (not c) (r ∷ xs) xs) ≡ cond b (r ∷ ys) ys
  kept_step true true p q r xs ys apart e more = absurd (true≢false (apart refl))
  kept_step true false p q r xs ys apart e more = filter_cond (q r) r (filter q xs) e ∙ ap (λ (zs : List R). r ∷ zs) more
  kept_step false true p q r xs ys apart e more = more
  kept_step false false p q r xs ys apart e more = filter_cond_not (q r) r (filter q xs) e ∙ more

  kept_twice : (p q : R → Bool) (rs : List R) → ((r : R) → q r ≡ true → p r ≡ false) → filter q (filter (λ r. not (p r)) rs) ≡ filter q rs
  kept_twice p q [] apart = refl
  kept_twice p q (r ∷ rs) apart =
      kept_step (q r) (p r) p q r (filter (λ x. not (p x)) rs) (filter q rs) (apart r) refl (kept_twice p q rs apart)

  -- A transfer: the records of one set, then all others.
  abbrev pub moved : Q → S → List S → List R
  moved first start ss = records start ++ filter (λ r. not (at first r)) (all_records ss)

  moved_step : (first q : Q) (start : S) (ss : List S) (b : Bool) → at_set q start ≡ b → at_set first start ≡ true → Agree → Owns start
      → ((r : R) → at q r ≡ true → at first r ≡ true → at_set q start ≡ true)
      → filter (at first) (all_records ss) ≡ records start
      → (b ≡ true → (x : R) → at q x ≡ at first x)
      → filter (at q) (records start) ++ filter (at q) (filter (λ r. not (at first r)) (all_records ss)) ≡ filter (at q) (all_records ss)
  moved_step first q start ss true e here agree owns tied own alike =
      ap (λ (xs : List R). xs ++ filter (at q) (filter (λ r. not (at first r)) (all_records ss)))
      (all_of (at q) (records start) (as_value (at q) (at_set q start) true (records start) e (owns q)))
      ∙ ap (λ (xs : List R). records start ++ xs) (filter_same (at q) (at first) (filter (λ r. not (at first r)) (all_records ss)) (alike refl) ∙ none_twice (at first) (all_records ss))
      ∙ append_none (records start)
      ∙ sym own
      ∙ sym (filter_same (at q) (at first) (all_records ss) (alike refl))
  moved_step first q start ss false e here agree owns tied own alike =
      ap (λ (xs : List R). xs ++ filter (at q) (filter (λ r. not (at first r)) (all_records ss)))
      (none_of (at q) (records start) (as_value (at q) (at_set q start) false (records start) e (owns q)))
      ∙ kept_twice (at first) (at q) (all_records ss) (λ r there. no_other r there (at first r) refl)
    where
      no_other : (r : R) → at q r ≡ true → (c : Bool) → at first r ≡ c → c ≡ false
      no_other r there true f = absurd (true≢false (sym (tied r there f) ∙ e))
      no_other r there false f = refl

  -- In a transfer the records of each name and type come in their order.
  pub moved_keeps : (first q : Q) (start : S) (ss : List S) → Agree → AgreeSets → Owns start → at_set first start ≡ true
      → filter (at first) (all_records ss) ≡ records start
      → filter (at q) (moved first start ss) ≡ filter (at q) (all_records ss)
  moved_keeps first q start ss agree sets owns here own =
      filter-append (at q) (records start) (filter (λ r. not (at first r)) (all_records ss))
      ∙ moved_step first q start ss (at_set q start) refl here agree owns
      (λ r there at_first. (agree q first r there at_first).1 start ∙ here) own
      (λ e. sets q first start e here)

  -- ---- the map of a transfer
  none_gathered : (rs : List R) (s : S) → rs ≡ [] → gather None rs ≡ Some s → ⊥
  none_gathered [] s e g = let h : ⊥ = cc in h
  none_gathered (r ∷ rs) s e g = let h : ⊥ = cc in h

  -- Each set is made of its own records, one after the other.
  abbrev pub IsMade : S → Type 0
  IsMade s = gather None (records s) ≡ Some s

  made_found : (q : Q) (ss : List S) → AllByRecursion IsMade ss → gather None (records_if (find (at_set q) ss)) ≡ find (at_set q) ss
  made_found q [] made = refl
  made_found q (s ∷ ss) made = by (at_set q s) made.0 (made_found q ss made.1)
    where
      by : (b : Bool) → IsMade s → gather None (records_if (find (at_set q) ss)) ≡ find (at_set q) ss
          → gather None (records_if (cond b (Some s) (find (at_set q) ss))) ≡ cond b (Some s) (find (at_set q) ss)
      by true first more = first
      by false first more = more

  module _ (SameR : R → R → Type 0) (SameS : S → S → Type 0)
      (at_same : (q : Q) (r r' : R) → SameR r r' → at q r ≡ at q r')
      (join_same : (o o' : Option S) (r r' : R) → SameOption SameS o o' → SameR r r' → SameS (join o r) (join o' r')) where
    filter_alike : (q : Q) (rs rs' : List R) → AllSame SameR rs rs' → AllSame SameR (filter (at q) rs) (filter (at q) rs')
    filter_alike q [] [] same = tt
    filter_alike q [] (y ∷ ys) same = absurd same
    filter_alike q (x ∷ xs) [] same = absurd same
    filter_alike q (x ∷ xs) (y ∷ ys) same = by (at q x) (at q y) (at_same q x y same.0) (filter_alike q xs ys same.1)
      where
        by : (b c : Bool) → b ≡ c → AllSame SameR (filter (at q) xs) (filter (at q) ys) → AllSame SameR (cond b (x ∷ filter (at q) xs) (filter (at q) xs)) (cond c (y ∷ filter (at q) ys) (filter (at q) ys))
        by true true e more = (same.0, more)
        by false false e more = more
        by true false e more = absurd (true≢false e)
        by false true e more = absurd (true≢false (sym e))

    gather_alike : (o o' : Option S) (rs rs' : List R) → SameOption SameS o o' → AllSame SameR rs rs' → SameOption SameS (gather o rs) (gather o' rs')
    gather_alike o o' [] [] first same = first
    gather_alike o o' [] (y ∷ ys) first same = absurd same
    gather_alike o o' (x ∷ xs) [] first same = absurd same
    gather_alike o o' (x ∷ xs) (y ∷ ys) first same = gather_alike (Some (join o x)) (Some (join o' y)) xs ys (join_same o o' x y first same.0) same.1

    module _ (agree : Agree) (sets : AgreeSets) (first : Q) (start : S) (ss : List S)
        (owns : AllByRecursion Owns ss) (apart : Distinct ss) (its : Owns start)
        (here : at_set first start ≡ true) (found : find (at_set first) ss ≡ Some start)
        (sent : List R) (alike : AllSame SameR (moved first start ss) sent) where
      own : filter (at first) (all_records ss) ≡ records start
      own = of_set first ss owns apart ∙ ap records_if found

      kept : (q : Q) → filter (at q) (moved first start ss) ≡ records_if (find (at_set q) ss)
      kept q = moved_keeps first q start ss agree sets its here own ∙ of_set q ss owns apart

      kept_alike : (q : Q) → AllSame SameR (records_if (find (at_set q) ss)) (filter (at q) sent)
      kept_alike q = subst (λ (rs : List R). AllSame SameR rs (filter (at q) sent)) (kept q) (filter_alike q (moved first start ss) sent alike)

      -- Whoever takes the records of a transfer has the sets that it was made of.
      pub transferred : (new : Stored) → AllByRecursion IsMade ss → Runs (λ q. None) sent new → (q : Q) → SameOption SameS (find (at_set q) ss) (new q)
      transferred new made run q =
          subst (SameOption SameS (find (at_set q) ss)) (sym (runs_gather (λ p. None) sent new run q))
          (subst (λ (o : Option S). SameOption SameS o (gather None (filter (at q) sent))) (made_found q ss made)
          (gather_alike None None (records_if (find (at_set q) ss)) (filter (at q) sent) tt (kept_alike q)))

      module _ (front : List R) (r : R) (rest : List R) (parts : sent ≡ front ++ r ∷ rest) (so_far : Stored) (run : Runs (λ q. None) front so_far) where
        split : (q : Q) → AllSame SameR (records_if (find (at_set q) ss)) (filter (at q) front ++ filter (at q) (r ∷ rest))
        split q = subst (AllSame SameR (records_if (find (at_set q) ss))) (ap (filter (at q)) parts ∙ filter-append (at q) front (r ∷ rest)) (kept_alike q)

        left_none : (xs ys zs : List R) → zs ≡ [] → AllSame SameR zs (xs ++ ys) → xs ≡ []
        left_none [] ys zs none same = refl
        left_none (x ∷ xs) ys [] none same = absurd same
        left_none (x ∷ xs) ys (z ∷ zs) none same = let h : ⊥ = cc in absurd h

        -- So far only names and types are there that are among the sets.
        pub none_new : (q : Q) → find (at_set q) ss ≡ None → so_far q ≡ None
        none_new q none =
            runs_gather (λ p. None) front so_far run q
            ∙ ap (gather None) (left_none (filter (at q) front) (filter (at q) (r ∷ rest)) (records_if (find (at_set q) ss)) (ap records_if none) (split q))

        alone : (b : Bool) (x : R) (xs zs : List R) → b ≡ true → AllSame SameR (x ∷ []) (xs ++ cond b (r ∷ zs) zs) → xs ≡ []
        alone b x [] zs there same = refl
        alone true x (y ∷ xs) zs there same = absurd (filled xs same.1)
          where
            filled : (us : List R) → AllSame SameR [] (us ++ r ∷ zs) → ⊥
            filled [] h = h
            filled (u ∷ us) h = h
        alone false x (y ∷ xs) zs there same = absurd (true≢false (sym there))

        -- Of a set of one record none is there before it.
        pub none_before : (q : Q) (s : S) (x : R) → find (at_set q) ss ≡ Some s → records s ≡ x ∷ [] → at q r ≡ true → so_far q ≡ None
        none_before q s x is one there =
            runs_gather (λ p. None) front so_far run q
            ∙ ap (gather None) (alone (at q r) x (filter (at q) front) (filter (at q) rest) there (subst (λ (rs : List R). AllSame SameR rs (filter (at q) front ++ filter (at q) (r ∷ rest))) (ap records_if is ∙ one) (split q)))
