-- Placeholders are put in, one set's after the other's.
use Rattle.std.proofs.Common.{◌≡◌, ℕ, refl, ap, sym, subst, ◌∙◌, append_assoc}
use Rattle.std.specs.Prelude.{Bool, true, false, not, ◌&&◌, ◌||◌, ◌==◌, List, [], ◌∷◌, ◌++◌, Option, Some, None, cond, find, is_some, IsSome}
use Rattle.std.specs.List.{AllByRecursion}
use Rattle.std.proofs.lemmas.Bool.{and_parts, eqb-true, eq-eqb, true≢false}
use Rattle.zst_absence.specs.dnw_codes.declared.record_type.RecordType.{RecordType}
use Rattle.zst_absence.specs.dnw_codes.RecordType.{record_type_number, same_record_type}
use Rattle.zst_absence.specs.dnw_name.DomainName.{DomainName, name_eq}
use Rattle.zst_absence.specs.zst_record.RecordLaws.{name_eq_equiv}
use Rattle.zst_absence.specs.zst_record.RecordSets.{RRset, is_signature_of}
use Rattle.zst_absence.specs.zst_handler.Zones.{rrset_at}
use Rattle.zst_absence.specs.zst_denial.Kept.{is_circle_type}
use Rattle.zst_circle.specs.Moves.{CanMove, is_placeholder_of, placeholder_of}
use Rattle.zst_circle.specs.declared.moves.Placeholder.{Placeholder}

-- ---- by tests alone
pub kept_out : (hit moving x : Bool) → (hit ≡ true → moving ≡ false) → x ≡ ((hit && moving) || x)
kept_out false moving x h = refl
kept_out true false x h = refl
kept_out true true x h = absurd (true≢false (h refl))

pub put_in : (hit moving x new : Bool) → (hit ≡ true → moving ≡ true) → new ≡ (hit || x) → new ≡ ((hit && moving) || x)
put_in false moving x new h e = e
put_in true true x new h e = e
put_in true false x new h e = absurd (true≢false (sym (h refl)))

pub some_of : (hit : Bool) (set : RRset) (o : Option RRset) → is_some (cond hit (Some set) o) ≡ (hit || is_some o)
some_of true set o = refl
some_of false set o = refl

some_true : {X : Type 0} (b : Bool) (x : X) (o : Option X) → b ≡ true → IsSome (cond b (Some x) o)
some_true true x o e = refl
some_true false x o e = absurd (true≢false (sym e))

some_later : {X : Type 0} (b : Bool) (x : X) (o : Option X) → IsSome o → IsSome (cond b (Some x) o)
some_later true x o some = refl
some_later false x o some = some

-- ---- lists
pub find_last : {X : Type 0} (test : X → Bool) (xs : List X) (x : X) → is_some (find test (xs ++ x ∷ [])) ≡ (test x || is_some (find test xs))
find_last test [] x = by (test x)
  where
    by : (b : Bool) → is_some (cond b (Some x) None) ≡ (b || false)
    by true = refl
    by false = refl
find_last test (y ∷ ys) x = by (test y) (test x) (find_last test ys x)
  where
    by : (b c : Bool) → is_some (find test (ys ++ x ∷ [])) ≡ (c || is_some (find test ys)) → is_some (cond b (Some y) (find test (ys ++ x ∷ []))) ≡ (c || is_some (cond b (Some y) (find test ys)))
    by true true more = refl
    by true false more = refl
    by false c more = more

pub all_with : {X : Type 0} (P : X → Type 0) (xs : List X) (x : X) → AllByRecursion P xs → P x → AllByRecursion P (xs ++ x ∷ [])
all_with P [] x all p = (p, tt)
all_with P (y ∷ ys) x all p = (all.0, all_with P ys x all.1 p)

-- ---- what moves
-- Of types of one number both move or neither does.
pub moves_alike : (t u : RecordType) → same_record_type u t ≡ true → not (is_circle_type t) ≡ not (is_circle_type u)
moves_alike t u typed =
    ap (λ (n : ℕ). not ((n == 47) || ((n == 50) || (n == 51)))) (sym (eqb-true (record_type_number u) (record_type_number t) typed))

pub hit_moves : (name : DomainName) (set : RRset) (t : RecordType) → (name_eq name set.name && same_record_type set.record_type t) ≡ true → not (is_circle_type t) ≡ not (is_circle_type set.record_type)
hit_moves name set t hit = moves_alike t set.record_type (and_parts (name_eq name set.name) (same_record_type set.record_type t) hit).1

-- ---- a turn of the loop: what has been put in, and what is to come
pub put_turn : (n n' hit rest moving all : Bool) → n' ≡ ((hit && moving) || n) → (n || ((hit || rest) && moving)) ≡ all → (n' || (rest && moving)) ≡ all
put_turn n n' hit rest moving all e before = ap (λ (b : Bool). b || (rest && moving)) e ∙ core n hit rest moving ∙ before
  where
    core : (n hit rest moving : Bool) → (((hit && moving) || n) || (rest && moving)) ≡ (n || ((hit || rest) && moving))
    core true true rest true = refl
    core true true rest false = refl
    core true false rest moving = refl
    core false true true true = refl
    core false true false true = refl
    core false true true false = refl
    core false true false false = refl
    core false false rest moving = refl

-- ---- all placeholders that are listed
found_there : (front : List Placeholder) (p : Placeholder) (later : List Placeholder) → IsSome (placeholder_of (front ++ p ∷ later) p.key p.record_type)
found_there [] p later =
    some_true (is_placeholder_of p.key p.record_type p) p (placeholder_of later p.key p.record_type)
    (rw (name_eq_equiv.refl p.key, eq-eqb (record_type_number p.record_type) (record_type_number p.record_type) refl) refl)
found_there (q ∷ front) p later =
    some_later (is_placeholder_of p.key p.record_type q) q (placeholder_of (front ++ p ∷ later) p.key p.record_type) (found_there front p later)

pub listed_all : (front list : List Placeholder) → AllByRecursion (λ p. IsSome (placeholder_of (front ++ list) p.key p.record_type)) list
listed_all front [] = tt
listed_all front (p ∷ later) = (
  found_there front p later,
  subst (λ (whole : List Placeholder). AllByRecursion (λ q. IsSome (placeholder_of whole q.key q.record_type)) later) (append_assoc front (p ∷ []) later) (listed_all (front ++ p ∷ []) later),
)

the_set : (o : Option RRset) → IsSome o → (set : RRset) × (o ≡ Some set)
the_set None some = absurd (true≢false (sym some))
the_set (Some set) some = (set, refl)

-- Each can move, since there is a set in both zones.
pub can_all : (fits : Placeholder → Type 0) (old new : List RRset) (whole list : List Placeholder)
    → ((p : Placeholder) (set : RRset) → fits p → rrset_at old p.key p.record_type ≡ Some set → AllByRecursion (λ r. is_signature_of set r ≡ true) p.signatures.items)
    → ((name : DomainName) (t : RecordType) → is_some (rrset_at new name t) ≡ (is_some (rrset_at old name t) && not (is_circle_type t)))
    → ((name : DomainName) (t : RecordType) → is_some (placeholder_of whole name t) ≡ (is_some (rrset_at old name t) && not (is_circle_type t)))
    → AllByRecursion (λ p. IsSome (placeholder_of whole p.key p.record_type)) list → AllByRecursion fits list → AllByRecursion (CanMove old new) list
can_all fits old new whole [] fit there listed is each = tt
can_all fits old new whole (p ∷ later) fit there listed is each =
    let both = sym (listed p.key p.record_type) ∙ is.0 in
    let set = the_set (rrset_at old p.key p.record_type) (and_parts (is_some (rrset_at old p.key p.record_type)) (not (is_circle_type p.record_type)) both).0 in
    let can : CanMove old new p = record {
      set = set.0;
      stored = set.1;
      placed = there p.key p.record_type ∙ both;
      signed = fit p set.0 each.0 set.1;
    } in
    (can, can_all fits old new whole later fit there listed is.1 each.1)

pub all_can : (fits : Placeholder → Type 0) (old new : List RRset) (list : List Placeholder)
    → ((p : Placeholder) (set : RRset) → fits p → rrset_at old p.key p.record_type ≡ Some set → AllByRecursion (λ r. is_signature_of set r ≡ true) p.signatures.items)
    → ((name : DomainName) (t : RecordType) → is_some (rrset_at new name t) ≡ (is_some (rrset_at old name t) && not (is_circle_type t)))
    → ((name : DomainName) (t : RecordType) → is_some (placeholder_of list name t) ≡ (is_some (rrset_at old name t) && not (is_circle_type t)))
    → AllByRecursion fits list → AllByRecursion (CanMove old new) list
all_can fits old new list fit there listed each = can_all fits old new list list fit there listed (listed_all [] list) each

-- A set of the circle that is put among them keeps none from moving.
pub can_still : (old new after : List RRset) (whole list : List Placeholder) → ((name : DomainName) (t : RecordType) → is_circle_type t ≡ false → rrset_at after name t ≡ rrset_at new name t)
    → ((name : DomainName) (t : RecordType) → is_some (placeholder_of whole name t) ≡ (is_some (rrset_at old name t) && not (is_circle_type t)))
    → AllByRecursion (λ p. IsSome (placeholder_of whole p.key p.record_type)) list → AllByRecursion (CanMove old new) list → AllByRecursion (CanMove old after) list
can_still old new after whole [] others listed is can = tt
can_still old new after whole (p ∷ later) others listed is can =
    let both = and_parts (is_some (rrset_at old p.key p.record_type)) (not (is_circle_type p.record_type)) (sym (listed p.key p.record_type) ∙ is.0) in
    let here : CanMove old after p = record {
      set = can.0.set;
      stored = can.0.stored;
      placed = ap is_some (others p.key p.record_type (not_true (is_circle_type p.record_type) both.1)) ∙ can.0.placed;
      signed = can.0.signed;
    } in
    (here, can_still old new after whole later others listed is.1 can.1)
  where
    not_true : (b : Bool) → not b ≡ true → b ≡ false
    not_true false e = refl
    not_true true e = absurd (true≢false (sym e))
