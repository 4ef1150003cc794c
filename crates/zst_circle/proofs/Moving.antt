-- Sets that move, one placeholder's after the other's: what two zones have under each owner and type.
use Rattle.std.proofs.Common.{◌≡◌, refl, ap, sym, subst, ◌∙◌}
use Rattle.std.specs.Prelude.{Bool, true, false, ◌&&◌, List, [], ◌∷◌, Option, Some, None, cond, find, is_some, IsSome, option_map}
use Rattle.std.specs.List.{AllByRecursion}
use Rattle.std.proofs.lemmas.Bool.{and_parts, true≢false}
use Rattle.zst_absence.specs.dnw_codes.declared.record_type.RecordType.{RecordType}
use Rattle.zst_absence.specs.dnw_codes.RecordType.{same_record_type}
use Rattle.zst_absence.specs.dnw_name.DomainName.{DomainName, name_eq}
use Rattle.zst_absence.specs.zst_record.RecordSets.{RRset, is_signature_of, raised_set}
use Rattle.zst_absence.specs.zst_handler.Updates.{Replaces}
use Rattle.zst_absence.specs.zst_handler.Zones.{rrset_at}
use Rattle.zst_absence.proofs.zst_map_lemmas.Replacing.{both_same, one}
use Rattle.zst_circle.specs.Moves.{CanMove, is_placeholder_of, moved, placeholder_of, resigned}
use Rattle.zst_circle.specs.declared.moves.Placeholder.{Placeholder}

none_some : {X : Type 0} (o : Option X) (x : X) → o ≡ Some x → o ≡ None → ⊥
none_some o x some none = let h = sym some ∙ none in cc

-- A set that moves keeps its owner and its type.
pub resigned_name : (p : Placeholder) (s : RRset) → (resigned p s).name ≡ s.name
resigned_name p s = by p.rises
  where
    by : (b : Bool) → (cond b (raised_set s) s).name ≡ s.name
    by true = refl
    by false = refl

pub resigned_type : (p : Placeholder) (s : RRset) → (resigned p s).record_type ≡ s.record_type
resigned_type p s = by p.rises
  where
    by : (b : Bool) → (cond b (raised_set s) s).record_type ≡ s.record_type
    by true = refl
    by false = refl

-- ---- one owner and type
-- By its placeholder among all, and among those to come: what the zones had, and what they have.
pub data Moves (all left : Option Placeholder) (old0 new0 old new : Option RRset) : Type 0 where
  waits : old ≡ old0 → new ≡ new0 → left ≡ all → Moves all left old0 new0 old new
  went : (p : Placeholder) → all ≡ Some p → old ≡ None → new ≡ option_map (resigned p) old0 → Moves all left old0 new0 old new

pub starts : (all : Option Placeholder) (old new : Option RRset) → Moves all all old new old new
starts all old new = waits refl refl refl

pub ends : (all : Option Placeholder) (old0 new0 old new : Option RRset) → Moves all None old0 new0 old new → (new ≡ moved all old0 new0) × (old ≡ cond (is_some all) None old0)
ends all old0 new0 old new (waits o n w) = (
  n ∙ ap (λ (a : Option Placeholder). moved a old0 new0) w,
  o ∙ ap (λ (a : Option Placeholder). cond (is_some a) None old0) w,
)
ends all old0 new0 old new (went p w o n) = (
  n ∙ ap (λ (a : Option Placeholder). moved a old0 new0) (sym w),
  o ∙ ap (λ (a : Option Placeholder). cond (is_some a) None old0) (sym w),
)

-- A placeholder's set moves.
moves_on : (all : Option Placeholder) (hit : Bool) (p : Placeholder) (later : Option Placeholder) (old0 new0 old new old' new' : Option RRset) (set : RRset) → (hit ≡ true → old ≡ Some set)
    → old' ≡ cond hit None old → new' ≡ cond hit (Some (resigned p set)) new → Moves all (cond hit (Some p) later) old0 new0 old new → Moves all later old0 new0 old' new'
moves_on all true p later old0 new0 old new old' new' set at o n (waits q r w) = went p (sym w) o (n ∙ ap (option_map (resigned p)) (sym (at refl) ∙ q))
moves_on all true p later old0 new0 old new old' new' set at o n (went x w q r) = absurd (none_some old set (at refl) q)
moves_on all false p later old0 new0 old new old' new' set at o n (waits q r w) = waits (o ∙ q) (n ∙ r) w
moves_on all false p later old0 new0 old new old' new' set at o n (went x w q r) = went x w (o ∙ q) (n ∙ r)

-- It has moved before.
stays_on : (all : Option Placeholder) (hit : Bool) (p : Placeholder) (later : Option Placeholder) (old0 new0 old new old' : Option RRset) → (hit ≡ true → old ≡ None)
    → ((q : Placeholder) → all ≡ Some q → IsSome old0) → old' ≡ cond hit None old → Moves all (cond hit (Some p) later) old0 new0 old new → Moves all later old0 new0 old' new
stays_on all true p later old0 new0 old new old' at there o (waits q r w) = absurd (true≢false (sym (there p (sym w)) ∙ ap is_some (sym q ∙ at refl)))
stays_on all true p later old0 new0 old new old' at there o (went x w q r) = went x w o r
stays_on all false p later old0 new0 old new old' at there o (waits q r w) = waits (o ∙ q) r w
stays_on all false p later old0 new0 old new old' at there o (went x w q r) = went x w (o ∙ q) r

-- ---- a turn of the loop
-- What is found is one of all, and passes the test.
pub find_all : {X : Type 0} (P : X → Type 0) (test : X → Bool) (xs : List X) (x : X) → AllByRecursion P xs → find test xs ≡ Some x → P x × (test x ≡ true)
find_all P test [] x all e = absurd (none_some None x e refl)
find_all P test (y ∷ ys) x all e = by (test y) refl e (find_all P test ys x all.1)
  where
    by : (b : Bool) → test y ≡ b → cond b (Some y) (find test ys) ≡ Some x → (find test ys ≡ Some x → P x × (test x ≡ true)) → P x × (test x ≡ true)
    by true is found later = subst (λ z. P z × (test z ≡ true)) (one y x found) (all.0, is)
    by false is found later = later found

-- There is a set for each placeholder that is found.
pub stored_for : (old new : List RRset) (all : List Placeholder) (name : DomainName) (t : RecordType) (q : Placeholder) → AllByRecursion (CanMove old new) all → placeholder_of all name t ≡ Some q
    → IsSome (rrset_at old name t)
stored_for old new all name t q can found =
    let it = find_all (CanMove old new) (is_placeholder_of name t) all q can found in
    let parts = and_parts (name_eq name q.key) (same_record_type q.record_type t) it.1 in
    ap is_some (sym (both_same old name q.key q.record_type t parts.0 parts.1) ∙ it.0.stored)

pub one_turn : (all : Option Placeholder) (p : Placeholder) (later : List Placeholder) (old0 new0 : Option RRset) (old new old' new' : List RRset) (name : DomainName) (t : RecordType)
    → ((q : Placeholder) → all ≡ Some q → IsSome old0)
    → Replaces old p.key p.record_type None old' → ((set : RRset) → rrset_at old p.key p.record_type ≡ Some set → Replaces new p.key p.record_type (Some (resigned p set)) new')
    → (rrset_at old p.key p.record_type ≡ None → new' ≡ new)
    → Moves all (placeholder_of (p ∷ later) name t) old0 new0 (rrset_at old name t) (rrset_at new name t)
    → Moves all (placeholder_of later name t) old0 new0 (rrset_at old' name t) (rrset_at new' name t)
one_turn all p later old0 new0 old new old' new' name t there taken moves unmoved is = by (rrset_at old p.key p.record_type) refl
  where
    same : is_placeholder_of name t p ≡ true → rrset_at old name t ≡ rrset_at old p.key p.record_type
    same h = let parts = and_parts (name_eq name p.key) (same_record_type p.record_type t) h in sym (both_same old name p.key p.record_type t parts.0 parts.1)

    by : (o : Option RRset) → rrset_at old p.key p.record_type ≡ o → Moves all (placeholder_of later name t) old0 new0 (rrset_at old' name t) (rrset_at new' name t)
    by (Some set) e =
        moves_on all (is_placeholder_of name t p) p (placeholder_of later name t) old0 new0 (rrset_at old name t) (rrset_at new name t) (rrset_at old' name t) (rrset_at new' name t) set
        (λ h. same h ∙ e) (taken name t) (moves set e name t) is
    by None e =
        subst (λ (zone : List RRset). Moves all (placeholder_of later name t) old0 new0 (rrset_at old' name t) (rrset_at zone name t)) (sym (unmoved e))
        (stays_on all (is_placeholder_of name t p) p (placeholder_of later name t) old0 new0 (rrset_at old name t) (rrset_at new name t) (rrset_at old' name t)
        (λ h. same h ∙ e) there (taken name t) is)

-- A set that is there still is the one that was there, and its placeholder's signatures may be its own.
pub still_signed : (all left : Option Placeholder) (old0 new0 old new : Option RRset) (p : Placeholder) (set : RRset) (can : RRset) → old0 ≡ Some can → AllByRecursion (λ r. is_signature_of can r ≡ true) p.signatures.items
    → Moves all left old0 new0 old new → old ≡ Some set → AllByRecursion (λ r. is_signature_of set r ≡ true) p.signatures.items
still_signed all left old0 new0 old new p set can stored signed (waits o n w) e =
    subst (λ (s : RRset). AllByRecursion (λ r. is_signature_of s r ≡ true) p.signatures.items) (one can set (sym stored ∙ sym o ∙ e)) signed
still_signed all left old0 new0 old new p set can stored signed (went x w o n) e = absurd (none_some old set e o)

-- Its placeholder is there, too.
pub still_placed : (all left : Option Placeholder) (old0 new0 old new : Option RRset) (set : RRset) → IsSome new0 → Moves all left old0 new0 old new → old ≡ Some set → IsSome new
still_placed all left old0 new0 old new set placed (waits o n w) e = ap is_some n ∙ placed
still_placed all left old0 new0 old new set placed (went x w o n) e = absurd (none_some old set e o)

-- ---- before the sets move
-- A set that is put into the other zone keeps no set from moving.
pub can_after : (old new after : List RRset) (owner : DomainName) (kind : RecordType) (set : RRset) (p : Placeholder) → Replaces new owner kind (Some set) after → CanMove old new p → CanMove old after p
can_after old new after owner kind set p replaces can = record {
  set = can.set;
  stored = can.stored;
  placed = ap is_some (replaces p.key p.record_type) ∙ by (name_eq p.key owner && same_record_type kind p.record_type);
  signed = can.signed;
}
  where
    by : (b : Bool) → IsSome (cond b (Some set) (rrset_at new p.key p.record_type))
    by true = refl
    by false = can.placed

pub all_can_after : (old new after : List RRset) (owner : DomainName) (kind : RecordType) (set : RRset) (list : List Placeholder) → Replaces new owner kind (Some set) after → AllByRecursion (CanMove old new) list
    → AllByRecursion (CanMove old after) list
all_can_after old new after owner kind set [] replaces all = tt
all_can_after old new after owner kind set (p ∷ list) replaces all = (can_after old new after owner kind set p replaces all.0, all_can_after old new after owner kind set list replaces all.1)
