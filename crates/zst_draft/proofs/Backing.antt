-- What was put where nothing was is taken out again.
use Rattle.std.proofs.Common.{◌≡◌, ◌∙◌, length, refl, sym, ap, subst}
use Rattle.std.specs.Prelude.{Bool, true, false, ◌&&◌, cond, List, [], ◌∷◌, Option, Some, None, Result, Ok, Err, OnOk, is_err}
use Rattle.std.proofs.lemmas.Bool.{and_parts, true≢false}
use Rattle.zst_map.specs.dnw_codes.declared.record_type.RecordType.{RecordType}
use Rattle.zst_map.specs.dnw_codes.RecordType.{same_record_type}
use Rattle.zst_map.specs.dnw_name.DomainName.{DomainName, lowercase_name, name_eq}
use Rattle.zst_map.specs.zst_handler.Updates.{ZoneReplaces}
use Rattle.zst_map.specs.zst_handler.Zones.{Zone, rrset_at}
use Rattle.zst_map.specs.zst_record.RecordLaws.{name_eq_equiv}
use Rattle.zst_map.specs.zst_record.RecordSets.{RRset}
use Rattle.zst_map.proofs.Indexed.{rrset_same}
use Rattle.zst_map.proofs.ZoneOnce.{sets_once}
use Rattle.zst_draft.specs.Settling.{LeadsBack, Returns}
use Rattle.zst_draft.proofs.AppliedDrafts.{type_alike}
use Rattle.zst_draft.proofs.Names.{eq_lower}
use Rattle.zst_draft.proofs.DraftedZones.{by_number}

none_there : (now : List RRset) (owner n : DomainName) (t u : RecordType) → rrset_at now owner t ≡ None → (name_eq n owner && same_record_type t u) ≡ true → rrset_at now n u ≡ None
none_there now owner n t u none e =
    let p = and_parts (name_eq n owner) (same_record_type t u) e in
    sym (rrset_same now n owner u p.0) ∙ sym (by_number now owner t u p.1) ∙ none

out_again : (b : Bool) (o p set : Option RRset) (at : Option RRset) → o ≡ cond b None p → p ≡ cond b set at → (b ≡ true → at ≡ None) → o ≡ at
out_again true o p set at out put none = out ∙ sym (none refl)
out_again false o p set at out put none = out ∙ put

lower_eq : (t : RecordType) (n owner : DomainName) → name_eq n (lowercase_name owner) ≡ name_eq n owner
lower_eq t n owner = name_eq_equiv.symm n (lowercase_name owner) ∙ eq_lower t owner n ∙ name_eq_equiv.symm owner n

pub way_back : (start now new : Zone) (done : List (DomainName × RecordType)) (set : RRset) (key : DomainName) (t : RecordType) → key ≡ lowercase_name set.name → t ≡ set.record_type
    → rrset_at now.sets set.name set.record_type ≡ None → ZoneReplaces now set.name set.record_type (Some set) new → Returns start done now → Returns start ((key, t) ∷ done) new
way_back start now new done set key t named kind none put returns = record {
  ordered = put.ordered;
  back = λ next taken. subst (λ (z : Zone). LeadsBack done z start) (sym (same next taken)) returns.back;
}
  where
    same_sets : (next : Zone) → ZoneReplaces new key t None next → next.sets ≡ now.sets
    same_sets next taken = sets_once next.sets now.sets taken.ordered returns.ordered (λ n u.
        out_again (name_eq n set.name && same_record_type set.record_type u) (rrset_at next.sets n u) (rrset_at new.sets n u) (Some set) (rrset_at now.sets n u)
        (taken.replaces n u ∙ ap (λ (b : Bool). cond (b && same_record_type t u) None (rrset_at new.sets n u)) (ap (name_eq n) named ∙ lower_eq set.record_type n set.name)
        ∙ ap (λ (k : RecordType). cond (name_eq n set.name && same_record_type k u) None (rrset_at new.sets n u)) kind)
        (put.replaces n u)
        (none_there now.sets set.name n set.record_type u none))

    same : (next : Zone) → ZoneReplaces new key t None next → next ≡ now
    same next taken =
        taken.rest ∙ ap (λ (z : Zone). record z { sets = next.sets }) put.rest ∙ ap (λ (l : List RRset). record now { sets = l }) (same_sets next taken)

-- A set that was put under its own owner and type was put under a name and a type that are equal to these.
pub replaces_as : (old new : Zone) (key name : DomainName) (t u : RecordType) (o : Option RRset) → name_eq key name ≡ true → same_record_type t u ≡ true → ZoneReplaces old name t o new → ZoneReplaces old key u o new
replaces_as old new key name t u o owner kind replaces = record {
  replaces = λ n v. replaces.replaces n v
      ∙ ap (λ (b : Bool). cond (b && same_record_type t v) o (rrset_at old.sets n v)) (names n)
      ∙ ap (λ (b : Bool). cond (name_eq n key && b) o (rrset_at old.sets n v)) (types v);
  ordered = replaces.ordered;
  rest = replaces.rest;
}
  where
    names : (n : DomainName) → name_eq n name ≡ name_eq n key
    names n = name_eq_equiv.symm n name ∙ sym (name_eq_equiv.congr key name n owner) ∙ name_eq_equiv.symm key n

    types : (v : RecordType) → same_record_type t v ≡ same_record_type u v
    types v = type_alike t u v kind

-- ---- answers
pub from_ok : {T E P : Type 0} (r : Result T E) (failed : Bool) → failed ≡ false → failed ≡ is_err r → OnOk r P → P
from_ok (Ok x) failed fine is p = p
from_ok (Err e) failed fine is p = absurd (true≢false (sym is ∙ fine))

pub empty : {X : Type 0} (xs : List X) → length xs ≡ 0 → xs ≡ []
empty [] e = refl
empty (x ∷ xs) e = cc
