-- A record of an update, by its class, and the drafts of its owner.
use Rattle.std.proofs.Common.{◌≡◌, ℕ, refl, ap, sym, ◌∙◌, subst}
use Rattle.std.specs.Prelude.{Bool, true, false, not, ◌&&◌, ◌||◌, ◌==◌, List, [], ◌∷◌, ◌++◌, Option, Some, None, cond, find, position, set, slice_get}
use Rattle.std.specs.List.{AllByRecursion, flat_map, list_any}
use Rattle.std.proofs.lemmas.Bool.{eq-eqb, eqb-true, true≢false}
use Rattle.zst_map.specs.dnw_codes.declared.dns_class.DNSClass.{DNSClass}
use Rattle.zst_map.specs.dnw_codes.declared.dns_class.DNSClass.TheVariants as classes
use Rattle.zst_map.specs.dnw_codes.declared.record_type.RecordType.{RecordType}
use Rattle.zst_map.specs.dnw_codes.declared.record_type.RecordType.TheVariants as kind
use Rattle.zst_map.specs.dnw_codes.RecordType.{record_type_number, same_record_type}
use Rattle.zst_map.specs.drd_rdata.Types.{type_of}
use Rattle.zst_map.specs.zst_handler.Updates.{is_kept_out, joins, may_be_beside_alias, set_of_type, upserted, with_set}
use Rattle.zst_map.specs.zst_record.RecordSets.{RRset, loses, none_left, removed}
use Rattle.zst_map.specs.zst_record.declared.records.Record.{Record}
use Rattle.zst_map.specs.ZoneMaps.{TypesRise}
use Rattle.zst_request.specs.Applied.{changes_by, is_added, is_deleted, is_taken_from, left_by, taken_from}
use Rattle.zst_request.specs.Prerequisites.{asks_any}
use Rattle.zst_draft.specs.OwnerDrafts.{Applies, DeletesAll, DraftsSets, IsOwnerDraft, Stored, TypesDiffer, drafted_in, is_draft_of, keeps_out}
use Rattle.zst_draft.specs.SetDrafts.{IsSetDraft, deletes, is_filled, loses_in, lost_in, set_in}
use Rattle.zst_draft.specs.declared.set.SetDraft.{SetDraft}
use Rattle.zst_draft.proofs.DraftedTypes.{IsByNumber, all_set, any_alike, differ_set, drafted_found, drafted_more, drafted_none, drafted_same, drafted_set, each_set, found_passes, none_found, owner_more, place_found}
use Rattle.zst_draft.proofs.OwnerSets.{if_kept, left_rise, none_later, or_none, type_kept, type_taken, type_with}

-- ---- what is drafted changes at one type
-- The drafts after have this set at one type, and at each other what those before have.
pub record Changes (stored : Stored) (old : List SetDraft) (k : RecordType) (now : Option RRset) (new : List SetDraft) : Type 0 where
  pub is : IsOwnerDraft stored new
  pub sets : (t : RecordType) → drafted_in stored new t ≡ cond (same_record_type k t) now (drafted_in stored old t)

pub changes_at : (stored : Stored) (es : List SetDraft) (i : ℕ) (e f : SetDraft) → IsByNumber stored → IsOwnerDraft stored es → slice_get es i ≡ Some e
    → same_record_type f.record_type e.record_type ≡ true → IsSetDraft (stored e.record_type) f → Changes stored es e.record_type (set_in (stored e.record_type) f) (set es i f)
changes_at stored es i e f by_number is at kind_is of = record {
  is = record {
    each = each_set (λ draft. IsSetDraft (stored draft.record_type) draft) es i f is.each
        (subst (λ (o : Option RRset). IsSetDraft o f) (sym (by_number f.record_type e.record_type kind_is)) of);
    differ = differ_set stored by_number e f kind_is es i at is.differ;
    all = all_set stored by_number e f kind_is es i at is.all;
  };
  sets = λ t. drafted_set stored by_number e f kind_is es i t at is.differ;
}

pub changes_more : (stored : Stored) (es : List SetDraft) (f : SetDraft) → IsOwnerDraft stored es → find (is_draft_of f.record_type) es ≡ None → IsSetDraft (stored f.record_type) f
    → Changes stored es f.record_type (set_in (stored f.record_type) f) (es ++ f ∷ [])
changes_more stored es f is none of = record { is = owner_more stored es f is of none; sets = λ t. drafted_more stored es f t none }

pub type_alike : (k u t : RecordType) → same_record_type k u ≡ true → same_record_type k t ≡ same_record_type u t
type_alike k u t same = ap (λ (n : ℕ). n == record_type_number t) (eqb-true (record_type_number k) (record_type_number u) same)

pub turned : (t u : RecordType) → same_record_type t u ≡ true → same_record_type u t ≡ true
turned t u same = eq-eqb (record_type_number u) (record_type_number t) (sym (eqb-true (record_type_number t) (record_type_number u) same))

pub changes_as : (stored : Stored) (old new : List SetDraft) (k u : RecordType) (now : Option RRset) → same_record_type k u ≡ true → Changes stored old k now new → Changes stored old u now new
changes_as stored old new k u now same changes = record {
  is = changes.is;
  sets = λ t. changes.sets t ∙ ap (λ (b : Bool). cond b now (drafted_in stored old t)) (type_alike k u t same);
}

-- ---- class IN
-- Whether sets of a type and of another one may not be at one owner, by the first one's number.
abbrev is_apart : RecordType → ℕ → Bool
is_apart t n =
    (n == record_type_number kind.CNAME && not (may_be_beside_alias t))
    || (same_record_type t kind.CNAME && not (n == record_type_number kind.CNAME || (n == record_type_number kind.NSEC || n == record_type_number kind.NSEC3)))

pub keeps_out_alike : (stored : Stored) (es : List SetDraft) (sets : List RRset) (t : RecordType) → IsOwnerDraft stored es → DraftsSets stored es sets → keeps_out es t ≡ is_kept_out sets t
keeps_out_alike stored es sets t is drafts = any_alike (is_apart t) stored es sets is drafts

pub kept_out : (stored : Stored) (es : List SetDraft) (r : Record) → IsOwnerDraft stored es → keeps_out es (type_of r.rdata) ≡ true → Applies stored es false r classes.IN false es
kept_out stored es r is kept = record {
  is = is;
  changes = λ sets drafts. sym (added sets drafts);
  leaves = λ sets drafts. subst (DraftsSets stored es) (sym (ap (λ (b : Bool). cond b (with_set sets (upserted (set_of_type (type_of r.rdata) sets) r)) sets) (added sets drafts))) drafts;
}
  where
    added : (sets : List RRset) → DraftsSets stored es sets → is_added sets r ≡ false
    added sets drafts = ap (λ (b : Bool). not b && joins (set_of_type (type_of r.rdata) sets) r) (sym (keeps_out_alike stored es sets (type_of r.rdata) is drafts) ∙ kept)

number_of : (t : RecordType) (sets : List RRset) (s : RRset) → set_of_type t sets ≡ Some s → same_record_type s.record_type t ≡ true
number_of t sets s e = found_passes (λ set. same_record_type set.record_type t) sets s e

type_upserted : (r : Record) (sets : List RRset) (o : Option RRset) → set_of_type (type_of r.rdata) sets ≡ o → same_record_type (upserted o r).record_type (type_of r.rdata) ≡ true
type_upserted r sets None e = eq-eqb (record_type_number (type_of r.rdata)) (record_type_number (type_of r.rdata)) refl
type_upserted r sets (Some s) e = number_of (type_of r.rdata) sets s e

-- A record that nothing keeps out, where the set of its type changes as it joins it.
pub joined_in : (stored : Stored) (old new : List SetDraft) (r : Record) (changed : Bool) (now : Option RRset) → IsOwnerDraft stored old → keeps_out old (type_of r.rdata) ≡ false
    → changed ≡ joins (drafted_in stored old (type_of r.rdata)) r
    → now ≡ cond (joins (drafted_in stored old (type_of r.rdata)) r) (Some (upserted (drafted_in stored old (type_of r.rdata)) r)) (drafted_in stored old (type_of r.rdata))
    → Changes stored old (type_of r.rdata) now new → Applies stored old false r classes.IN changed new
joined_in stored old new r changed now is kept answer set_is change = record {
  is = change.is;
  changes = λ sets drafts. answer ∙ sym (added sets drafts);
  leaves = λ sets drafts. record { rise = left_rise false sets r classes.IN drafts.rise; alike = λ t. alike sets drafts t };
}
  where
    k : RecordType
    k = type_of r.rdata

    added : (sets : List RRset) → DraftsSets stored old sets → is_added sets r ≡ joins (drafted_in stored old (type_of r.rdata)) r
    added sets drafts =
        ap (λ (b : Bool). not b && joins (set_of_type (type_of r.rdata) sets) r) (sym (keeps_out_alike stored old sets (type_of r.rdata) is drafts) ∙ kept)
        ∙ ap (λ (o : Option RRset). joins o r) (drafts.alike (type_of r.rdata))

    by : (sets : List RRset) (t : RecordType) (o : Option RRset) → DraftsSets stored old sets → set_of_type k sets ≡ o → (b c : Bool) → same_record_type k t ≡ c
        → set_of_type t (cond b (with_set sets (upserted o r)) sets) ≡ cond c (cond b (Some (upserted o r)) o) (set_of_type t sets)
    by sets t o drafts e true c same =
        type_with t (upserted o r) sets ∙ ap (λ (d : Bool). cond d (Some (upserted o r)) (set_of_type t sets)) (type_alike (upserted o r).record_type k t (type_upserted r sets o e) ∙ same)
    by sets t o drafts e false true same = drafts.alike t ∙ sym (drafted_same stored old k t same) ∙ sym (drafts.alike k) ∙ e
    by sets t o drafts e false false same = refl

    alike : (sets : List RRset) → DraftsSets stored old sets → (t : RecordType) → set_of_type t (left_by false sets r classes.IN) ≡ drafted_in stored new t
    alike sets drafts t =
        ap (λ (b : Bool). set_of_type t (cond b (with_set sets (upserted (set_of_type k sets) r)) sets)) (added sets drafts)
        ∙ by sets t (set_of_type k sets) drafts refl (joins (drafted_in stored old k) r) (same_record_type k t) refl
        ∙ ap (λ (o : Option RRset). cond (same_record_type k t) (cond (joins (drafted_in stored old k) r) (Some (upserted o r)) o) (set_of_type t sets)) (drafts.alike k)
        ∙ ap (λ (o : Option RRset). cond (same_record_type k t) o (set_of_type t sets)) (sym set_is)
        ∙ ap (cond (same_record_type k t) now) (drafts.alike t)
        ∙ sym (change.sets t)

-- ---- class NONE
or_lost : (r : Record) (o : Option RRset) → ((s : RRset) → o ≡ Some s → same_record_type s.record_type (type_of r.rdata) ≡ true) → or_none o r ≡ lost_in o r
or_lost r None of = refl
or_lost r (Some s) of =
    ap (λ (b : Bool). cond (b && loses s r) (cond (none_left (removed s r).records) None (Some (removed s r))) (Some s)) (of s refl)

or_other : (r : Record) (o : Option RRset) → ((s : RRset) → o ≡ Some s → same_record_type s.record_type (type_of r.rdata) ≡ false) → or_none o r ≡ o
or_other r None of = refl
or_other r (Some s) of =
    ap (λ (b : Bool). cond (b && loses s r) (cond (none_left (removed s r).records) None (Some (removed s r))) (Some s)) (of s refl)

none_taken : (r : Record) (sets : List RRset) → set_of_type (type_of r.rdata) sets ≡ None → list_any (is_taken_from r) sets ≡ false
none_taken r [] none = refl
none_taken r (s ∷ sets) none = by (same_record_type s.record_type (type_of r.rdata)) none (none_taken r sets)
  where
    by : (b : Bool) → cond b (Some s) (set_of_type (type_of r.rdata) sets) ≡ None → (set_of_type (type_of r.rdata) sets ≡ None → list_any (is_taken_from r) sets ≡ false)
        → ((b && loses s r) || list_any (is_taken_from r) sets) ≡ false
    by true e more = let h : ⊥ = cc in absurd h
    by false e more = more e

or_false : (b : Bool) → (b || false) ≡ b
or_false true = refl
or_false false = refl

any_taken : (r : Record) (sets : List RRset) → TypesRise sets → list_any (is_taken_from r) sets ≡ loses_in (set_of_type (type_of r.rdata) sets) r
any_taken r [] rise = refl
any_taken r (s ∷ sets) rise = by (same_record_type s.record_type (type_of r.rdata)) refl
    (λ is. none_taken r sets (none_later (type_of r.rdata) s sets rise.0 is)) (any_taken r sets rise.1)
  where
    by : (b : Bool) → same_record_type s.record_type (type_of r.rdata) ≡ b → (same_record_type s.record_type (type_of r.rdata) ≡ true → list_any (is_taken_from r) sets ≡ false)
        → list_any (is_taken_from r) sets ≡ loses_in (set_of_type (type_of r.rdata) sets) r
        → ((b && loses s r) || list_any (is_taken_from r) sets) ≡ loses_in (cond b (Some s) (set_of_type (type_of r.rdata) sets)) r
    by true is none more = ap (λ (c : Bool). loses s r || c) (none is) ∙ or_false (loses s r)
    by false is none more = more

pub taken_in : (stored : Stored) (old new : List SetDraft) (r : Record) (changed : Bool) → changed ≡ loses_in (drafted_in stored old (type_of r.rdata)) r
    → Changes stored old (type_of r.rdata) (lost_in (drafted_in stored old (type_of r.rdata)) r) new → Applies stored old false r classes.NONE changed new
taken_in stored old new r changed answer change = record {
  is = change.is;
  changes = λ sets drafts. answer ∙ ap (λ (o : Option RRset). loses_in o r) (sym (drafts.alike (type_of r.rdata))) ∙ sym (any_taken r sets drafts.rise);
  leaves = λ sets drafts. record { rise = left_rise false sets r classes.NONE drafts.rise; alike = λ t. alike sets drafts t (same_record_type (type_of r.rdata) t) refl };
}
  where
    other : (sets : List RRset) (t : RecordType) (s : RRset) → same_record_type (type_of r.rdata) t ≡ false → set_of_type t sets ≡ Some s → same_record_type s.record_type (type_of r.rdata) ≡ false
    other sets t s apart e = by (same_record_type s.record_type (type_of r.rdata)) refl
      where
        by : (b : Bool) → same_record_type s.record_type (type_of r.rdata) ≡ b → same_record_type s.record_type (type_of r.rdata) ≡ false
        by true is = absurd (true≢false (sym (sym (type_alike s.record_type (type_of r.rdata) t is) ∙ number_of t sets s e) ∙ apart))
        by false is = is

    alike : (sets : List RRset) → DraftsSets stored old sets → (t : RecordType) (b : Bool) → same_record_type (type_of r.rdata) t ≡ b → set_of_type t (flat_map (taken_from r) sets) ≡ drafted_in stored new t
    alike sets drafts t true same =
        type_taken t r sets drafts.rise
        ∙ or_lost r (set_of_type t sets) (λ s e. type_alike s.record_type t (type_of r.rdata) (number_of t sets s e) ∙ turned (type_of r.rdata) t same)
        ∙ ap (λ (o : Option RRset). lost_in o r) (drafts.alike t ∙ sym (drafted_same stored old (type_of r.rdata) t same))
        ∙ ap (λ (b : Bool). cond b (lost_in (drafted_in stored old (type_of r.rdata)) r) (drafted_in stored old t)) (sym same)
        ∙ sym (change.sets t)
    alike sets drafts t false apart =
        type_taken t r sets drafts.rise
        ∙ or_other r (set_of_type t sets) (λ s e. other sets t s apart e)
        ∙ drafts.alike t
        ∙ ap (λ (b : Bool). cond b (lost_in (drafted_in stored old (type_of r.rdata)) r) (drafted_in stored old t)) (sym apart)
        ∙ sym (change.sets t)

-- Where no set of the type is drafted, nothing is taken out.
pub none_changes : (stored : Stored) (es : List SetDraft) (k : RecordType) (now : Option RRset) → IsOwnerDraft stored es → now ≡ drafted_in stored es k → Changes stored es k now es
none_changes stored es k now is same = record { is = is; sets = λ t. by t (same_record_type k t) refl }
  where
    by : (t : RecordType) (b : Bool) → same_record_type k t ≡ b → drafted_in stored es t ≡ cond b now (drafted_in stored es t)
    by t true e = sym (drafted_same stored es k t e) ∙ sym same
    by t false e = refl

-- ---- class ANY
-- Whether sets of a type are deleted, by its number.
abbrev is_deleted_at : Bool → Record → ℕ → Bool
is_deleted_at at_apex r n =
    (asks_any r || n == record_type_number (type_of r.rdata))
    && not (at_apex && (n == record_type_number kind.SOA || n == record_type_number kind.NS))

each_deleted : (stored : Stored) (at_apex : Bool) (r : Record) (olds news : List SetDraft) → DeletesAll at_apex r olds news
    → AllByRecursion (λ draft. IsSetDraft (stored draft.record_type) draft) olds → AllByRecursion (λ draft. IsSetDraft (stored draft.record_type) draft) news
each_deleted stored at_apex r [] [] all each = tt
each_deleted stored at_apex r [] (f ∷ news) all each = absurd all
each_deleted stored at_apex r (e ∷ olds) [] all each = absurd all
each_deleted stored at_apex r (e ∷ olds) (f ∷ news) all each =
    (subst (λ (t : RecordType). IsSetDraft (stored t) f) (sym all.0.kind) (all.0.is (stored e.record_type) each.0), each_deleted stored at_apex r olds news all.1 each.1)

none_deleted : (t : RecordType) (at_apex : Bool) (r : Record) (olds news : List SetDraft) → DeletesAll at_apex r olds news
    → AllByRecursion (λ other. is_draft_of t other ≡ false) olds → AllByRecursion (λ other. is_draft_of t other ≡ false) news
none_deleted t at_apex r [] [] all each = tt
none_deleted t at_apex r [] (f ∷ news) all each = absurd all
none_deleted t at_apex r (e ∷ olds) [] all each = absurd all
none_deleted t at_apex r (e ∷ olds) (f ∷ news) all each =
    (ap (λ (u : RecordType). same_record_type u t) all.0.kind ∙ each.0, none_deleted t at_apex r olds news all.1 each.1)

differ_deleted : (at_apex : Bool) (r : Record) (olds news : List SetDraft) → DeletesAll at_apex r olds news → TypesDiffer olds → TypesDiffer news
differ_deleted at_apex r [] [] all differ = tt
differ_deleted at_apex r [] (f ∷ news) all differ = absurd all
differ_deleted at_apex r (e ∷ olds) [] all differ = absurd all
differ_deleted at_apex r (e ∷ olds) (f ∷ news) all differ = (
  subst (λ (t : RecordType). AllByRecursion (λ other. is_draft_of t other ≡ false) news) (sym all.0.kind) (none_deleted e.record_type at_apex r olds news all.1 differ.0),
  differ_deleted at_apex r olds news all.1 differ.1,
)

missing_deleted : (t : RecordType) (at_apex : Bool) (r : Record) (olds news : List SetDraft) → DeletesAll at_apex r olds news → find (is_draft_of t) news ≡ None → find (is_draft_of t) olds ≡ None
missing_deleted t at_apex r [] [] all none = refl
missing_deleted t at_apex r [] (f ∷ news) all none = absurd all
missing_deleted t at_apex r (e ∷ olds) [] all none = absurd all
missing_deleted t at_apex r (e ∷ olds) (f ∷ news) all none =
    by (is_draft_of t e) (ap (λ (u : RecordType). same_record_type u t) all.0.kind) none (missing_deleted t at_apex r olds news all.1)
  where
    by : (b : Bool) → is_draft_of t f ≡ b → cond (is_draft_of t f) (Some f) (find (is_draft_of t) news) ≡ None → (find (is_draft_of t) news ≡ None → find (is_draft_of t) olds ≡ None)
        → cond b (Some e) (find (is_draft_of t) olds) ≡ None
    by true is none more = let h : Some f ≡ None = sym (ap (λ (b : Bool). cond b (Some f) (find (is_draft_of t) news)) is) ∙ none in let g : ⊥ = cc in absurd g
    by false is none more = more (sym (ap (λ (b : Bool). cond b (Some f) (find (is_draft_of t) news)) is) ∙ none)

abbrev no_set : Option RRset
no_set = None

cond_none : (b : Bool) → no_set ≡ cond b no_set no_set
cond_none true = refl
cond_none false = refl

drafted_deleted : (stored : Stored) (at_apex : Bool) (r : Record) (olds news : List SetDraft) (t : RecordType) → DeletesAll at_apex r olds news
    → AllByRecursion (λ draft. IsSetDraft (stored draft.record_type) draft) olds → drafted_in stored news t ≡ cond (deletes at_apex r t) None (drafted_in stored olds t)
drafted_deleted stored at_apex r [] [] t all each = cond_none (deletes at_apex r t)
drafted_deleted stored at_apex r [] (f ∷ news) t all each = absurd all
drafted_deleted stored at_apex r (e ∷ olds) [] t all each = absurd all
drafted_deleted stored at_apex r (e ∷ olds) (f ∷ news) t all each =
    ap (λ (u : RecordType). cond (same_record_type u t) (set_in (stored u) f) (drafted_in stored news t)) all.0.kind
    ∙ ap (λ (o : Option RRset). cond (is_draft_of t e) o (drafted_in stored news t)) (all.0.set (stored e.record_type) each.0)
    ∙ ap (cond (is_draft_of t e) (cond (deletes at_apex r e.record_type) None (set_in (stored e.record_type) e))) (drafted_deleted stored at_apex r olds news t all.1 each.1)
    ∙ by (is_draft_of t e) refl
  where
    by : (b : Bool) → is_draft_of t e ≡ b
        → cond b (cond (deletes at_apex r e.record_type) None (set_in (stored e.record_type) e)) (cond (deletes at_apex r t) None (drafted_in stored olds t))
        ≡ cond (deletes at_apex r t) None (cond b (set_in (stored e.record_type) e) (drafted_in stored olds t))
    by true same = ap (λ (n : ℕ). cond (is_deleted_at at_apex r n) None (set_in (stored e.record_type) e)) (eqb-true (record_type_number e.record_type) (record_type_number t) same)
    by false same = refl

kept_at : (at_apex : Bool) (r : Record) (t : RecordType) (sets : List RRset) (o : Option RRset) → set_of_type t sets ≡ o
    → if_kept (λ set. not (is_deleted at_apex r set)) o ≡ cond (deletes at_apex r t) None o
kept_at at_apex r t sets None e = cond_none (deletes at_apex r t)
kept_at at_apex r t sets (Some s) e =
    ap (λ (n : ℕ). cond (not (is_deleted_at at_apex r n)) (Some s) None) (eqb-true (record_type_number s.record_type) (record_type_number t) (number_of t sets s e))
    ∙ by (deletes at_apex r t)
  where
    by : (b : Bool) → cond (not b) (Some s) None ≡ cond b None (Some s)
    by true = refl
    by false = refl

pub deleted_in : (stored : Stored) (at_apex : Bool) (r : Record) (olds news : List SetDraft) (changed : Bool) → IsOwnerDraft stored olds
    → changed ≡ list_any (λ draft. is_filled draft && deletes at_apex r draft.record_type) olds → DeletesAll at_apex r olds news → Applies stored olds at_apex r classes.ANY changed news
deleted_in stored at_apex r olds news changed is answer all = record {
  is = record {
    each = each_deleted stored at_apex r olds news all is.each;
    differ = differ_deleted at_apex r olds news all is.differ;
    all = λ t none. is.all t (missing_deleted t at_apex r olds news all none);
  };
  changes = λ sets drafts. answer ∙ any_alike (is_deleted_at at_apex r) stored olds sets is drafts;
  leaves = λ sets drafts. record {
    rise = left_rise at_apex sets r classes.ANY drafts.rise;
    alike = λ t. type_kept t (λ set. not (is_deleted at_apex r set)) sets drafts.rise
        ∙ kept_at at_apex r t sets (set_of_type t sets) refl
        ∙ ap (cond (deletes at_apex r t) None) (drafts.alike t)
        ∙ sym (drafted_deleted stored at_apex r olds news t all is.each);
  };
}

-- ---- as the code goes
-- The draft at a place is that of the type.
record FoundDraft (stored : Stored) (es : List SetDraft) (k : RecordType) (e : SetDraft) : Type 0 where
  kind_is : same_record_type e.record_type k ≡ true
  drafted : drafted_in stored es k ≡ set_in (stored e.record_type) e

found_draft : (stored : Stored) (es : List SetDraft) (k : RecordType) (i : ℕ) (e : SetDraft) → Some i ≡ position (is_draft_of k) es → slice_get es i ≡ Some e → FoundDraft stored es k e
found_draft stored es k i e place at =
    let found : find (is_draft_of k) es ≡ Some e = (place_found (is_draft_of k) es i place).0 ∙ at in
    record { kind_is = found_passes (is_draft_of k) es e found; drafted = drafted_found stored es k e found }

pub add_applies : (stored : Stored) (es : List SetDraft) (i : ℕ) (e f : SetDraft) (r : Record) (changed : Bool) → IsByNumber stored → IsOwnerDraft stored es → keeps_out es (type_of r.rdata) ≡ false
    → Some i ≡ position (is_draft_of (type_of r.rdata)) es → slice_get es i ≡ Some e → IsSetDraft (stored e.record_type) f → same_record_type f.record_type e.record_type ≡ true
    → changed ≡ joins (set_in (stored e.record_type) e) r
    → set_in (stored e.record_type) f ≡ cond (joins (set_in (stored e.record_type) e) r) (Some (upserted (set_in (stored e.record_type) e) r)) (set_in (stored e.record_type) e)
    → Applies stored es false r classes.IN changed (set es i f)
add_applies stored es i e f r changed numbered is kept place at of kind_is answer set_is =
    let found = found_draft stored es (type_of r.rdata) i e place at in
    joined_in stored es (set es i f) r changed (set_in (stored e.record_type) f) is kept
    (answer ∙ ap (λ (o : Option RRset). joins o r) (sym found.drafted))
    (set_is ∙ ap (λ (o : Option RRset). cond (joins o r) (Some (upserted o r)) o) (sym found.drafted))
    (changes_as stored es (set es i f) e.record_type (type_of r.rdata) (set_in (stored e.record_type) f) found.kind_is (changes_at stored es i e f numbered is at kind_is of))

pub begin_applies : (stored : Stored) (es : List SetDraft) (f : SetDraft) (r : Record) → IsOwnerDraft stored es → keeps_out es (type_of r.rdata) ≡ false
    → None ≡ position (is_draft_of (type_of r.rdata)) es → f.record_type ≡ type_of r.rdata → IsSetDraft (stored f.record_type) f → set_in (stored f.record_type) f ≡ Some (upserted None r)
    → Applies stored es false r classes.IN true (es ++ f ∷ [])
begin_applies stored es f r is kept place kind_is of set_is =
    let none : find (is_draft_of (type_of r.rdata)) es ≡ None = none_found (is_draft_of (type_of r.rdata)) es place in
    let drafted : drafted_in stored es (type_of r.rdata) ≡ None = drafted_none stored es (type_of r.rdata) none in
    joined_in stored es (es ++ f ∷ []) r true (set_in (stored f.record_type) f) is kept
    (ap (λ (o : Option RRset). joins o r) (sym drafted))
    (set_is ∙ ap (λ (o : Option RRset). cond (joins o r) (Some (upserted o r)) o) (sym drafted))
    (subst (λ (t : RecordType). Changes stored es t (set_in (stored f.record_type) f) (es ++ f ∷ [])) kind_is
    (changes_more stored es f is (subst (λ (t : RecordType). find (is_draft_of t) es ≡ None) (sym kind_is) none) of))

pub take_applies : (stored : Stored) (es : List SetDraft) (i : ℕ) (e f : SetDraft) (r : Record) (changed : Bool) → IsByNumber stored → IsOwnerDraft stored es
    → Some i ≡ position (is_draft_of (type_of r.rdata)) es → slice_get es i ≡ Some e → IsSetDraft (stored e.record_type) f → f.record_type ≡ e.record_type
    → changed ≡ loses_in (set_in (stored e.record_type) e) r → set_in (stored e.record_type) f ≡ lost_in (set_in (stored e.record_type) e) r
    → Applies stored es false r classes.NONE changed (set es i f)
take_applies stored es i e f r changed numbered is place at of kind_is answer set_is =
    let found = found_draft stored es (type_of r.rdata) i e place at in
    let same : same_record_type f.record_type e.record_type ≡ true = eq-eqb (record_type_number f.record_type) (record_type_number e.record_type) (ap record_type_number kind_is) in
    taken_in stored es (set es i f) r changed
    (answer ∙ ap (λ (o : Option RRset). loses_in o r) (sym found.drafted))
    (subst (λ (o : Option RRset). Changes stored es (type_of r.rdata) o (set es i f)) (set_is ∙ ap (λ (o : Option RRset). lost_in o r) (sym found.drafted))
    (changes_as stored es (set es i f) e.record_type (type_of r.rdata) (set_in (stored e.record_type) f) found.kind_is (changes_at stored es i e f numbered is at same of)))

pub none_applies : (stored : Stored) (es : List SetDraft) (r : Record) → IsOwnerDraft stored es → None ≡ position (is_draft_of (type_of r.rdata)) es → Applies stored es false r classes.NONE false es
none_applies stored es r is place =
    let drafted : drafted_in stored es (type_of r.rdata) ≡ None = drafted_none stored es (type_of r.rdata) (none_found (is_draft_of (type_of r.rdata)) es place) in
    taken_in stored es es r false (ap (λ (o : Option RRset). loses_in o r) (sym drafted))
    (none_changes stored es (type_of r.rdata) (lost_in (drafted_in stored es (type_of r.rdata)) r) is (ap (λ (o : Option RRset). lost_in o r) drafted ∙ sym drafted))

-- The start matters to class ANY alone.
pub in_applies : (stored : Stored) (old new : List SetDraft) (at_apex : Bool) (r : Record) (class : DNSClass) (changed : Bool) → class ≡ classes.IN → Applies stored old false r classes.IN changed new
    → Applies stored old at_apex r class changed new
in_applies stored old new at_apex r class changed same applies =
    subst (λ (c : DNSClass). Applies stored old at_apex r c changed new) (sym same) (record { is = applies.is; changes = applies.changes; leaves = applies.leaves })

pub none_class_applies : (stored : Stored) (old new : List SetDraft) (at_apex : Bool) (r : Record) (class : DNSClass) (changed : Bool) → class ≡ classes.NONE → Applies stored old false r classes.NONE changed new
    → Applies stored old at_apex r class changed new
none_class_applies stored old new at_apex r class changed same applies =
    subst (λ (c : DNSClass). Applies stored old at_apex r c changed new) (sym same) (record { is = applies.is; changes = applies.changes; leaves = applies.leaves })

-- Records of other classes change nothing.
record IsOther (class : DNSClass) : Type 0 where
  changes : (at_apex : Bool) (sets : List RRset) (r : Record) → changes_by at_apex sets r class ≡ false
  leaves : (at_apex : Bool) (sets : List RRset) (r : Record) → left_by at_apex sets r class ≡ sets

is_other : (class : DNSClass) → (class ≡ classes.IN → ⊥) → (class ≡ classes.ANY → ⊥) → (class ≡ classes.NONE → ⊥) → IsOther class
is_other classes.IN a b c = absurd (a refl)
is_other classes.ANY a b c = absurd (b refl)
is_other classes.NONE a b c = absurd (c refl)
is_other other a b c = record { changes = λ at_apex sets r. refl; leaves = λ at_apex sets r. refl }

pub other_applies : (stored : Stored) (es : List SetDraft) (at_apex : Bool) (r : Record) (class : DNSClass) → IsOwnerDraft stored es
    → (class ≡ classes.IN → ⊥) → (class ≡ classes.ANY → ⊥) → (class ≡ classes.NONE → ⊥) → Applies stored es at_apex r class false es
other_applies stored es at_apex r class is a b c =
    let other = is_other class a b c in
    record {
      is = is;
      changes = λ sets drafts. sym (other.changes at_apex sets r);
      leaves = λ sets drafts. subst (DraftsSets stored es) (sym (other.leaves at_apex sets r)) drafts;
    }
