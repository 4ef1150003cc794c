-- Each set of a zone has records, all of its owner, class and type, and so it is with one that is added, put or taken out.
use Rattle.std.proofs.Common.{◌≡◌, ◌⊎◌, ◌<◌, inl, inr, refl, sym, ◌∙◌, ap, subst, arith, length}
use Rattle.std.specs.Prelude.{Bool, true, false, not, ◌&&◌, List, [], ◌∷◌, Option, Some, None, Result, Ok, Err, OnOk, OnErr, cond}
use Rattle.std.proofs.lemmas.Bool.{and_parts, true≢false, eqb-true, eq-eqb}
use Rattle.zst_circle.specs.dnw_codes.declared.record_type.RecordType.{RecordType}
use Rattle.zst_circle.specs.dnw_codes.declared.dns_class.DNSClass.{DNSClass}
use Rattle.zst_circle.specs.dnw_codes.declared.dns_class.DNSClass.TheVariants.{IN}
use Rattle.zst_circle.specs.dnw_codes.DNSClass.{same_class}
use Rattle.zst_circle.specs.dnw_codes.RecordType.{record_type_number, same_record_type}
use Rattle.zst_circle.specs.dnw_name.DomainName.{DomainName, lowercase_name, name_eq}
use Rattle.zst_circle.specs.drd_rdata.Order.{rdata_eq}
use Rattle.zst_circle.specs.drd_rdata.Types.{type_of}
use Rattle.zst_circle.specs.zst_record.RecordSets.{IsHeld, IsRRset, RRset, first_class, first_name, held_set, is_single, none_left, put_record, set_of, set_with, with_one}
use Rattle.zst_circle.specs.zst_record.declared.records.Record.{Record}
use Rattle.zst_circle.specs.zst_handler.Updates.{Replaces, Upserts, joins, upsert_changes, upserted}
use Rattle.zst_circle.specs.zst_handler.Zones.{Adds, AreInOrder, AreStored, IsStored, Zone, rrset_at}
use Rattle.zst_circle.proofs.zst_map_lemmas.PutRecords.{held_after, held_one, put_is, same_type}
use Rattle.zst_circle.specs.zst_record.RecordLaws.{name_eq_equiv}
use Rattle.zst_key.proofs.KeyLemmas.{eq-lower}
use Rattle.zst_zone.specs.Answering.{IsKept}
use Rattle.zst_zone.proofs.ReadBack.{each_found, found_is, found_of}

-- ---- one set
-- A set is as the code keeps it.
record IsKeptAs (set : RRset) : Type 0 where
  held : IsHeld set.record_type false set.records set.signatures
  is : held_set set.record_type false set.records set.signatures ≡ set

rebuilt : (set : RRset) (r : Record) (rs : List Record) → set.records ≡ r ∷ rs → set.name ≡ r.name → set.dns_class ≡ r.dns_class
    → set ≡ held_set set.record_type false (r ∷ rs) set.signatures
rebuilt set r rs e name class =
    ap (λ (n : DomainName). record set { name = n }) name
    ∙ ap (λ (c : DNSClass). record set { name = r.name; dns_class = c }) class
    ∙ ap (λ (xs : List Record). record set { name = r.name; dns_class = r.dns_class; records = xs }) e

kept_as : (set : RRset) → IsStored set → IsKeptAs set
kept_as set stored = by set.records refl
  where
    by : (rs : List Record) → set.records ≡ rs → IsKeptAs set
    by [] e = absurd (true≢false (ap none_left (sym e) ∙ stored.filled))
    by (r ∷ rs) e =
        let spelled = stored.is.spelled r rs e in
        let same : held_set set.record_type false set.records set.signatures ≡ set
        = ap (λ (xs : List Record). held_set set.record_type false xs set.signatures) e
        ∙ sym (rebuilt set r rs e spelled.0 spelled.1) in
        record {
          held = record { filled = subst (λ (xs : List Record). 0 < length xs) (sym e) (omega arith); is = subst IsRRset (sym same) stored.is };
          is = same;
        }

none_put : (rs : List Record) (r : Record) → none_left (put_record rs r) ≡ false
none_put [] r = refl
none_put (s ∷ ss) r = by (rdata_eq s.rdata r.rdata)
  where
    by : (b : Bool) → none_left (cond b (r ∷ ss) (s ∷ put_record ss r)) ≡ false
    by true = refl
    by false = refl

set_stored : (r : Record) → IsStored (set_of r)
set_stored r = record { filled = refl; is = (held_one r (type_of r.rdata) (r ∷ []) [] refl refl (same_type r) false).is }

one_stored : (alone : Bool) (set : RRset) (r : Record) → IsStored set → name_eq r.name set.name ≡ true → same_record_type (type_of r.rdata) set.record_type ≡ true
    → (alone ≡ true) ⊎ (same_class r.dns_class set.dns_class ≡ true) → IsStored (with_one alone set r)
one_stored true set r stored owner kind class =
    record { filled = refl; is = (held_one r set.record_type (r ∷ []) [] refl refl kind false).is }
one_stored false set r stored owner kind class =
    let kept = kept_as set stored in
    let named : name_eq r.name (first_name set.records) ≡ true = subst (λ (n : DomainName). name_eq r.name n ≡ true) (sym (ap (λ (s : RRset). s.name) kept.is)) owner in
    let classed : (false ≡ true) ⊎ (same_class r.dns_class (first_class set.records) ≡ true) =
    subst (λ (c : DNSClass). (false ≡ true) ⊎ (same_class r.dns_class c ≡ true)) (sym (ap (λ (s : RRset). s.dns_class) kept.is)) class in
    let is : held_set set.record_type false (put_record set.records r) [] ≡ with_one false set r
    = put_is set.record_type false false set.records set.signatures r refl ∙ ap (λ (s : RRset). with_one false s r) kept.is in
    record {
      filled = none_put set.records r;
      is = subst IsRRset is (held_after set.record_type false false set.records set.signatures r refl kept.held named classed kind).is;
    }

-- What is there, if anything, is a set of the record's owner and type.
pub record IsThere (r : Record) (set : RRset) : Type 0 where
  pub stored : IsStored set
  pub owner : name_eq r.name set.name ≡ true
  pub kind : same_record_type (type_of r.rdata) set.record_type ≡ true

abbrev pub AreThere : Record → Option RRset → Type 0
AreThere r o = (set : RRset) → o ≡ Some set → IsThere r set

either_class : (b : Bool) → (not b ≡ true) ⊎ (b ≡ true)
either_class true = inr refl
either_class false = inl refl

with_stored : (o : Option RRset) (r : Record) → AreThere r o → IsStored (set_with o r)
with_stored None r there = set_stored r
with_stored (Some set) r there =
    let at = there set refl in
    one_stored (not (same_class r.dns_class set.dns_class)) set r at.stored at.owner at.kind (either_class (same_class r.dns_class set.dns_class))

pub upserted_stored : (o : Option RRset) (r : Record) → joins o r ≡ true → AreThere r o → IsStored (upserted o r)
upserted_stored None r joins there = set_stored r
upserted_stored (Some set) r joins there =
    let at = there set refl in
    one_stored (is_single set.record_type) set r at.stored at.owner at.kind (inr (and_parts (same_class r.dns_class set.dns_class) _ joins).0)

-- ---- the sets of a zone
pub found_there : (sets : List RRset) (r : Record) (name : DomainName) (t : RecordType) → AreStored sets → name_eq name r.name ≡ true → same_record_type (type_of r.rdata) t ≡ true
    → AreThere r (rrset_at sets name t)
found_there sets r name t stored named kind set e =
    let at = and_parts (name_eq name set.name) (same_record_type set.record_type t) (found_is name t sets set e) in
    record {
      stored = found_of IsStored name t sets set stored e;
      owner = sym (name_eq_equiv.congr name r.name set.name named) ∙ at.0;
      kind = eq-eqb (record_type_number (type_of r.rdata)) (record_type_number set.record_type)
          (eqb-true (record_type_number (type_of r.rdata)) (record_type_number t) kind ∙ sym (eqb-true (record_type_number set.record_type) (record_type_number t) at.1));
    }

-- One of the sets after is another one, the rest were stored before.
among : (b : Bool) (x o : Option RRset) (s : RRset) → cond b x o ≡ Some s → (b ≡ true → (u : RRset) → x ≡ Some u → IsStored u) → ((u : RRset) → o ≡ Some u → IsStored u) → IsStored s
among true x o s e put kept = put refl s e
among false x o s e put kept = kept s e

pub adds_stored : (old new : List RRset) (r : Record) → Adds old r new → AreInOrder new → AreStored old → AreStored new
adds_stored old new r adds ordered stored =
    each_found IsStored new ordered
    (λ name t s e. among (name_eq name r.name && same_record_type (type_of r.rdata) t) (Some (set_with (rrset_at old name t) r)) (rrset_at old name t) s (sym (adds name t) ∙ e)
    (λ here u is. let p = and_parts (name_eq name r.name) (same_record_type (type_of r.rdata) t) here in
    let g : set_with (rrset_at old name t) r ≡ u = cc in subst IsStored g (with_stored (rrset_at old name t) r (found_there old r name t stored p.0 p.1)))
    (λ u there. found_of IsStored name t old u stored there))

pub replaces_stored : (old new : List RRset) (owner : DomainName) (kind : RecordType) (set : Option RRset) → Replaces old owner kind set new → AreInOrder new → AreStored old
    → ((u : RRset) → set ≡ Some u → IsStored u) → AreStored new
replaces_stored old new owner kind set replaces ordered stored put =
    each_found IsStored new ordered
    (λ name t s e. among (name_eq name owner && same_record_type kind t) set (rrset_at old name t) s (sym (replaces name t) ∙ e)
    (λ here. put)
    (λ u there. found_of IsStored name t old u stored there))

pub upsert_joins : (sets : List RRset) (r : Record) → upsert_changes sets r ≡ true → joins (rrset_at sets r.name (type_of r.rdata)) r ≡ true
upsert_joins sets r changes = (and_parts _ (joins (rrset_at sets r.name (type_of r.rdata)) r) (and_parts (same_class r.dns_class IN) _ changes).1).1

pub upserts_stored : (old new : List RRset) (r : Record) → upsert_changes old r ≡ true
    → Replaces old r.name (type_of r.rdata) (Some (upserted (rrset_at old r.name (type_of r.rdata)) r)) new → AreInOrder new → AreStored old → AreStored new
upserts_stored old new r changes replaces ordered stored =
    replaces_stored old new r.name (type_of r.rdata) _ replaces ordered stored
    (λ u is. let g : upserted (rrset_at old r.name (type_of r.rdata)) r ≡ u = cc in
    subst IsStored g (upserted_stored (rrset_at old r.name (type_of r.rdata)) r (upsert_joins old r changes)
    (found_there old r r.name (type_of r.rdata) stored (name_eq_equiv.refl r.name) (same_type r))))

pub put_stored : (old new : List RRset) (set : RRset) → Replaces old set.name set.record_type (Some set) new → AreInOrder new → AreStored old → none_left set.records ≡ false → IsRRset set → AreStored new
put_stored old new set replaces ordered stored filled is =
    replaces_stored old new set.name set.record_type (Some set) replaces ordered stored
    (λ u same. let g : set ≡ u = cc in subst IsStored g (record { filled = filled; is = is }))

pub removed_stored : (old new : List RRset) (owner : DomainName) (kind : RecordType) → Replaces old owner kind None new → AreInOrder new → AreStored old → AreStored new
removed_stored old new owner kind replaces ordered stored =
    replaces_stored old new owner kind None replaces ordered stored (λ u same. let h : ⊥ = cc in absurd h)

-- ---- the zone is kept
pub kept_after : {T E : Type 0} (r : Result T E) (origin key : DomainName) (old new : List RRset) → IsKept origin key old → OnOk r (AreInOrder new) → OnOk r (AreStored new) → OnErr r (new ≡ old) → IsKept origin key new
kept_after (Ok x) origin key old new is ordered stored same = record { at = is.at; ordered = ordered; stored = stored }
kept_after (Err e) origin key old new is ordered stored same = subst (IsKept origin key) (sym same) is

pub both_ok : {T E : Type 0} {P Q R : Type 0} (r : Result T E) → (P → Q → R) → OnOk r P → OnOk r Q → OnOk r R
both_ok (Ok x) f p q = f p q
both_ok (Err e) f p q = p

pub kept_updated : {T E : Type 0} (r : Result T E) (origin key : DomainName) (old new : List RRset) (next : Record) → IsKept origin key old
    → OnOk r (upsert_changes old next ≡ true → Replaces old next.name (type_of next.rdata) (Some (upserted (rrset_at old next.name (type_of next.rdata)) next)) new)
    → OnOk r (upsert_changes old next ≡ true → AreInOrder new) → OnOk r (upsert_changes old next ≡ false → new ≡ old) → OnErr r (new ≡ old) → IsKept origin key new
kept_updated (Ok x) origin key old new next is replaces ordered unchanged same = by (upsert_changes old next) refl
  where
    by : (b : Bool) → upsert_changes old next ≡ b → IsKept origin key new
    by true e = record { at = is.at; ordered = ordered e; stored = upserts_stored old new next e (replaces e) (ordered e) is.stored }
    by false e = subst (IsKept origin key) (sym (unchanged e)) is
kept_updated (Err e) origin key old new next is replaces ordered unchanged same = subst (IsKept origin key) (sym same) is

pub upserts_to : {T E : Type 0} (r : Result T E) (zone : Zone) (new : List RRset) (next : Record)
    → OnOk r (upsert_changes zone.sets next ≡ true → Replaces zone.sets next.name (type_of next.rdata) (Some (upserted (rrset_at zone.sets next.name (type_of next.rdata)) next)) new)
    → OnOk r (upsert_changes zone.sets next ≡ true → AreInOrder new) → OnOk r (upsert_changes zone.sets next ≡ false → new ≡ zone.sets) → OnOk r (Upserts zone next (record zone { sets = new }))
upserts_to (Ok x) zone new next replaces ordered unchanged = record {
  changed = λ e. record { replaces = replaces e; ordered = ordered e; rest = refl };
  unchanged = λ e. ap (λ (ss : List RRset). record zone { sets = ss }) (unchanged e);
}
upserts_to (Err e) zone new next replaces ordered unchanged = replaces

-- A set of a name in lower case is that of the name.
pub replaces_named : (old new : List RRset) (key name : DomainName) (kind : RecordType) (set : Option RRset) → key ≡ lowercase_name name → Replaces old key kind set new → Replaces old name kind set new
replaces_named old new key name kind set keyed replaces =
    λ other t. replaces other t ∙ ap (λ (b : Bool). cond (b && same_record_type kind t) set (rrset_at old other t)) (ap (name_eq other) keyed ∙ eq-lower other name)
