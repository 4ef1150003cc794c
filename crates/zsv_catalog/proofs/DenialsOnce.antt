-- The sets by which a zone denies a name or a type are one.
use Rattle.std.proofs.Common.{◌≡◌, ◌∙◌, ℕ, Bool, true, false, List, [], ◌++◌, ap, append-nil, refl, sym}
use Rattle.std.proofs.lemmas.Bool.{true≢false}
use Rattle.std.specs.Prelude.{◌&&◌, ◌||◌, Option, Some, None, IsSome, MatchBool, cond, find, if◌then◌else◌, is_some, slice_get}
use Rattle.std.specs.Ordering.{is_eq, is_gt, is_lt, ordering_reverse}
use Rattle.std.specs.declared.cmp.Ordering.{Ordering}
use Rattle.std.specs.declared.cmp.Ordering.TheVariants.{Less, Equal, Greater}
use Rattle.zsv_answer.proofs.zst_request_lemmas.zst_denial_lemmas.zst_key_lemmas.NamesAbove.{name_total}
use Rattle.zsv_answer.specs.DenialRecords.{DenialRecords, IsDenial, fourth, is_by_hash, signed_labels}
use Rattle.zsv_answer.specs.zst_request.Views.{Blocked, Stored, View, nx_proof_kind_of}
use Rattle.zsv_answer.specs.zst_request.dnw_codes.declared.record_type.RecordType.{RecordType}
use Rattle.zsv_answer.specs.zst_request.dnw_codes.declared.record_type.RecordType.TheVariants as types
use Rattle.zsv_answer.specs.zst_request.dnw_codes.RecordType.{same_record_type}
use Rattle.zsv_answer.specs.zst_request.dnw_name.DomainName.{DomainName, lowercase_name, name_cmp, name_eq}
use Rattle.zsv_answer.specs.zst_request.dnw_name.NameOrderLaws.{name_eq-by_cmp}
use Rattle.zsv_answer.specs.zst_request.zst_codes.declared.nx_proof.NxProofKind.{NxProofKind}
use Rattle.zsv_answer.specs.zst_request.zst_codes.declared.nx_proof.NxProofKind.TheVariants as kinds
use Rattle.zsv_answer.specs.zst_request.zst_denial.Denials.{IsNsecDenial, IsPrecedingSet, Precedes, each_owner_once, encloser}
use Rattle.zsv_answer.specs.zst_request.zst_denial.HashDenials.{IsClosestProof, IsNsec3Denial, is_denied, next_closer}
use Rattle.zsv_answer.specs.zst_request.zst_denial.Hashed.{Hashing, hashed_name}
use Rattle.zsv_answer.specs.zst_request.zst_handler.Answers.{sets_shown}
use Rattle.zsv_answer.specs.zst_request.zst_handler.Lookups.{listed}
use Rattle.zsv_answer.specs.zst_request.zst_handler.Zones.{Zone, rrset_at}
use Rattle.zsv_update.specs.zsv_chains.zst_key.Ancestors.{star}
use Rattle.zsv_answer.specs.zsv_reply.drd_rdata.Types.{type_of}
use Rattle.zsv_answer.specs.zsv_reply.drd_rdata.Writing.{written_octets}
use Rattle.zsv_answer.specs.zsv_reply.drd_rdata.declared.rdata.RData.{RData}
use Rattle.zsv_answer.specs.zsv_reply.drd_rdata.declared.rdata.RData.TheVariants as rdata
use Rattle.zsv_answer.specs.zsv_reply.zst_record.RecordSets.{RRset}
use Rattle.zsv_answer.specs.zsv_reply.zst_record.declared.records.Record.{Record}

-- ---- the set for a name
-- Names of which neither is before the other are level.
neither : (o : Ordering) → is_lt o ≡ false → is_lt (ordering_reverse o) ≡ false → o ≡ Equal
neither Less e f = absurd (true≢false e)
neither Equal e f = refl
neither Greater e f = absurd (true≢false f)

tied : (a b : DomainName) → is_lt (name_cmp a b) ≡ false → is_lt (name_cmp b a) ≡ false → name_cmp a b ≡ Equal
tied a b first second = neither (name_cmp a b) first (ap is_lt (sym (name_total.antisymm b a)) ∙ second)

-- They own the same sets.
same_sets : (sets : List RRset) (a b : DomainName) (t : RecordType) → name_cmp a b ≡ Equal → rrset_at sets a t ≡ rrset_at sets b t
same_sets sets a b t same = λ i. find (λ (s : RRset). e s i && same_record_type s.record_type t) sets
  where
    e : (s : RRset) → name_eq a s.name ≡ name_eq b s.name
    e s = name_eq-by_cmp a s.name ∙ ap is_eq (name_total.congr a b s.name same) ∙ sym (name_eq-by_cmp b s.name)

one_owner : (zone : Zone) (t : RecordType) (name owner other : DomainName) (set more : RRset) → IsPrecedingSet zone t name owner set → IsPrecedingSet zone t name other more → name_cmp owner other ≡ Equal
one_owner zone t name owner other set more is also = by (is_gt (name_cmp owner name)) (is_gt (name_cmp other name)) refl refl
  where
    here : IsSome (rrset_at zone.sets owner t)
    here = ap is_some is.there

    there : IsSome (rrset_at zone.sets other t)
    there = ap is_some also.there

    by : (a b : Bool) → is_gt (name_cmp owner name) ≡ a → is_gt (name_cmp other name) ≡ b → name_cmp owner other ≡ Equal
    by false false e f = tied owner other (is.last e other there f) (also.last f owner here e)
    by true true e f = tied owner other (is.around e other there).1 (also.around f owner here).1
    by false true e f = absurd (true≢false (sym (also.around f owner here).0 ∙ e))
    by true false e f = absurd (true≢false (sym (is.around e other there).0 ∙ f))

one_preceding : (zone : Zone) (t : RecordType) (name : DomainName) (a b : Option RRset) → Precedes zone t name a → Precedes zone t name b → a ≡ b
one_preceding zone t name None None is also = refl
one_preceding zone t name None (Some more) is (other, also) = absurd (true≢false (sym (ap is_some also.there) ∙ ap is_some (is other)))
one_preceding zone t name (Some set) None (owner, is) also = absurd (true≢false (sym (ap is_some is.there) ∙ ap is_some (also owner)))
one_preceding zone t name (Some set) (Some more) (owner, is) (other, also) =
    sym is.there ∙ same_sets zone.sets owner other t (one_owner zone t name owner other set more is also) ∙ also.there

-- ---- the sets of a denial
one_nsec : (zone : Zone) (name : DomainName) (sets others : List RRset) → IsNsecDenial zone name sets → IsNsecDenial zone name others → sets ≡ others
one_nsec zone name sets others is also =
    let own = one_preceding zone types.NSEC name is.for_name also.for_name is.own also.own in
    let wild = of_star (encloser zone name) refl in
    is.are ∙ (λ i. each_owner_once (listed (own i) ++ listed (wild i))) ∙ sym also.are
  where
    of_star : (e : Option DomainName) → encloser zone name ≡ e → is.for_star ≡ also.for_star
    of_star None e = is.no_wildcard e ∙ sym (also.no_wildcard e)
    of_star (Some ancestor) e = one_preceding zone types.NSEC (star ancestor) is.for_star also.for_star (is.wildcard ancestor e) (also.wildcard ancestor e)

one_closest : (by : Hashing) (zone : Zone) (name ancestor : DomainName) (sets others : List RRset) → IsClosestProof by zone name ancestor sets → IsClosestProof by zone name ancestor others → sets ≡ others
one_closest by zone name ancestor sets others is also =
    let first = one_preceding zone types.NSEC3 (hashed_name by zone ancestor) is.for_ancestor also.for_ancestor is.closest also.closest in
    let second = one_preceding zone types.NSEC3 (hashed_name by zone (next_closer name ancestor)) is.for_closer also.for_closer is.closer also.closer in
    let third = one_preceding zone types.NSEC3 (hashed_name by zone (star ancestor)) is.for_star also.for_star is.wildcard also.wildcard in
    is.are ∙ (λ i. each_owner_once (listed (first i) ++ listed (second i) ++ listed (third i))) ∙ sym also.are

one_nsec3 : (by : Hashing) (zone : Zone) (name : DomainName) (t : RecordType) (wild : Bool) (sets others : List RRset) → IsNsec3Denial by zone name t wild sets → IsNsec3Denial by zone name t wild others → sets ≡ others
one_nsec3 by zone name t wild sets others is also = needed (is_denied zone name t wild) refl
  where
    above : is_denied zone name t wild ≡ true → rrset_at zone.sets (hashed_name by zone name) types.NSEC3 ≡ None → (e : Option DomainName) → encloser zone name ≡ e → sets ≡ others
    above denied none None e = is.no_ancestor denied none e ∙ sym (also.no_ancestor denied none e)
    above denied none (Some ancestor) e = one_closest by zone name ancestor sets others (is.closest ancestor denied none e) (also.closest ancestor denied none e)

    own : is_denied zone name t wild ≡ true → (o : Option RRset) → rrset_at zone.sets (hashed_name by zone name) types.NSEC3 ≡ o → sets ≡ others
    own denied None e = above denied e (encloser zone name) refl
    own denied (Some set) e = is.own set denied e ∙ sym (also.own set denied e)

    needed : (b : Bool) → is_denied zone name t wild ≡ b → sets ≡ others
    needed false e = is.needless e ∙ sym (also.needless e)
    needed true e = own e (rrset_at zone.sets (hashed_name by zone name) types.NSEC3) refl

one_denial : (kind : Option NxProofKind) (zone : Zone) (name : DomainName) (t : RecordType) (wild : Bool) (sets others : List RRset) → IsDenial kind zone name t wild sets → IsDenial kind zone name t wild others → sets ≡ others
one_denial None zone name t wild sets others is also = is ∙ sym also
one_denial (Some kinds.Nsec) zone name t wild sets others is also = one_nsec zone name sets others is also
one_denial (Some (kinds.Nsec3 algorithm salt iterations opt_out)) zone name t wild sets others is also =
    let hashing : Hashing = record { salt = salt; iterations = iterations } in
    one_nsec3 hashing zone (lowercase_name name) t wild sets others is also

-- ---- the records of a denial
pub one_denial_records : (view : View) (dnssec_ok : Bool) (name : DomainName) (t : RecordType) (wild : Bool) (rs others : List Record) → DenialRecords view dnssec_ok name t wild rs → DenialRecords view dnssec_ok name t wild others → rs ≡ others
one_denial_records (Stored zone) false name t wild rs others is also = is ∙ sym also
one_denial_records (Stored zone) true name t wild rs others (sets, are, shown) (more, also, too) =
    shown ∙ ap (sets_shown true) (one_denial zone.nx_proof_kind zone name t wild sets more are also) ∙ sym too
one_denial_records (Blocked blocklist) false name t wild rs others is also = is ∙ sym also
one_denial_records (Blocked blocklist) true name t wild rs others is also = is ∙ sym also

-- With an answer, a wildcard's or another.
abbrev pub DeniesBeside : View → Bool → DomainName → RecordType → Bool → List Record → Type 0
DeniesBeside view dnssec_ok name t wild records =
    MatchBool (wild || is_by_hash (nx_proof_kind_of view)) (DenialRecords view dnssec_ok name t wild records) (records ≡ [])

pub one_answer_denial : (view : View) (dnssec_ok : Bool) (name : DomainName) (t : RecordType) (wild : Bool) (rs others : List Record) → DeniesBeside view dnssec_ok name t wild rs → DeniesBeside view dnssec_ok name t wild others → rs ≡ others
one_answer_denial view dnssec_ok name t wild rs others is also = by (wild || is_by_hash (nx_proof_kind_of view)) is also
  where
    by : (b : Bool) → MatchBool b (DenialRecords view dnssec_ok name t wild rs) (rs ≡ []) → MatchBool b (DenialRecords view dnssec_ok name t wild others) (others ≡ []) → rs ≡ others
    by true denies too = one_denial_records view dnssec_ok name t wild rs others denies too
    by false none too = none ∙ sym too

-- ---- how many labels were signed
-- Type and octets of RDATA tell it.
pub counted : (v : RData) → signed_labels v ≡ cond (same_record_type (type_of v) types.RRSIG) (fourth (Some (written_octets v))) None
counted (rdata.Unknown code null) = by (same_record_type code types.RRSIG)
  where
    by : (b : Bool) → fourth (if b then Some null.anything.items else None) ≡ cond b (fourth (Some (null.anything.items ++ []))) None
    by true = ap (λ (octets : List ℕ). slice_get octets 3) (sym (append-nil null.anything.items))
    by false = refl
counted (rdata.Update0 code) = by (same_record_type code types.RRSIG)
  where
    by : (b : Bool) → None ≡ cond b (slice_get (written_octets (rdata.Update0 code)) 3) None
    by true = refl
    by false = refl
counted other = refl
