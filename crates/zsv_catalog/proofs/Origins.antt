-- Where the NSEC records of a reply come from: each is of an NSEC set that the zone has.
use Rattle.std.proofs.Common.{◌≡◌, ◌∙◌, ap, inl, inr, refl, subst, sym}
use Rattle.std.proofs.lemmas.Bool.{true≢false}
use Rattle.std.specs.Prelude.{Bool, true, false, ◌||◌, cond, List, [], ◌∷◌, Option, Some, None, IfSome, IsSome, MatchBool, is_some}
use Rattle.std.specs.List.{AllByRecursion}
use Rattle.zsv_answer.proofs.zst_request_lemmas.zst_denial_lemmas.ShownSets.{nsec3_shown, nsec_shown}
use Rattle.zsv_answer.specs.DenialRecords.{AnswerDenial, DenialRecords, IsDenial, is_by_hash, is_expanded}
use Rattle.zsv_answer.specs.Parts.{AtOrigin, AuthoritativeParts, BesideAnswer, DeniedParts, is_referral}
use Rattle.zsv_answer.specs.Resolution.{outcome_shown}
use Rattle.zsv_answer.specs.zst_request.Views.{Stored, nx_proof_kind_of}
use Rattle.zsv_answer.specs.zst_request.dnw_codes.declared.record_type.RecordType.{RecordType}
use Rattle.zsv_answer.specs.zst_request.dnw_codes.declared.record_type.RecordType.TheVariants as types
use Rattle.zsv_answer.specs.zst_request.dnw_codes.RecordType.{same_record_type}
use Rattle.zsv_answer.specs.zst_request.dnw_name.DomainName.{DomainName, lowercase_name}
use Rattle.zsv_answer.specs.zst_request.zst_codes.declared.nx_proof.NxProofKind.{NxProofKind}
use Rattle.zsv_answer.specs.zst_request.zst_codes.declared.nx_proof.NxProofKind.TheVariants as kinds
use Rattle.zsv_answer.specs.zst_request.zst_codes.declared.response_code.ResponseCode.{ResponseCode}
use Rattle.zsv_answer.specs.zst_request.zst_codes.declared.response_code.ResponseCode.TheVariants as responses
use Rattle.zsv_answer.specs.zst_request.zst_denial.Denials.{IsSetOf, SomeOf}
use Rattle.zsv_answer.specs.zst_request.zst_denial.Hashed.{Hashing}
use Rattle.zsv_answer.specs.zst_request.zst_denial.Octets.{nsec_octets}
use Rattle.zsv_answer.specs.zst_request.zst_handler.Answers.{shown, sets_shown}
use Rattle.zsv_answer.specs.zst_request.zst_handler.Lookups.{IsLookup, Outcome, answered, name_error, name_exists, out_of_zone}
use Rattle.zsv_answer.specs.zst_request.zst_handler.Zones.{AreStored, Zone, rrset_at}
use Rattle.zsv_answer.specs.zsv_reply.Replies.{ReplyParts}
use Rattle.zsv_answer.specs.zsv_reply.zst_record.RecordSets.{RRset}
use Rattle.zsv_answer.specs.zsv_reply.zst_record.declared.records.Record.{Record}
use Rattle.zsv_answer.specs.zsv_reply.zsv_message.Messages.{Message}
use Rattle.zsv_answer.specs.zsv_reply.zsv_message.zsv_parts.declared.header.Metadata.{Metadata}
use Rattle.zsv_answer.specs.zsv_reply.zsv_message.zsv_parts.declared.question.Query.{Query}
use Rattle.zsv_catalog.specs.Catalogs.{asks_for_dnssec}
use Rattle.zsv_catalog.proofs.Denied.{FromZone}
use Rattle.zsv_catalog.proofs.Typed.{IsNoNsec, IsTyped, all_to, append_all, lookup_none, none_of, other_than, referral_none, shown_none, typed_at}

-- A record of an NSEC set that the zone has at its own owner.
pub record IsNsecOf (zone : Zone) (r : Record) : Type 0 where
  pub owner : DomainName
  pub set : RRset
  pub there : rrset_at zone.sets owner types.NSEC ≡ Some set
  pub among : SomeOf (λ (other : Record). other ≡ r) set.records

-- It is one, if it has NSEC data at all.
abbrev pub IsFromZone : Zone → Record → Type 0
IsFromZone zone r = IsSome (nsec_octets r.rdata) → IsNsecOf zone r

without : (zone : Zone) (rs : List Record) → AllByRecursion IsNoNsec rs → AllByRecursion (IsFromZone zone) rs
without zone rs none = all_to IsNoNsec (IsFromZone zone) rs (λ r is some. absurd (true≢false (sym some ∙ ap is_some is))) none

-- ---- the sets of a denial
among_all : (P : Record → Type 0) (rs : List Record) → ((r : Record) → SomeOf (λ (other : Record). other ≡ r) rs → P r) → AllByRecursion P rs
among_all P [] each = tt
among_all P (r ∷ rs) each = (each r (inl refl), among_all P rs (λ other at. each other (inr at)))

abbrev TypedOf : RecordType → RRset → Type 0
TypedOf t set = IsTyped set × (same_record_type set.record_type t ≡ true)

typed_of : (zone : Zone) (t : RecordType) (set : RRset) → AreStored zone.sets → IsSetOf zone t set → TypedOf t set
typed_of zone t set stored is = subst (λ (o : Option RRset). IfSome o (TypedOf t)) is.there (typed_at zone.sets is.owner t stored)

nsec_set : (zone : Zone) (set : RRset) → AreStored zone.sets → IsSetOf zone types.NSEC set → AllByRecursion (IsFromZone zone) (shown true set)
nsec_set zone set stored is =
    append_all (IsFromZone zone) set.records set.signatures
    (among_all (IsFromZone zone) set.records (λ r at some. record { owner = is.owner; set = set; there = is.there; among = at }))
    (without zone set.signatures (none_of types.RRSIG set.signatures refl (typed_of zone types.NSEC set stored is).0.signatures))

nsec_sets : (zone : Zone) (sets : List RRset) → AreStored zone.sets → AllByRecursion (IsSetOf zone types.NSEC) sets → AllByRecursion (IsFromZone zone) (sets_shown true sets)
nsec_sets zone [] stored all = tt
nsec_sets zone (set ∷ sets) stored all =
    append_all (IsFromZone zone) (shown true set) (sets_shown true sets) (nsec_set zone set stored all.0) (nsec_sets zone sets stored all.1)

nsec3_sets : (zone : Zone) (sets : List RRset) → AreStored zone.sets → AllByRecursion (IsSetOf zone types.NSEC3) sets → AllByRecursion (IsFromZone zone) (sets_shown true sets)
nsec3_sets zone [] stored all = tt
nsec3_sets zone (set ∷ sets) stored all =
    let is = typed_of zone types.NSEC3 set stored all.0 in
    append_all (IsFromZone zone) (shown true set) (sets_shown true sets)
    (without zone (shown true set) (shown_none true set is.0 (other_than set.record_type types.NSEC3 types.NSEC is.1 refl))) (nsec3_sets zone sets stored all.1)

denial_sets : (kind : Option NxProofKind) (zone : Zone) (name : DomainName) (t : RecordType) (wild : Bool) (sets : List RRset) → AreStored zone.sets → IsDenial kind zone name t wild sets → AllByRecursion (IsFromZone zone) (sets_shown true sets)
denial_sets None zone name t wild sets stored none = subst (λ (ss : List RRset). AllByRecursion (IsFromZone zone) (sets_shown true ss)) (sym none) tt
denial_sets (Some kinds.Nsec) zone name t wild sets stored is = nsec_sets zone sets stored (nsec_shown zone name sets is)
denial_sets (Some (kinds.Nsec3 algorithm salt iterations opt_out)) zone name t wild sets stored is =
    let hashing : Hashing = record { salt = salt; iterations = iterations } in
    nsec3_sets zone sets stored (nsec3_shown hashing zone (lowercase_name name) t wild sets is)

-- ---- the lists of authority
abbrev pub AllFrom : Zone → List Record → Type 0
AllFrom zone rs = AllByRecursion (IsFromZone zone) rs

abbrev pub PartsFrom : Zone → ReplyParts → Type 0
PartsFrom zone parts = AllFrom zone parts.authorities

module _ (zone : Zone) (stored : AreStored zone.sets) where
  denial_from : (d : Bool) (name : DomainName) (t : RecordType) (wild : Bool) (rs : List Record) → DenialRecords (Stored zone) d name t wild rs → AllFrom zone rs
  denial_from false name t wild rs none = subst (AllFrom zone) (sym none) tt
  denial_from true name t wild rs (sets, are, shown) = subst (AllFrom zone) (sym shown) (denial_sets zone.nx_proof_kind zone name t wild sets stored are)

  origin_from : (d : Bool) (t : RecordType) (rs : List Record) → same_record_type t types.ANY ≡ false → same_record_type t types.NSEC ≡ false → AtOrigin (Stored zone) d t rs → AllFrom zone rs
  origin_from d t rs one other (outcome, is, shown) = subst (AllFrom zone) (sym shown) (without zone _ (lookup_none zone zone.origin t outcome d stored one other is))

  answer_denial_from : (d : Bool) (name : DomainName) (t : RecordType) (answers rs : List Record) → AnswerDenial (Stored zone) d name t answers rs → AllFrom zone rs
  answer_denial_from d name t answers rs is = by (is_expanded answers || is_by_hash (nx_proof_kind_of (Stored zone))) is
    where
      by : (b : Bool) → MatchBool b (DenialRecords (Stored zone) d name t (is_expanded answers) rs) (rs ≡ []) → AllFrom zone rs
      by true denies = denial_from d name t (is_expanded answers) rs denies
      by false none = subst (AllFrom zone) (sym none) tt

  beside_from : (d : Bool) (name : DomainName) (t : RecordType) (answers rs : List Record) → BesideAnswer (Stored zone) d name t answers rs → AllFrom zone rs
  beside_from d name t answers rs (start, other) = by (same_record_type t types.SOA) refl
    where
      by : (b : Bool) → same_record_type t types.SOA ≡ b → AllFrom zone rs
      by true e = origin_from d types.NS rs refl refl (start e)
      by false e = answer_denial_from d name t answers rs (other e)

  denied_from : (m : Metadata) (d : Bool) (name : DomainName) (t : RecordType) (code : ResponseCode) (parts : ReplyParts) → DeniedParts (Stored zone) m d name t code parts → AllFrom zone parts.authorities
  denied_from m d name t code parts (denial, start, denies, at, is) =
      subst (PartsFrom zone) (sym is)
      (append_all (IsFromZone zone) denial start (denial_from d name t false denial denies) (origin_from d types.SOA start refl refl at))

  outcome_from : (m : Metadata) (d : Bool) (name : DomainName) (t : RecordType) (outcome : Outcome) (parts : ReplyParts) → IsLookup zone name t outcome → AuthoritativeParts (Stored zone) m d name t (outcome_shown d outcome) parts → AllFrom zone parts.authorities
  outcome_from m d name t (answered answer) parts looked (beside, at, is) =
      subst (PartsFrom zone) (sym is)
      (append_all (IsFromZone zone) (cond (is_referral t (sets_shown d answer.answers)) (sets_shown d answer.answers) []) beside
      (without zone _ (referral_none zone name t d answer stored looked)) (beside_from d name t (sets_shown d answer.answers) beside at))
  outcome_from m d name t name_exists parts looked is = denied_from m d name t responses.NoError parts is
  outcome_from m d name t name_error parts looked is = denied_from m d name t responses.NXDomain parts is
  outcome_from m d name t out_of_zone parts looked is = subst (PartsFrom zone) (sym is) tt

  -- Whatever a zone of the server's own was asked for.
  pub authorities_from_zone : (request : Message) (q : Query) (parts : ReplyParts) → FromZone request q zone parts → AllFrom zone parts.authorities
  authorities_from_zone request q parts from =
      subst (AllFrom zone) (sym (ap (λ (p : ReplyParts). p.authorities) from.whole))
      (outcome_from request.metadata (asks_for_dnssec request.edns) q.name q.query_type from.outcome from.plain from.is from.gives)
