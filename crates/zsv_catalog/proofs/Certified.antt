-- What the authorities of a reply by a secured zone deny: the name of a name error, the type that a name hasn't; no authoritative name, and no type that it has.
use Rattle.std.proofs.Common.{◌≡◌, ◌∙◌, ◌<◌, ◌^◌, ap, inl, inr, subst, sym}
use Rattle.std.specs.Prelude.{true, false, List, [], ◌∷◌, ◌++◌, Option, Some, None, IsSome, IsSomeAnd, is_some}
use Rattle.std.specs.List.{AllByRecursion}
use Rattle.zsv_answer.proofs.zst_request_lemmas.zst_denial_lemmas.Secured.{owned_not_lacked, present_not}
use Rattle.zsv_answer.proofs.zst_request_lemmas.zst_denial_lemmas.ShownSets.{absent_denied, unowned_denied}
use Rattle.zsv_answer.specs.DenialRecords.{IsDenial}
use Rattle.zsv_answer.specs.zst_request.dnw_codes.declared.record_type.RecordType.{RecordType}
use Rattle.zsv_answer.specs.zst_request.dnw_codes.declared.record_type.RecordType.TheVariants.{NSEC, RRSIG}
use Rattle.zsv_answer.specs.zst_request.dnw_codes.RecordType.{record_type_number, same_record_type}
use Rattle.zsv_answer.specs.zst_request.dnw_name.DomainName.{DomainName}
use Rattle.zsv_answer.specs.zst_request.zst_codes.declared.nx_proof.NxProofKind.{NxProofKind}
use Rattle.zsv_answer.specs.zst_request.zst_codes.declared.nx_proof.NxProofKind.TheVariants as kinds
use Rattle.zsv_answer.specs.zst_request.zst_codes.declared.response_code.ResponseCode.{ResponseCode}
use Rattle.zsv_answer.specs.zst_request.zst_codes.declared.response_code.ResponseCode.TheVariants as responses
use Rattle.zsv_answer.specs.zst_request.zst_denial.Circles.{IsAuthoritativeName, IsNsecSet, IsSecured, is_delegation}
use Rattle.zsv_answer.specs.zst_request.zst_denial.Denials.{Covers, HasOne, IsNsecDenial, Lacks, SomeOf}
use Rattle.zsv_answer.specs.zst_request.zst_handler.Answers.{sets_shown}
use Rattle.zsv_answer.specs.zst_request.zst_handler.Lookups.{IsLookup, name_exists}
use Rattle.zsv_answer.specs.zst_request.zst_handler.Zones.{AreStored, Zone, ZoneReadsBack, rrset_at}
use Rattle.zsv_answer.specs.zsv_reply.Replies.{ReplyParts}
use Rattle.zsv_answer.specs.zsv_reply.zst_record.RecordSets.{RRset}
use Rattle.zsv_answer.specs.zsv_reply.zst_record.declared.records.Record.{Record}
use Rattle.zsv_answer.specs.zsv_reply.zsv_message.Messages.{Message}
use Rattle.zsv_answer.specs.zsv_reply.zsv_message.zsv_parts.declared.question.Query.{Query}
use Rattle.zsv_catalog.specs.Catalogs.{asks_for_dnssec}
use Rattle.zsv_catalog.proofs.Denied.{Denied, FromZone, names_denied, types_denied}
use Rattle.zsv_catalog.proofs.Origins.{IsFromZone, IsNsecOf, authorities_from_zone}

-- ---- what one record of a set is, one that is shown is
module _ (P : Record → Type 0) where
  some_before : (rs ss more : List Record) → SomeOf P rs → SomeOf P ((rs ++ ss) ++ more)
  some_before [] ss more some = absurd some
  some_before (r ∷ rs) ss more (inl here) = inl here
  some_before (r ∷ rs) ss more (inr later) = inr (some_before rs ss more later)

  some_after : (rs ss more : List Record) → SomeOf P (ss ++ more) → SomeOf P ((rs ++ ss) ++ more)
  some_after [] ss more some = some
  some_after (r ∷ rs) ss more some = inr (some_after rs ss more some)

  some_joined : (rs ss : List Record) → SomeOf P rs → SomeOf P (rs ++ ss)
  some_joined [] ss some = absurd some
  some_joined (r ∷ rs) ss (inl here) = inl here
  some_joined (r ∷ rs) ss (inr later) = inr (some_joined rs ss later)

  some_one : (set : RRset) → HasOne P set → SomeOf P set.records
  some_one set is = subst (SomeOf P) (sym is.one) (inl is.is)

  pub some_shown : (sets : List RRset) (more : List Record) → SomeOf (HasOne P) sets → SomeOf P (sets_shown true sets ++ more)
  some_shown [] more some = absurd some
  some_shown (set ∷ sets) more (inl one) =
      some_before (set.records ++ set.signatures) (sets_shown true sets) more (some_joined set.records set.signatures (some_one set one))
  some_shown (set ∷ sets) more (inr later) = some_after (set.records ++ set.signatures) (sets_shown true sets) more (some_shown sets more later)

-- ---- what is denied
module _ (request : Message) (q : Query) (zone : Zone) (parts : ReplyParts) (asks : asks_for_dnssec request.edns ≡ true) (from : FromZone request q zone parts)
    (kind : zone.nx_proof_kind ≡ Some kinds.Nsec) (secured : IsSecured zone) (stored : AreStored zone.sets) (back : ZoneReadsBack zone) (origin : IsAuthoritativeName NSEC zone zone.origin) where
  nsec_sets : (code : ResponseCode) → (denied : Denied zone q.name q.query_type code parts) → IsNsecDenial zone q.name denied.sets
  nsec_sets code denied = subst (λ (o : Option NxProofKind). IsDenial o zone q.name q.query_type false denied.sets) kind denied.denies

  -- The name of a name error is covered.
  pub name_covered : parts.metadata.response_code ≡ responses.NXDomain → SomeOf (Covers q.name) parts.authorities
  name_covered code =
      let (denied, absent) = names_denied request q zone parts asks from code in
      let some = absent_denied zone q.name denied.sets secured stored back origin absent (nsec_sets responses.NXDomain denied) in
      subst (SomeOf (Covers q.name)) (sym denied.authorities) (some_shown (Covers q.name) denied.sets denied.start some)

  -- A type that an authoritative name hasn't is lacked.
  pub type_lacked : IsAuthoritativeName NSEC zone q.name → record_type_number q.query_type < 2 ^ 16 → same_record_type q.query_type RRSIG ≡ false → IsLookup zone q.name q.query_type name_exists
      → SomeOf (Lacks q.name q.query_type) parts.authorities
  type_lacked on small other is =
      let (denied, none) = types_denied request q zone parts asks from is in
      let some = unowned_denied zone q.name q.query_type denied.sets secured stored back origin on small other none (nsec_sets responses.NoError denied) in
      subst (SomeOf (Lacks q.name q.query_type)) (sym denied.authorities) (some_shown (Lacks q.name q.query_type) denied.sets denied.start some)

-- ---- what isn't
at_some : (P : RRset → Type 0) (o : Option RRset) (set : RRset) → o ≡ Some set → IsSomeAnd o P → P set
at_some P None set e is = absurd is
at_some P (Some other) set e is = let same : other ≡ set = cc e in subst P same is

only_one : (only r : Record) (rs : List Record) → rs ≡ only ∷ [] → SomeOf (λ (other : Record). other ≡ r) rs → rs ≡ r ∷ []
only_one only r rs one among = by (subst (SomeOf (λ (other : Record). other ≡ r)) one among)
  where
    by : SomeOf (λ (other : Record). other ≡ r) (only ∷ []) → rs ≡ r ∷ []
    by (inl same) = one ∙ ap (λ (x : Record). x ∷ []) same
    by (inr none) = absurd none

none_so : (P : Record → Type 0) (rs : List Record) → AllByRecursion (λ (r : Record). P r → ⊥) rs → SomeOf P rs → ⊥
none_so P [] none some = some
none_so P (r ∷ rs) none (inl here) = none.0 here
none_so P (r ∷ rs) none (inr later) = none_so P rs none.1 later

each_of : (P Q : Record → Type 0) (rs : List Record) → ((r : Record) → P r → Q r) → AllByRecursion P rs → AllByRecursion Q rs
each_of P Q [] f all = tt
each_of P Q (r ∷ rs) f all = (f r all.0, each_of P Q rs f all.1)

module _ (zone : Zone) (secured : IsSecured zone) (stored : AreStored zone.sets) (back : ZoneReadsBack zone) where
  -- The record is all that its set has.
  whole_set : (r : Record) → (is : IsNsecOf zone r) → is.set.records ≡ r ∷ []
  whole_set r is =
      let owns : IsSome (rrset_at zone.sets is.owner NSEC) = ap is_some is.there in
      let set = at_some (IsNsecSet zone is.owner) (rrset_at zone.sets is.owner NSEC) is.set is.there (secured.each is.owner (secured.only is.owner owns)) in
      only_one set.only r is.set.records set.one is.among

  covers_none : (name : DomainName) (r : Record) → IsAuthoritativeName NSEC zone name → IsFromZone zone r → Covers name r → ⊥
  covers_none name r on from covers =
      let is = from (ap is_some covers.nsec.held) in
      present_not zone name is.owner is.set r secured stored back on is.there (whole_set r is) covers

  lacks_none : (name : DomainName) (t : RecordType) (r : Record) → IsAuthoritativeName NSEC zone name → record_type_number t < 2 ^ 16 → is_delegation zone name ≡ false → IsSome (rrset_at zone.sets name t)
      → IsFromZone zone r → Lacks name t r → ⊥
  lacks_none name t r on small whole owned from lacks =
      let is = from (ap is_some lacks.nsec.held) in
      owned_not_lacked zone name is.owner is.set r t secured stored back on small whole owned is.there (whole_set r is) lacks

  -- No authoritative name is covered.
  pub none_covered : (request : Message) (q : Query) (parts : ReplyParts) (name : DomainName) → FromZone request q zone parts → IsAuthoritativeName NSEC zone name → SomeOf (Covers name) parts.authorities → ⊥
  none_covered request q parts name from on =
      none_so (Covers name) parts.authorities
      (each_of (IsFromZone zone) (λ (r : Record). Covers name r → ⊥) parts.authorities (λ r given. covers_none name r on given) (authorities_from_zone zone stored request q parts from))

  -- No type is lacked that an authoritative name has which isn't a delegation.
  pub none_lacked : (request : Message) (q : Query) (parts : ReplyParts) (name : DomainName) (t : RecordType) → FromZone request q zone parts → IsAuthoritativeName NSEC zone name → record_type_number t < 2 ^ 16
      → is_delegation zone name ≡ false → IsSome (rrset_at zone.sets name t) → SomeOf (Lacks name t) parts.authorities → ⊥
  none_lacked request q parts name t from on small whole owned =
      none_so (Lacks name t) parts.authorities
      (each_of (IsFromZone zone) (λ (r : Record). Lacks name t r → ⊥) parts.authorities (λ r given. lacks_none name t r on small whole owned given) (authorities_from_zone zone stored request q parts from))
