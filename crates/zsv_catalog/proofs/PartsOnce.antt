-- A chain of handlers answers a question in one way: any two replies to it hold the same records, in the same order.
use Rattle.std.proofs.Common.{◌≡◌, ◌∙◌, ℕ, Bool, true, false, List, [], ◌∷◌, ◌++◌, ap, map, refl, subst, sym}
use Rattle.std.proofs.lemmas.Bool.{true≢false}
use Rattle.std.proofs.lemmas.List.{map-append}
use Rattle.std.specs.Prelude.{Option, Some, None, not, ◌&&◌, ◌||◌, cond, if◌then◌else◌, option_map}
use Rattle.zsv_answer.specs.zsv_reply.Replies.{ReplyParts}
use Rattle.zsv_answer.specs.zsv_reply.drd_rdata.Types.{type_of}
use Rattle.zsv_answer.specs.zsv_reply.drd_rdata.Writing.{written_octets}
use Rattle.zsv_answer.specs.zsv_reply.drd_rdata.declared.rdata.RData.{RData}
use Rattle.zsv_answer.specs.zsv_reply.drd_rdata.declared.rdata.RData.TheVariants as rdata
use Rattle.zsv_answer.specs.zsv_reply.zst_record.declared.records.Record.{Record}
use Rattle.zsv_answer.specs.zsv_reply.zsv_message.zst_edns.Writing.{opt_octets}
use Rattle.zsv_answer.specs.zsv_reply.zsv_message.zsv_parts.declared.header.Metadata.{Metadata}
use Rattle.drd_types.specs.drd_fields.Fields.{strings}
use Rattle.drd_types.specs.drd_fields.Writing.{fields_octets}
use Rattle.zsv_answer.proofs.LookupOnce.{one-lookup}
use Rattle.zsv_answer.specs.zst_request.Blocking.{AreBlocked, BlockedAnswer, IsMessage, IsText, blocked_answer, with_data}
use Rattle.zsv_answer.specs.zst_request.Views.{Blocked, Stored, View, zone_type_of}
use Rattle.zsv_answer.specs.zst_request.dnw_codes.declared.dns_class.DNSClass.{DNSClass}
use Rattle.zsv_answer.specs.zst_request.dnw_codes.declared.record_type.RecordType.{RecordType}
use Rattle.zsv_answer.specs.zst_request.dnw_codes.declared.record_type.RecordType.TheVariants as types
use Rattle.zsv_answer.specs.zst_request.dnw_codes.RecordType.{same_record_type}
use Rattle.zsv_answer.specs.zst_request.dnw_name.DomainName.{DomainName, num_labels}
use Rattle.zsv_answer.specs.zst_request.zst_codes.declared.response_code.ResponseCode.{ResponseCode}
use Rattle.zsv_answer.specs.zst_request.zst_codes.declared.response_code.ResponseCode.TheVariants as responses
use Rattle.zsv_answer.specs.zst_request.zst_codes.declared.settings.ZoneType.{ZoneType}
use Rattle.zsv_answer.specs.zst_request.zst_codes.declared.settings.ZoneType.TheVariants as zones
use Rattle.zsv_answer.specs.zst_request.zst_handler.Zones.{Zone}
use Rattle.zsv_answer.specs.DenialRecords.{fourth, is_expanded, is_fewer, signed_labels}
use Rattle.zsv_answer.specs.Forwarding.{ForwardedParts, forwarded_metadata, resolved_parts}
use Rattle.zsv_answer.specs.Parts.{AtOrigin, AuthoritativeParts, BesideAnswer, ChainParts, DeniedParts, PartsAs, answer_records, begins_with_ns, is_referral}
use Rattle.zsv_answer.specs.Resolution.{GivesBlocked, ListResolves, Resolution, Resolves, ZoneResolves, answering, enforced, no_such_name, no_such_type, not_here, outcome_shown, resolved}
use Rattle.zsv_answer.specs.Responses.{parts_with}
use Rattle.zsv_answer.specs.zsv_reply.Writing.{reply_metadata}
use Rattle.zsv_answer.specs.Shown.{hidden_but, is_dnssec_record, is_shown, shown_if, shown_to}
use Rattle.zsv_catalog.proofs.DenialsOnce.{DeniesBeside, counted, one_answer_denial, one_denial_records}

-- ---- the same in octets
-- A record by its octets, whatever memory its RDATA own.
pub record InOctets : Type 0 where
  pub name : DomainName
  pub record_type : RecordType
  pub dns_class : DNSClass
  pub ttl : ℕ
  pub rdata : List ℕ

abbrev pub in_octets : Record → InOctets
in_octets r = record { name = r.name; record_type = type_of r.rdata; dns_class = r.dns_class; ttl = r.ttl; rdata = written_octets r.rdata }

-- The same records in the same order.
abbrev pub SameRecords : List Record → List Record → Type 0
SameRecords rs others = map in_octets rs ≡ map in_octets others

-- Two replies hold the same.
pub record SameParts (a b : ReplyParts) : Type 0 where
  pub metadata : a.metadata ≡ b.metadata
  pub answers : SameRecords a.answers b.answers
  pub authorities : SameRecords a.authorities b.authorities
  pub additionals : SameRecords a.additionals b.additionals
  pub edns : option_map opt_octets a.edns ≡ option_map opt_octets b.edns
  pub signature : a.signature ≡ b.signature

pub equal-parts : (a b : ReplyParts) → a ≡ b → SameParts a b
equal-parts a b e = subst (SameParts a) e (record { metadata = refl; answers = refl; authorities = refl; additionals = refl; edns = refl; signature = refl })

-- ---- a blocklist's answer
one-text : (address : Record) (octets : List ℕ) (v w : RData) → IsText octets v → IsText octets w → in_octets (with_data address v) ≡ in_octets (with_data address w)
one-text address octets (rdata.TXT txt) (rdata.TXT text) is also =
    ap (λ (ss : List (List ℕ)). record { name = address.name; record_type = types.TXT; dns_class = address.dns_class; ttl = address.ttl; rdata = fields_octets (strings ss ∷ []) }) (is ∙ sym also)
one-text address octets (rdata.TXT txt) other is also = absurd also
one-text address octets other w is also = absurd is

one-message : (address : Record) (message : Option (List ℕ)) (rs others : List Record) → IsMessage address message rs → IsMessage address message others → SameRecords rs others
one-message address None rs others is also = ap (map in_octets) (is ∙ sym also)
one-message address (Some octets) rs others (v, is, text) (w, also, words) =
    ap (map in_octets) is ∙ ap (λ (r : InOctets). r ∷ []) (one-text address octets v w text words) ∙ sym (ap (map in_octets) also)

one-blocked : (answer : BlockedAnswer) (rs others : List Record) → AreBlocked answer rs → AreBlocked answer others → SameRecords rs others
one-blocked answer rs others is also =
    ap (map in_octets) is.address
    ∙ ap (λ (later : List InOctets). in_octets answer.address ∷ later) (one-message answer.address answer.message is.later also.later is.message also.message)
    ∙ sym (ap (map in_octets) also.address)

-- ---- one resolution
-- Two resolutions are equal, or hold the same records for a blocked name.
data SameResolution (a b : Resolution) : Type 0 where
  one : a ≡ b → SameResolution a b
  blocked : (rs others : List Record) → a ≡ resolved rs [] → b ≡ resolved others [] → SameRecords rs others → SameResolution a b

one-block : (answer : BlockedAnswer) (a b : Resolution) → GivesBlocked answer a → GivesBlocked answer b → SameResolution a b
one-block answer a b (rs, is, gives) (others, also, too) = blocked rs others gives too (one-blocked answer rs others is also)

in-zone : (zone : Zone) (by : Option BlockedAnswer) (name : DomainName) (t : RecordType) (dnssec_ok : Bool) (a b : Resolution) → ZoneResolves zone by name t dnssec_ok a → ZoneResolves zone by name t dnssec_ok b → SameResolution a b
in-zone zone None name t dnssec_ok a b (outcome, is, shown) (other, also, too) =
    one (shown ∙ ap (outcome_shown dnssec_ok) (one-lookup zone name t outcome other is also) ∙ sym too)
in-zone zone (Some answer) name t dnssec_ok a b is also = one-block answer a b is also

in-list : (by : Option BlockedAnswer) (a b : Resolution) → ListResolves by a → ListResolves by b → SameResolution a b
in-list None a b is also = absurd is
in-list (Some answer) a b is also = one-block answer a b is also

one-resolution : (chain : List View) (view : View) (name : DomainName) (t : RecordType) (dnssec_ok : Bool) (a b : Resolution) → Resolves chain view name t dnssec_ok a → Resolves chain view name t dnssec_ok b → SameResolution a b
one-resolution chain (Stored zone) name t dnssec_ok a b is also = in-zone zone (enforced chain name t) name t dnssec_ok a b is also
one-resolution chain (Blocked blocklist) name t dnssec_ok a b is also = in-list (blocked_answer blocklist name t) a b is also

-- ---- authority records
at-origin : (view : View) (dnssec_ok : Bool) (t : RecordType) (rs others : List Record) → AtOrigin view dnssec_ok t rs → AtOrigin view dnssec_ok t others → rs ≡ others
at-origin (Stored zone) dnssec_ok t rs others (outcome, is, shown) (other, also, too) =
    shown ∙ ap (answer_records dnssec_ok) (one-lookup zone zone.origin t outcome other is also) ∙ sym too
at-origin (Blocked blocklist) dnssec_ok t rs others is also = is ∙ sym also

-- ---- lists that are the same
first-same : (r other : Record) (rs others : List Record) → SameRecords (r ∷ rs) (other ∷ others) → in_octets r ≡ in_octets other
first-same r other rs others e = cc

rest-same : (r other : Record) (rs others : List Record) → SameRecords (r ∷ rs) (other ∷ others) → SameRecords rs others
rest-same r other rs others e = cc

begin : (rs others : List Record) → SameRecords rs others → begins_with_ns rs ≡ begins_with_ns others
begin [] [] e = refl
begin [] (r ∷ others) e = absurd (cc)
begin (r ∷ rs) [] e = absurd (cc)
begin (r ∷ rs) (other ∷ others) e = ap (λ (t : RecordType). same_record_type t types.NS) (ap (λ (x : InOctets). x.record_type) (first e))
  where
    first : map in_octets (r ∷ rs) ≡ map in_octets (other ∷ others) → in_octets r ≡ in_octets other
    first e = cc

referral : (t : RecordType) (rs others : List Record) → SameRecords rs others → is_referral t rs ≡ is_referral t others
referral t rs others e = ap (λ (b : Bool). b && not (same_record_type t types.NS || same_record_type t types.ANY)) (begin rs others e)

if-same : (b : Bool) (rs others : List Record) → SameRecords rs others → SameRecords (if b then rs else []) (if b then others else [])
if-same true rs others e = e
if-same false rs others e = refl

else-same : (b : Bool) (rs others : List Record) → SameRecords rs others → SameRecords (if b then [] else rs) (if b then [] else others)
else-same true rs others e = refl
else-same false rs others e = e

with-same : (m : Metadata) (b : Bool) (rs others later : List Record) → SameRecords rs others → SameParts (parts_with m b rs [] later) (parts_with m b others [] later)
with-same m b rs others later e = record {
  metadata = refl;
  answers = else-same b rs others e;
  authorities =
      map-append in_octets (if b then rs else []) later
      ∙ ap (λ (front : List InOctets). front ++ map in_octets later) (if-same b rs others e)
      ∙ sym (map-append in_octets (if b then others else []) later);
  additionals = refl;
  edns = refl;
  signature = refl;
}

shown-same : (asked : Option RecordType) (rs others : List Record) → SameRecords rs others → SameRecords (shown_if asked rs) (shown_if asked others)
shown-same None rs others e = e
shown-same (Some t) [] [] e = refl
shown-same (Some t) [] (other ∷ others) e = absurd (cc)
shown-same (Some t) (r ∷ rs) [] e = absurd (cc)
shown-same (Some t) (r ∷ rs) (other ∷ others) e =
    by (is_shown t r) (is_shown t other) (ap (λ (x : InOctets). same_record_type x.record_type t || not (is_dnssec_record x.record_type)) (first-same r other rs others e))
    (shown-same (Some t) rs others (rest-same r other rs others e))
  where
    by : (b c : Bool) → b ≡ c → SameRecords (shown_to t rs) (shown_to t others)
        → map in_octets (cond b (r ∷ shown_to t rs) (shown_to t rs)) ≡ map in_octets (cond c (other ∷ shown_to t others) (shown_to t others))
    by true true is later =
        ap (λ (x : InOctets). x ∷ map in_octets (shown_to t rs)) (first-same r other rs others e)
        ∙ ap (λ (xs : List InOctets). in_octets other ∷ xs) later
    by false false is later = later
    by true false is later = absurd (true≢false is)
    by false true is later = absurd (true≢false (sym is))

-- ---- whether an answer is a wildcard's
abbrev fewer-in : InOctets → Bool
fewer-in x = is_fewer (cond (same_record_type x.record_type types.RRSIG) (fourth (Some x.rdata)) None) (num_labels x.name)

fewer : (r : Record) → is_fewer (signed_labels r.rdata) (num_labels r.name) ≡ fewer-in (in_octets r)
fewer r = ap (λ (count : Option ℕ). is_fewer count (num_labels r.name)) (counted r.rdata)

expanded : (rs others : List Record) → SameRecords rs others → is_expanded rs ≡ is_expanded others
expanded [] [] e = refl
expanded [] (other ∷ others) e = absurd (cc)
expanded (r ∷ rs) [] e = absurd (cc)
expanded (r ∷ rs) (other ∷ others) e =
    let first = fewer r ∙ ap fewer-in (first-same r other rs others e) ∙ sym (fewer other) in
    let later = expanded rs others (rest-same r other rs others e) in
    λ i. first i || later i

-- ---- what stands beside an answer
beside : (view : View) (dnssec_ok : Bool) (name : DomainName) (t : RecordType) (answers shown rs others : List Record) → SameRecords answers shown
    → BesideAnswer view dnssec_ok name t answers rs → BesideAnswer view dnssec_ok name t shown others → rs ≡ others
beside view dnssec_ok name t answers shown rs others same is also = by (same_record_type t types.SOA) refl
  where
    by : (b : Bool) → same_record_type t types.SOA ≡ b → rs ≡ others
    by true e = at-origin view dnssec_ok types.NS rs others (is.0 e) (also.0 e)
    by false e =
        one_answer_denial view dnssec_ok name t (is_expanded answers) rs others (is.1 e)
        (subst (λ (wild : Bool). DeniesBeside view dnssec_ok name t wild others) (sym (expanded answers shown same)) (also.1 e))

-- ---- the parts
denied : (view : View) (m : Metadata) (dnssec_ok : Bool) (name : DomainName) (t : RecordType) (code : ResponseCode) (a b : ReplyParts) → DeniedParts view m dnssec_ok name t code a → DeniedParts view m dnssec_ok name t code b → SameParts a b
denied view m dnssec_ok name t code a b (denial, start, denies, is, gives) (sets, other, also, at, too) =
    let one = one_denial_records view dnssec_ok name t false denial sets denies also in
    let origin = at-origin view dnssec_ok types.SOA start other is at in
    equal-parts a b (gives ∙ (λ i. parts_with (reply_metadata m true code) false [] [] (one i ++ origin i)) ∙ sym too)

authoritative : (view : View) (m : Metadata) (dnssec_ok : Bool) (name : DomainName) (t : RecordType) (r : Resolution) (a b : ReplyParts) → AuthoritativeParts view m dnssec_ok name t r a → AuthoritativeParts view m dnssec_ok name t r b → SameParts a b
authoritative view m dnssec_ok name t (resolved answers additionals) a b (later, is, gives) (other, also, too) =
    equal-parts a b (gives ∙ ap (λ (rs : List Record). parts_with (reply_metadata m true responses.NoError) (is_referral t answers) answers additionals rs) (beside view dnssec_ok name t answers answers later other refl is also) ∙ sym too)
authoritative view m dnssec_ok name t no_such_type a b is also = denied view m dnssec_ok name t responses.NoError a b is also
authoritative view m dnssec_ok name t no_such_name a b is also = denied view m dnssec_ok name t responses.NXDomain a b is also
authoritative view m dnssec_ok name t (not_here code) a b is also = equal-parts a b (is ∙ sym also)

-- Two replies to a blocked name.
blocked-here : (view : View) (m : Metadata) (dnssec_ok : Bool) (name : DomainName) (t : RecordType) (rs others : List Record) (a b : ReplyParts) → SameRecords rs others
    → AuthoritativeParts view m dnssec_ok name t (resolved rs []) a → AuthoritativeParts view m dnssec_ok name t (resolved others []) b → SameParts a b
blocked-here view m dnssec_ok name t rs others a b same (later, is, gives) (other, also, too) =
    subst (λ (p : ReplyParts). SameParts p b) (sym gives)
    (subst (λ (p : ReplyParts). SameParts (parts_with (reply_metadata m true responses.NoError) (is_referral t rs) rs [] later) p)
    (ap (λ (b : Bool). parts_with (reply_metadata m true responses.NoError) b others [] later) (referral t rs others same)
    ∙ ap (λ (front : List Record). parts_with (reply_metadata m true responses.NoError) (is_referral t others) others [] front) (beside view dnssec_ok name t rs others later other same is also)
    ∙ sym too)
    (with-same (reply_metadata m true responses.NoError) (is_referral t rs) rs others later same))

forwarded : (m : Metadata) (dnssec_ok : Bool) (t : RecordType) (r : Resolution) (a b : ReplyParts) → ForwardedParts m dnssec_ok t r a → ForwardedParts m dnssec_ok t r b → SameParts a b
forwarded m dnssec_ok t r a b is also = by m.recursion_desired refl
  where
    by : (d : Bool) → m.recursion_desired ≡ d → SameParts a b
    by true e = equal-parts a b (is.1 e ∙ sym (also.1 e))
    by false e = equal-parts a b (is.0 e ∙ sym (also.0 e))

blocked-there : (m : Metadata) (dnssec_ok : Bool) (t : RecordType) (rs others : List Record) (a b : ReplyParts) → SameRecords rs others
    → ForwardedParts m dnssec_ok t (resolved rs []) a → ForwardedParts m dnssec_ok t (resolved others []) b → SameParts a b
blocked-there m dnssec_ok t rs others a b same is also = by m.recursion_desired refl
  where
    by : (d : Bool) → m.recursion_desired ≡ d → SameParts a b
    by true e =
        subst (λ (p : ReplyParts). SameParts p b) (sym (is.1 e))
        (subst (SameParts (resolved_parts m dnssec_ok t (resolved rs []))) (sym (also.1 e))
        (with-same (forwarded_metadata m responses.NoError) false (shown_if (hidden_but dnssec_ok t) rs) (shown_if (hidden_but dnssec_ok t) others) []
        (shown-same (hidden_but dnssec_ok t) rs others same)))
    by false e = equal-parts a b (is.0 e ∙ sym (also.0 e))

one-as : (zone_type : ZoneType) (view : View) (m : Metadata) (dnssec_ok : Bool) (name : DomainName) (t : RecordType) (r : Resolution) (a b : ReplyParts) → PartsAs zone_type view m dnssec_ok name t r a → PartsAs zone_type view m dnssec_ok name t r b → SameParts a b
one-as zones.Primary view m dnssec_ok name t r a b is also = authoritative view m dnssec_ok name t r a b is also
one-as zones.Secondary view m dnssec_ok name t r a b is also = authoritative view m dnssec_ok name t r a b is also
one-as zones.External view m dnssec_ok name t r a b is also = forwarded m dnssec_ok t r a b is also

blocked-as : (zone_type : ZoneType) (view : View) (m : Metadata) (dnssec_ok : Bool) (name : DomainName) (t : RecordType) (rs others : List Record) (a b : ReplyParts) → SameRecords rs others
    → PartsAs zone_type view m dnssec_ok name t (resolved rs []) a → PartsAs zone_type view m dnssec_ok name t (resolved others []) b → SameParts a b
blocked-as zones.Primary view m dnssec_ok name t rs others a b same is also = blocked-here view m dnssec_ok name t rs others a b same is also
blocked-as zones.Secondary view m dnssec_ok name t rs others a b same is also = blocked-here view m dnssec_ok name t rs others a b same is also
blocked-as zones.External view m dnssec_ok name t rs others a b same is also = blocked-there m dnssec_ok t rs others a b same is also

resolved-as : (view : View) (m : Metadata) (dnssec_ok : Bool) (name : DomainName) (t : RecordType) (r s : Resolution) (a b : ReplyParts) → SameResolution r s
    → PartsAs (zone_type_of view) view m dnssec_ok name t r a → PartsAs (zone_type_of view) view m dnssec_ok name t s b → SameParts a b
resolved-as view m dnssec_ok name t r s a b (one e) is also =
    one-as (zone_type_of view) view m dnssec_ok name t r a b is (subst (λ (x : Resolution). PartsAs (zone_type_of view) view m dnssec_ok name t x b) (sym e) also)
resolved-as view m dnssec_ok name t r s a b (blocked rs others e f same) is also =
    blocked-as (zone_type_of view) view m dnssec_ok name t rs others a b same
    (subst (λ (x : Resolution). PartsAs (zone_type_of view) view m dnssec_ok name t x a) e is)
    (subst (λ (x : Resolution). PartsAs (zone_type_of view) view m dnssec_ok name t x b) f also)

-- A chain has one answer to a question.
pub one-chain-parts : (chain : List View) (m : Metadata) (dnssec_ok : Bool) (name : DomainName) (t : RecordType) (a b : ReplyParts) → ChainParts chain m dnssec_ok name t a → ChainParts chain m dnssec_ok name t b → SameParts a b
one-chain-parts chain m dnssec_ok name t a b is also = by (answering chain name) refl
  where
    by : (view : Option View) → answering chain name ≡ view → SameParts a b
    by None e = equal-parts a b (is.nobody e ∙ sym (also.nobody e))
    by (Some view) e =
        let first = is.somebody view e in let second = also.somebody view e in
        resolved-as view m dnssec_ok name t first.0 second.0 a b (one-resolution chain view name t dnssec_ok first.0 second.0 first.1 second.1) first.2 second.2
