-- Two messages of the same octets agree in all that a denial depends on.
use Rattle.std.proofs.Common.{◌≡◌, ℕ, ◌+◌, ◌/◌, ◌^◌, ◌<◌, Bool, true, false, ◌||◌, List, [], ◌∷◌, length, refl, sym, ap, subst, inl, inr, ◌∙◌, ◌⊎◌, arith, true≢false}
use Rattle.std.proofs.lemmas.Nat.{from_be_bytes-to_be_bytes_4}
use Rattle.std.specs.Int.{w32, from_be_bytes}
use Rattle.std.specs.Prelude.{cond, find, Option, Some, None}
use Rattle.zsv_sections.specs.zst_record.dnw_codes.declared.record_type.RecordType.{RecordType}
use Rattle.zsv_sections.specs.zst_record.dnw_codes.declared.record_type.RecordType.TheVariants as kind
use Rattle.zsv_sections.specs.zst_record.dnw_codes.RecordType.{same_record_type}
use Rattle.zsv_sections.specs.zst_record.dnw_decoder.Octets.{octets_16, octets_32, Stands}
use Rattle.zsv_sections.specs.zst_record.drd_rdata.Reading.{IsEmptyOf, RDataAt, ReadsAs}
use Rattle.zsv_sections.specs.zst_record.drd_rdata.Types.{type_of}
use Rattle.zsv_sections.specs.zst_record.drd_rdata.declared.rdata.RData.{RData}
use Rattle.zsv_sections.specs.zst_record.drd_rdata.declared.rdata.RData.TheVariants as rdata
use Rattle.zsv_reply.specs.zst_record.declared.records.Record.{Record}
use Rattle.zsv_sections.specs.zst_record.Records.{RecordAt}
use Rattle.zsv_sections.proofs.zst_record_lemmas.dnw_decoder_lemmas.Standing.{stands_same, length-octets_32}
use Rattle.zsv_reply.specs.zsv_message.Messages.{AdditionalsAt, IsEdnsFor, IsMessage, Message, before_additionals, in_additionals, joined_metadata}
use Rattle.zsv_sections.specs.declared.placing.Placing.{Placing}
use Rattle.zsv_sections.specs.Sections.{PlacedRecords, SectionAt, is_opt, past}
use Rattle.zsv_reply.specs.zsv_message.zsv_parts.Headers.{header_of}
use Rattle.zsv_reply.specs.zsv_message.zsv_parts.Questions.{AskedAt, QuestionAt}
use Rattle.zsv_reply.specs.zsv_message.zsv_parts.Wire.{Entries}
use Rattle.zsv_reply.specs.zsv_message.zsv_parts.declared.header.Metadata.{Metadata}
use Rattle.zsv_reply.specs.zsv_message.zsv_parts.declared.question.Query.{Query}
use Rattle.zsv_reply.specs.zsv_message.zsv_parts.zst_codes.ResponseCode.{joined_code, low_bits}
use Rattle.zsv_reply.specs.zsv_message.zsv_parts.zst_codes.declared.response_code.ResponseCode.{ResponseCode}
use Rattle.zsv_reply.specs.zsv_message.zst_edns.declared.edns.Edns.{Edns}
use Rattle.zsv_sections.proofs.zsv_parts_lemmas.Questions.{question_once}
use Rattle.zsv_sections.proofs.Alike.{are_alike}
use Rattle.zsv_sections.proofs.Sectioning.{past_alike, section_end}
use Rattle.zst_denial.specs.Octets.{nsec_octets}

-- ---- one record
octets_32_once : (a b : ℕ) → a < 2 ^ 32 → b < 2 ^ 32 → octets_32 a ≡ octets_32 b → a ≡ b
unfolding octets_32
octets_32_once a b few less same =
    sym (from_be_bytes-to_be_bytes_4 a few) ∙ ap (from_be_bytes w32) same ∙ from_be_bytes-to_be_bytes_4 b less

-- Two records agree in what a denial depends on.
pub record AreSeenAlike (a b : Record) : Type 0 where
  pub name : a.name ≡ b.name
  pub kind : type_of a.rdata ≡ type_of b.rdata
  pub ttl : a.ttl ≡ b.ttl
  pub octets : nsec_octets a.rdata ≡ nsec_octets b.rdata

none_empty : (t : RecordType) (v : RData) → IsEmptyOf t v → nsec_octets v ≡ None
none_empty kind.OPT v e = ap nsec_octets e.1
none_empty other v e = ap nsec_octets e

none_other : (v : RData) → same_record_type (type_of v) kind.NSEC ≡ false → nsec_octets v ≡ None
none_other (rdata.Unknown code null) e = ap (λ (b : Bool). cond b (Some null.anything.items) None) e
none_other other e = refl

nsec_stands : (message : List ℕ) (place end : ℕ) (v : RData) → same_record_type (type_of v) kind.NSEC ≡ true → RDataAt message place v end
    → (octets : List ℕ) × (nsec_octets v ≡ Some octets) × Stands message place octets end
nsec_stands message place end (rdata.Unknown code null) e at = (
  null.anything.items,
  ap (λ (b : Bool). cond b (Some null.anything.items) None) e,
  subst (λ (n : ℕ). Stands message place null.anything.items n) (sym at.0.2) at.0.1,
)
nsec_stands message place end (rdata.Update0 code) e at = absurd at.1
nsec_stands message place end other e at = absurd (true≢false (sym e))

stands_alike : (message : List ℕ) (place end : ℕ) (xs ys : List ℕ) → Stands message place xs end → Stands message place ys end → xs ≡ ys
stands_alike message place end xs ys s t = (stands_same message place xs ys end end (omega (arith, s.behind, t.behind)) s t).0

octets_alike : (t : RecordType) (message : List ℕ) (place len : ℕ) (v w : RData) → type_of v ≡ t → type_of w ≡ t → ReadsAs t message place len v → ReadsAs t message place len w → nsec_octets v ≡ nsec_octets w
octets_alike t message place len v w of_v of_w (inl a) (inl b) = none_empty t v a.1 ∙ sym (none_empty t w b.1)
octets_alike t message place len v w of_v of_w (inl a) (inr b) = absurd (omega (arith, a.0, b.0))
octets_alike t message place len v w of_v of_w (inr a) (inl b) = absurd (omega (arith, a.0, b.0))
octets_alike t message place len v w of_v of_w (inr a) (inr b) = by (same_record_type t kind.NSEC) refl where
  by : (is : Bool) → same_record_type t kind.NSEC ≡ is → nsec_octets v ≡ nsec_octets w
  by false e =
      none_other v (ap (λ (k : RecordType). same_record_type k kind.NSEC) of_v ∙ e)
      ∙ sym (none_other w (ap (λ (k : RecordType). same_record_type k kind.NSEC) of_w ∙ e))
  by true e =
      let x = nsec_stands message place (place + len) v (ap (λ (k : RecordType). same_record_type k kind.NSEC) of_v ∙ e) a.1.1 in
      let y = nsec_stands message place (place + len) w (ap (λ (k : RecordType). same_record_type k kind.NSEC) of_w ∙ e) b.1.1 in
      x.1 ∙ ap Some (stands_alike message place (place + len) x.0 y.0 x.2 y.2) ∙ sym y.1

seen_alike : (message : List ℕ) (place : ℕ) (a b : Record) (e f : ℕ) → RecordAt message place a e → RecordAt message place b f → AreSeenAlike a b × (e ≡ f)
seen_alike message place a b e f p q =
    let same = are_alike message place a b e f p q in
    let moved : ReadsAs (type_of b.rdata) message q.first q.len a.rdata =
    subst (λ (n : ℕ). ReadsAs (type_of b.rdata) message q.first n a.rdata) same.len
    (subst (λ (n : ℕ). ReadsAs (type_of b.rdata) message n p.len a.rdata) same.first
    (subst (λ (t : RecordType). ReadsAs t message p.first p.len a.rdata) same.kind p.rdata)) in
    let place_of : p.class_end ≡ q.class_end = omega (arith, p.ttl.behind, q.ttl.behind, p.count.behind, q.count.behind, same.first, length-octets_32 a.ttl, length-octets_32 b.ttl) in
    let times = stands_same message q.class_end (octets_32 a.ttl) (octets_32 b.ttl) p.ttl_end q.ttl_end (length-octets_32 a.ttl ∙ sym (length-octets_32 b.ttl)) (subst (λ (n : ℕ). Stands message n (octets_32 a.ttl) p.ttl_end) place_of p.ttl) q.ttl in (
      record {
        name = same.owner;
        kind = same.kind;
        ttl = octets_32_once a.ttl b.ttl p.small_ttl q.small_ttl times.0;
        octets = octets_alike (type_of b.rdata) message q.first q.len a.rdata b.rdata same.kind refl moved q.rdata;
      },
      same.end,
    )

-- ---- consecutive records
unfoldable pub AllAlike : List Record → List Record → Type 0
AllAlike [] [] = Unit {0}
AllAlike (a ∷ us) (b ∷ vs) = AreSeenAlike a b × AllAlike us vs
AllAlike us vs = ⊥

placed_alike : (at : Placing) (message : List ℕ) (place : ℕ) (us vs : List Record) (e f : ℕ) → PlacedRecords at message place us e → PlacedRecords at message place vs f → length us ≡ length vs → AllAlike us vs
unfolding AllAlike
placed_alike at message place [] [] e f p q long = tt
placed_alike at message place [] (b ∷ vs) e f p q long = absurd (omega (arith, long))
placed_alike at message place (a ∷ us) [] e f p q long = absurd (omega (arith, long))
placed_alike at message place (a ∷ us) (b ∷ vs) e f p q long =
    let alike = seen_alike message place a b p.0 q.0 p.1 q.1 in
    let moved : PlacedRecords (past at b) message q.0 us e =
    subst (λ (n : ℕ). PlacedRecords (past at b) message n us e) alike.1 (subst (λ (s : Placing). PlacedRecords s message p.0 us e) (past_alike at message place a b p.0 q.0 p.1 q.1) p.3) in
    (alike.0, placed_alike (past at b) message q.0 us vs e f moved q.3 (omega (arith, long)))

section_alike : (at : Placing) (message : List ℕ) (place n : ℕ) (us vs : List Record) (e f : ℕ) → SectionAt at message place n us e → SectionAt at message place n vs f → AllAlike us vs
section_alike at message place n us vs e f p q = placed_alike at message place us vs e f p.0 q.0 (p.1 ∙ sym q.1)

-- ---- questions end at one place
questions_end_once : (message : List ℕ) (place : ℕ) (qs rs : List Query) (e f : ℕ) → Entries (QuestionAt message) place qs e → Entries (QuestionAt message) place rs f → length qs ≡ length rs → e ≡ f
questions_end_once message place [] [] e f p q long = p ∙ sym q
questions_end_once message place [] (r ∷ rs) e f p q long = absurd (omega (arith, long))
questions_end_once message place (q ∷ qs) [] e f p s long = absurd (omega (arith, long))
questions_end_once message place (x ∷ xs) (y ∷ ys) e f p q long =
    let same = question_once message place x y p.0 q.0 p.1 q.1 in
    questions_end_once message q.0 xs ys e f (subst (λ (n : ℕ). Entries (QuestionAt message) n xs e) same.1 p.2) q.2 (omega (arith, long))

-- ---- the options' bits of the code
pub data Finds (us vs : List Record) : Type 0 where
  neither : find is_opt us ≡ None → find is_opt vs ≡ None → Finds us vs
  both : (a b : Record) → find is_opt us ≡ Some a → find is_opt vs ≡ Some b → a.ttl ≡ b.ttl → Finds us vs

finds : (us vs : List Record) → AllAlike us vs → Finds us vs
unfolding AllAlike
finds [] [] all = neither refl refl
finds [] (b ∷ vs) all = absurd all
finds (a ∷ us) [] all = absurd all
finds (a ∷ us) (b ∷ vs) all = by (is_opt b) refl (finds us vs all.1) where
  hit : is_opt a ≡ is_opt b
  hit = ap (λ (t : RecordType). same_record_type t kind.OPT) all.0.kind

  by : (is : Bool) → is_opt b ≡ is → Finds us vs → Finds (a ∷ us) (b ∷ vs)
  by true e later = both a b (ap (λ (c : Bool). cond c (Some a) (find is_opt us)) (hit ∙ e)) (ap (λ (c : Bool). cond c (Some b) (find is_opt vs)) e) all.0.ttl
  by false e (neither m n) = neither (ap (λ (c : Bool). cond c (Some a) (find is_opt us)) (hit ∙ e) ∙ m) (ap (λ (c : Bool). cond c (Some b) (find is_opt vs)) e ∙ n)
  by false e (both x y m n t) = both x y (ap (λ (c : Bool). cond c (Some a) (find is_opt us)) (hit ∙ e) ∙ m) (ap (λ (c : Bool). cond c (Some b) (find is_opt vs)) e ∙ n) t

none_for : (d : Option Edns) → IsEdnsFor None d → d ≡ None
none_for None says = refl
none_for (Some d) says = absurd says

code_none : (h : Metadata) (c d : Option Edns) → c ≡ None → d ≡ None → (joined_metadata h c).response_code ≡ (joined_metadata h d).response_code
code_none h c d p q = ap (λ (x : Option Edns). (joined_metadata h x).response_code) (p ∙ sym q)

code_some : (h : Metadata) (a b : Record) (c d : Option Edns) → a.ttl ≡ b.ttl → IsEdnsFor (Some a) c → IsEdnsFor (Some b) d → (joined_metadata h c).response_code ≡ (joined_metadata h d).response_code
code_some h a b None d t p q = absurd p
code_some h a b (Some c) None t p q = absurd q
code_some h a b (Some c) (Some d) t p q =
    ap (λ (n : ℕ). joined_code n (low_bits h.response_code)) (p.1.rcode_high ∙ ap (λ (n : ℕ). n / 2 ^ 24) t ∙ sym q.1.rcode_high)

code_alike : (h : Metadata) (us vs : List Record) (c d : Option Edns) → Finds us vs → IsEdnsFor (find is_opt us) c → IsEdnsFor (find is_opt vs) d → (joined_metadata h c).response_code ≡ (joined_metadata h d).response_code
code_alike h us vs c d (neither m n) p q =
    code_none h c d (none_for c (subst (λ (o : Option Record). IsEdnsFor o c) m p)) (none_for d (subst (λ (o : Option Record). IsEdnsFor o d) n q))
code_alike h us vs c d (both a b m n t) p q =
    code_some h a b c d t (subst (λ (o : Option Record). IsEdnsFor o c) m p) (subst (λ (o : Option Record). IsEdnsFor o d) n q)

-- ---- the whole
pub record MessagesAlike (m n : Message) : Type 0 where
  pub code : m.metadata.response_code ≡ n.metadata.response_code
  pub answers : AllAlike m.answers n.answers
  pub authorities : AllAlike m.authorities n.authorities

pub message_once : (octets : List ℕ) (m n : Message) → IsMessage octets m → IsMessage octets n → MessagesAlike m n
message_once octets m n p q =
    let header = header_of octets in
    let before = before_additionals header.metadata.op_code in
    let inside = in_additionals header.metadata.op_code in
    let first : p.questions_end ≡ q.questions_end =
    questions_end_once octets 12 m.asked.questions n.asked.questions p.questions_end q.questions_end p.questions.questions.0 q.questions.questions.0 (p.questions.questions.1 ∙ sym q.questions.questions.1) in
    let answers = subst (λ (k : ℕ). SectionAt before octets k header.counts.answers m.answers p.answers_end) first p.answers in
    let second : p.answers_end ≡ q.answers_end =
    section_end before octets q.questions_end header.counts.answers m.answers n.answers p.answers_end q.answers_end answers q.answers in
    let authorities = subst (λ (k : ℕ). SectionAt before octets k header.counts.authorities m.authorities p.authorities_end) second p.authorities in
    let third : p.authorities_end ≡ q.authorities_end =
    section_end before octets q.answers_end header.counts.authorities m.authorities n.authorities p.authorities_end q.authorities_end authorities q.authorities in
    let others = subst (λ (k : ℕ). SectionAt inside octets k header.counts.additionals p.additionals.standing p.end) third p.additionals.there in
    let found = finds p.additionals.standing q.additionals.standing (section_alike inside octets q.authorities_end header.counts.additionals p.additionals.standing q.additionals.standing p.end q.end others q.additionals.there) in
    record {
      code = ap (λ (h : Metadata). h.response_code) p.metadata ∙ code_alike header.metadata p.additionals.standing q.additionals.standing m.edns n.edns found p.additionals.options q.additionals.options ∙ sym (ap (λ (h : Metadata). h.response_code) q.metadata);
      answers = section_alike before octets q.questions_end header.counts.answers m.answers n.answers p.answers_end q.answers_end answers q.answers;
      authorities = section_alike before octets q.answers_end header.counts.authorities m.authorities n.authorities p.authorities_end q.authorities_end authorities q.authorities;
    }
