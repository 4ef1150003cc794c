-- One place of a message holds one record, but for where its octets lie in memory.
use Rattle.std.proofs.Common.{◌≡◌, ◌<◌, ◌^◌, ◌∙◌, ℕ, ◌+◌, refl, sym, ap, subst, false, List, [], ◌∷◌, length, inl, inr, arith}
use Rattle.std.specs.Prelude.{Bool, not, ◌&&◌, ◌||◌, Option, Some, None, cond}
use Rattle.std.specs.List.{AllByRecursion}
use Rattle.std.specs.Int.{w32, from_be_bytes}
use Rattle.std.proofs.lemmas.Nat.{from_be_bytes-to_be_bytes_4}
use Rattle.drd_record_data.specs.Numbers.{NumbersFit}
use Rattle.drd_record_data.proofs.EqualLaws.{reads_equal, reads_target, target}
use Rattle.zsv_message.specs.zst_record.Records.{RecordAt}
use Rattle.zsv_message.specs.zst_record.declared.records.Record.{Record}
use Rattle.zsv_message.specs.zst_record.dnw_codes.RecordType.{same_record_type}
use Rattle.zsv_message.specs.zst_record.dnw_codes.declared.error.DecodeError.{DecodeError}
use Rattle.zsv_message.specs.zst_record.dnw_codes.declared.error.DecodeError.TheVariants.{DuplicateEdns, EdnsNameNotRoot, InvalidEmptyRecord, RecordAfterSig, RecordNotInAdditionalSection}
use Rattle.zsv_message.specs.zst_record.dnw_codes.declared.record_type.RecordType.{RecordType}
use Rattle.zsv_message.specs.zst_record.dnw_codes.declared.record_type.RecordType.TheVariants as kind
use Rattle.zsv_message.specs.zst_record.dnw_decoder.Codes.{ClassAt, RecordTypeAt}
use Rattle.zsv_message.specs.zst_record.dnw_decoder.Octets.{octets_16, octets_32, Stands}
use Rattle.zsv_message.specs.zst_record.dnw_name.DomainName.{DomainName}
use Rattle.zsv_message.specs.zst_record.drd_rdata.Reading.{IsEmptyOf, RDataAt, ReadsAs}
use Rattle.zsv_message.specs.zst_record.drd_rdata.Types.{is_update0, type_of}
use Rattle.zsv_message.specs.zst_record.drd_rdata.declared.rdata.RData.{RData}
use Rattle.zsv_message.specs.zst_record.drd_rdata.declared.rdata.RData.TheVariants as rdata
use Rattle.zsv_message.specs.zsv_sections.Sections.{PlacedRecords, is_root, misplaced, past}
use Rattle.zsv_message.specs.zsv_sections.declared.placing.Placing.{Placing}
use Rattle.zsv_message.specs.zsv_parts.Wire.{Entries}
use Rattle.zsv_message.proofs.zsv_parts_lemmas.Questions.{class_once, number_once, type_once}
use Rattle.zsv_message.proofs.zst_record_lemmas.dnw_decoder_lemmas.SpellingLaws.{name_once}
use Rattle.zsv_message.proofs.zst_record_lemmas.dnw_decoder_lemmas.Standing.{stands_same, length-octets_32}
use Rattle.authority_load.specs.zst_zone.zst_handler.Chains.{target_of}
use Rattle.authority_transfer.specs.Alike.{AllSame, IsSameRecord}
use Rattle.authority_transfer.specs.Transfers.{AllNumbersFit}

-- ---- one place, one record but for its data
pub record AreAlike {message : List ℕ} {place e f : ℕ} {a b : Record} (p : RecordAt message place a e) (q : RecordAt message place b f) : Type 0 where
  pub owner : a.name ≡ b.name
  pub kind : type_of a.rdata ≡ type_of b.rdata
  pub class : a.dns_class ≡ b.dns_class
  pub times : octets_32 a.ttl ≡ octets_32 b.ttl
  pub len : p.len ≡ q.len
  pub first : p.first ≡ q.first
  pub end : e ≡ f

pub are_alike : (message : List ℕ) (place : ℕ) (a b : Record) (e f : ℕ) (p : RecordAt message place a e) (q : RecordAt message place b f) → AreAlike p q
are_alike message place a b e f p q =
    let names = name_once message place a.name b.name p.owner_end q.owner_end p.owner q.owner in
    let types = type_once message q.owner_end (type_of a.rdata) (type_of b.rdata) p.type_end q.type_end (subst (λ (m : ℕ). RecordTypeAt message m (type_of a.rdata) p.type_end) names.1 p.record_type) q.record_type in
    let classes = class_once message q.type_end a.dns_class b.dns_class p.class_end q.class_end (subst (λ (m : ℕ). ClassAt message m a.dns_class p.class_end) types.1 p.dns_class) q.dns_class in
    let longs : length (octets_32 a.ttl) ≡ length (octets_32 b.ttl) = length-octets_32 a.ttl ∙ sym (length-octets_32 b.ttl) in
    let times = stands_same message q.class_end (octets_32 a.ttl) (octets_32 b.ttl) p.ttl_end q.ttl_end longs (subst (λ (m : ℕ). Stands message m (octets_32 a.ttl) p.ttl_end) classes.1 p.ttl) q.ttl in
    let counts = stands_same message q.ttl_end (octets_16 p.len) (octets_16 q.len) p.first q.first refl (subst (λ (m : ℕ). Stands message m (octets_16 p.len) p.first) times.1 p.count) q.count in
    let len : p.len ≡ q.len = number_once p.len q.len p.small_len q.small_len counts.0 in
    record {
      owner = names.0;
      kind = types.0;
      class = classes.0;
      times = times.0;
      len = len;
      first = counts.1;
      end = omega (arith, p.filled, q.filled, len, counts.1);
    }

long_once : (a b : ℕ) → a < 2 ^ 32 → b < 2 ^ 32 → octets_32 a ≡ octets_32 b → a ≡ b
unfolding octets_32
long_once a b few less same =
    sym (from_be_bytes-to_be_bytes_4 a few) ∙ ap (from_be_bytes w32) same ∙ from_be_bytes-to_be_bytes_4 b less

pub ttl_once : (message : List ℕ) (place : ℕ) (a b : Record) (e f : ℕ) (p : RecordAt message place a e) (q : RecordAt message place b f) → a.ttl ≡ b.ttl
ttl_once message place a b e f p q = long_once a.ttl b.ttl p.small_ttl q.small_ttl (are_alike message place a b e f p q).times

-- The data of both, read for one type at one place.
pub data_there : (message : List ℕ) (place : ℕ) (a b : Record) (e f : ℕ) (p : RecordAt message place a e) (q : RecordAt message place b f) → ReadsAs (type_of a.rdata) message p.first p.len b.rdata
data_there message place a b e f p q =
    let same = are_alike message place a b e f p q in
    subst (λ (t : RecordType). ReadsAs t message p.first p.len b.rdata) (sym same.kind)
    (subst (λ (n : ℕ). ReadsAs (type_of b.rdata) message p.first n b.rdata) (sym same.len)
    (subst (λ (n : ℕ). ReadsAs (type_of b.rdata) message n q.len b.rdata) (sym same.first) q.rdata))

-- ---- the same record
targets : (v : RData) → target_of v ≡ target v
targets (rdata.CNAME x) = refl
targets (rdata.ANAME x) = refl
targets (rdata.NS x) = refl
targets (rdata.MX x) = refl
targets (rdata.SRV x) = refl
targets other = refl

pub record_same : (message : List ℕ) (place : ℕ) (r s : Record) (e f : ℕ) → RecordAt message place r e → RecordAt message place s f → NumbersFit r.rdata → NumbersFit s.rdata → same_record_type (type_of r.rdata) kind.OPT ≡ false → IsSameRecord r s
record_same message place r s e f p q fits also plain =
    let alike = are_alike message place r s e f p q in
    let second = data_there message place r s e f p q in
    record {
      name = alike.owner;
      dns_class = alike.class;
      ttl = ttl_once message place r s e f p q;
      of_type = alike.kind;
      target = targets r.rdata ∙ reads_target (type_of r.rdata) message p.first p.len r.rdata s.rdata fits also p.rdata second alike.kind ∙ sym (targets s.rdata);
      rdata = reads_equal (type_of r.rdata) message p.first p.len r.rdata s.rdata fits also p.rdata second plain;
    }

-- ---- records that may be read there
both_empty : (t : RecordType) (v w : RData) → IsEmptyOf t v → IsEmptyOf t w → is_update0 v ≡ is_update0 w
both_empty kind.OPT v w a b = ap is_update0 a.1 ∙ sym (ap is_update0 b.1)
both_empty other v w a b = ap is_update0 (a ∙ sym b)

not_bare : (message : List ℕ) (place end : ℕ) (v : RData) → RDataAt message place v end → is_update0 v ≡ false
not_bare message place end (rdata.Update0 code) at = absurd at.1
not_bare message place end other at = refl

bare_alike : (t : RecordType) (message : List ℕ) (place len : ℕ) (v w : RData) → ReadsAs t message place len v → ReadsAs t message place len w → is_update0 v ≡ is_update0 w
bare_alike t message place len v w (inl a) (inl b) = both_empty t v w a.1 b.1
bare_alike t message place len v w (inl a) (inr b) = absurd (omega (arith, a.0, b.0))
bare_alike t message place len v w (inr a) (inl b) = absurd (omega (arith, a.0, b.0))
bare_alike t message place len v w (inr a) (inr b) = not_bare message place (place + len) v a.1.1 ∙ sym (not_bare message place (place + len) w b.1.1)

of_opt : RecordType → Bool
of_opt t = same_record_type t kind.OPT

of_tsig : RecordType → Bool
of_tsig t = same_record_type t kind.TSIG

of_signature : RecordType → Bool
of_signature t = of_tsig t || same_record_type t kind.SIG

cause_of : Placing → RecordType → DomainName → Bool → Option DecodeError
cause_of at t name bare =
    cond at.is_signed (Some RecordAfterSig)
    (cond (not at.is_additional && (of_opt t || of_signature t)) (Some (RecordNotInAdditionalSection t))
    (cond (of_opt t && not (is_root name)) (Some EdnsNameNotRoot)
    (cond (of_opt t && at.has_options) (Some DuplicateEdns)
    (cond (bare && (not at.is_update || of_tsig t)) (Some InvalidEmptyRecord) None))))

after : Placing → RecordType → Placing
after at t = record at { is_signed = at.is_signed || of_signature t; has_options = at.has_options || of_opt t }

pub misplaced_alike : (at : Placing) (message : List ℕ) (place : ℕ) (a b : Record) (e f : ℕ) → RecordAt message place a e → RecordAt message place b f → misplaced at a ≡ misplaced at b
unfolding cause_of of_opt of_signature of_tsig
misplaced_alike at message place a b e f p q =
    let same = are_alike message place a b e f p q in
    let bare : is_update0 a.rdata ≡ is_update0 b.rdata = bare_alike (type_of a.rdata) message p.first p.len a.rdata b.rdata p.rdata (data_there message place a b e f p q) in
    λ i. cause_of at (same.kind i) (same.owner i) (bare i)

pub past_alike : (at : Placing) (message : List ℕ) (place : ℕ) (a b : Record) (e f : ℕ) → RecordAt message place a e → RecordAt message place b f → past at a ≡ past at b
unfolding after of_signature of_opt of_tsig
past_alike at message place a b e f p q =
    let same = are_alike message place a b e f p q in
    λ i. after at (same.kind i)

-- Records that stand where placed ones do are placed, and end there.
pub placed_again : (at : Placing) (message : List ℕ) (place : ℕ) (rs ss : List Record) (e f : ℕ) → PlacedRecords at message place rs e → Entries (RecordAt message) place ss f → length rs ≡ length ss → PlacedRecords at message place ss f × (e ≡ f)
placed_again at message place [] [] e f p q same = (q, p ∙ sym q)
placed_again at message place [] (s ∷ ss) e f p q same = absurd (omega (arith, same))
placed_again at message place (r ∷ rs) [] e f p q same = absurd (omega (arith, same))
placed_again at message place (r ∷ rs) (s ∷ ss) e f p q same =
    let alike = are_alike message place r s p.0 q.0 p.1 q.1 in
    let moved : PlacedRecords (past at s) message q.0 rs e =
    subst (λ (now : Placing). PlacedRecords now message q.0 rs e) (past_alike at message place r s p.0 q.0 p.1 q.1)
    (subst (λ (m : ℕ). PlacedRecords (past at r) message m rs e) alike.end p.3) in
    let rest = placed_again (past at s) message q.0 rs ss e f moved q.2 (omega (arith, same)) in
    ((q.0, q.1, sym (misplaced_alike at message place r s p.0 q.0 p.1 q.1) ∙ p.2, rest.0), rest.1)

pub as_entries : (at : Placing) (message : List ℕ) (place : ℕ) (rs : List Record) (end : ℕ) → PlacedRecords at message place rs end → Entries (RecordAt message) place rs end
as_entries at message place [] end p = p
as_entries at message place (r ∷ rs) end p = (p.0, p.1, as_entries (past at r) message p.0 rs end p.3)

-- No options.
abbrev pub NoOptions : List Record → Type 0
NoOptions rs = AllByRecursion (λ r. same_record_type (type_of r.rdata) kind.OPT ≡ false) rs

-- Two lists from one place on are the same, record by record.
pub entries_same : (message : List ℕ) (place : ℕ) (rs ss : List Record) (e f : ℕ) → Entries (RecordAt message) place rs e → Entries (RecordAt message) place ss f → length rs ≡ length ss → AllNumbersFit rs → AllNumbersFit ss → NoOptions rs → AllSame IsSameRecord rs ss
entries_same message place [] [] e f p q same fits also plain = tt
entries_same message place [] (s ∷ ss) e f p q same fits also plain = absurd (omega (arith, same))
entries_same message place (r ∷ rs) [] e f p q same fits also plain = absurd (omega (arith, same))
entries_same message place (r ∷ rs) (s ∷ ss) e f p q same fits also plain =
    let alike = are_alike message place r s p.0 q.0 p.1 q.1 in
    let there : Entries (RecordAt message) q.0 rs e = subst (λ (m : ℕ). Entries (RecordAt message) m rs e) alike.end p.2 in (
      record_same message place r s p.0 q.0 p.1 q.1 fits.0 also.0 plain.0,
      entries_same message q.0 rs ss e f there q.2 (omega (arith, same)) fits.1 also.1 plain.1,
    )
