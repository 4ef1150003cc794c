-- One place holds one record, but for what its data are: of their type, their number, and whether there are none, all
-- that stand there agree.
use Rattle.std.proofs.Common.{◌≡◌, ℕ, ◌+◌, false, List, refl, sym, ap, subst, inl, inr, ◌∙◌, arith}
use Rattle.zst_record.specs.dnw_codes.declared.record_type.RecordType.{RecordType}
use Rattle.zst_record.specs.dnw_codes.declared.record_type.RecordType.TheVariants as kind
use Rattle.zst_record.specs.dnw_decoder.Codes.{RecordTypeAt}
use Rattle.zst_record.specs.dnw_decoder.Octets.{octets_16, Stands}
use Rattle.zst_record.specs.drd_rdata.Reading.{IsEmptyOf, RDataAt, ReadsAs}
use Rattle.zst_record.specs.drd_rdata.Types.{is_update0, type_of}
use Rattle.zst_record.specs.drd_rdata.declared.rdata.RData.{RData}
use Rattle.zst_record.specs.drd_rdata.declared.rdata.RData.TheVariants as rdata
use Rattle.zst_record.specs.declared.records.Record.{Record}
use Rattle.zst_record.specs.Records.{RecordAt}
use Rattle.zsv_parts.proofs.Questions.{number_once, type_once}
use Rattle.zst_record.proofs.dnw_decoder_lemmas.SpellingLaws.{name_once}
use Rattle.zst_record.proofs.dnw_decoder_lemmas.Standing.{stands_same, length-octets_32}

pub record AreAlike {message : List ℕ} {place e f : ℕ} {a b : Record} (p : RecordAt message place a e) (q : RecordAt message place b f) : Type 0 where
  pub owner : a.name ≡ b.name
  pub kind : type_of a.rdata ≡ type_of b.rdata
  pub len : p.len ≡ q.len
  pub first : p.first ≡ q.first
  pub end : e ≡ f

pub are_alike : (message : List ℕ) (place : ℕ) (a b : Record) (e f : ℕ) (p : RecordAt message place a e) (q : RecordAt message place b f) → AreAlike p q
are_alike message place a b e f p q =
    let names = name_once message place a.name b.name p.owner_end q.owner_end p.owner q.owner in
    let types = type_once message q.owner_end (type_of a.rdata) (type_of b.rdata) p.type_end q.type_end (subst (λ (m : ℕ). RecordTypeAt message m (type_of a.rdata) p.type_end) names.1 p.record_type) q.record_type in
    let classes : p.class_end ≡ q.class_end = omega (arith, types.1, p.dns_class.there.behind, q.dns_class.there.behind) in
    let times : p.ttl_end ≡ q.ttl_end = omega (arith, classes, p.ttl.behind, q.ttl.behind, length-octets_32 a.ttl, length-octets_32 b.ttl) in
    let counts = stands_same message q.ttl_end (octets_16 p.len) (octets_16 q.len) p.first q.first refl (subst (λ (m : ℕ). Stands message m (octets_16 p.len) p.first) times p.count) q.count in
    let len : p.len ≡ q.len = number_once p.len q.len p.small_len q.small_len counts.0 in
    record {
      owner = names.0;
      kind = types.0;
      len = len;
      first = counts.1;
      end = omega (arith, p.filled, q.filled, len, counts.1);
    }

-- Where there are no octets, all data of a type agree; where there are, none of them is without data.
both_empty : (t : RecordType) (v w : RData) → IsEmptyOf t v → IsEmptyOf t w → is_update0 v ≡ is_update0 w
both_empty kind.OPT v w a b = ap is_update0 a.1 ∙ sym (ap is_update0 b.1)
both_empty other v w a b = ap is_update0 (a ∙ sym b)

not_bare : (message : List ℕ) (place end : ℕ) (v : RData) → RDataAt message place v end → is_update0 v ≡ false
not_bare message place end (rdata.Update0 code) at = absurd at.1
not_bare message place end other at = refl

pub bare_alike : (t : RecordType) (message : List ℕ) (place len : ℕ) (v w : RData) → ReadsAs t message place len v → ReadsAs t message place len w → is_update0 v ≡ is_update0 w
bare_alike t message place len v w (inl a) (inl b) = both_empty t v w a.1 b.1
bare_alike t message place len v w (inl a) (inr b) = absurd (omega (arith, a.0, b.0))
bare_alike t message place len v w (inr a) (inl b) = absurd (omega (arith, a.0, b.0))
bare_alike t message place len v w (inr a) (inr b) = not_bare message place (place + len) v a.1.1 ∙ sym (not_bare message place (place + len) w b.1.1)
