-- Behind an owner stands one head, and behind it the data of one record.
use Rattle.std.proofs.Common.{◌≡◌, ℕ, ◌+◌, ◌^◌, ◌<◌, List, refl, sym, ap, subst, inl, inr, ◌∙◌, ◌⊎◌, arith}
use Rattle.std.specs.Int.{w16, from_be_bytes}
use Rattle.std.proofs.lemmas.Nat.{from_be_bytes-to_be_bytes_2}
use Rattle.drd_rdata.specs.dnw_codes.RecordType.{record_type_of}
use Rattle.drd_rdata.specs.dnw_codes.declared.record_type.RecordType.{RecordType}
use Rattle.drd_rdata.specs.dnw_codes.declared.dns_class.DNSClass.{DNSClass}
use Rattle.drd_rdata.specs.dnw_codes.declared.error.DecodeError.{DecodeError}
use Rattle.drd_rdata.specs.dnw_decoder.Codes.{RecordTypeAt, ClassAt}
use Rattle.drd_rdata.specs.dnw_decoder.Octets.{octets_16, octets_32, Stands}
use Rattle.drd_rdata.specs.dnw_decoder.Reading.{IsCut, IsWantOfMemory}
use Rattle.drd_rdata.specs.dnw_decoder.Spelling.{NameAt}
use Rattle.drd_rdata.specs.dnw_name.DomainName.{DomainName}
use Rattle.drd_rdata.specs.declared.rdata.RData.{RData}
use Rattle.drd_rdata.specs.Reading.{ReadsAs, RefusesAs, WantsMemoryAs}
use Rattle.drd_rdata.specs.Types.{type_of}
use Rattle.drd_rdata.proofs.dnw_decoder_lemmas.SpellingLaws.{name_once}
use Rattle.drd_rdata.proofs.dnw_decoder_lemmas.Standing.{stands_same, stands_within, length-octets_32}
use Rattle.zst_record.specs.declared.read.Head.{Head}
use Rattle.zst_record.specs.declared.records.Record.{Record}
use Rattle.zst_record.specs.Reading.{HeadAt, RefusesBehind}
use Rattle.zst_record.specs.Records.{RecordAt}

number_once : (a b : ℕ) → a < 2 ^ 16 → b < 2 ^ 16 → octets_16 a ≡ octets_16 b → a ≡ b
number_once a b few less same = sym (from_be_bytes-to_be_bytes_2 a few) ∙ ap (from_be_bytes w16) same ∙ from_be_bytes-to_be_bytes_2 b less

type_once : (message : List ℕ) (place : ℕ) (a b : RecordType) (e f : ℕ) → RecordTypeAt message place a e → RecordTypeAt message place b f → a ≡ b
type_once message place a b e f p q =
    let same = stands_same message place (octets_16 p.number) (octets_16 q.number) e f refl p.there q.there in
    p.means ∙ ap record_type_of (number_once p.number q.number p.small q.small same.0) ∙ sym q.means

-- A record begins with its owner; where that ends is told by its octets.
owner_end : (message : List ℕ) (place behind : ℕ) (r : Record) (end : ℕ) → NameAt message place r.name behind → (at : RecordAt message place r end) → at.owner_end ≡ behind
owner_end message place behind r end owner at = (name_once message place r.name r.name at.owner_end behind at.owner owner).1

-- The count of octets stands eight octets behind the owner, and the data behind it.
count_there : (message : List ℕ) (place behind : ℕ) (r : Record) (end : ℕ) → NameAt message place r.name behind → (at : RecordAt message place r end) → (at.ttl_end ≡ behind + 8) × (at.first ≡ behind + 10)
count_there message place behind r end owner at =
    let ends = owner_end message place behind r end owner at in
    (omega (arith, ends, at.record_type.there.behind, at.dns_class.there.behind, at.ttl.behind, length-octets_32 r.ttl), omega (arith, ends, at.record_type.there.behind, at.dns_class.there.behind, at.ttl.behind, length-octets_32 r.ttl, at.count.behind))

-- Where the head is cut, no record stands behind the owner.
pub cut_behind : (message : List ℕ) (place behind : ℕ) (e : DecodeError) (r : Record) (end : ℕ) → IsCut 10 message behind e → NameAt message place r.name behind → RecordAt message place r end → ⊥
cut_behind message place behind e r end cut owner at =
    let count = count_there message place behind r end owner at in
    omega (arith, cut.1, count.1, stands_within message at.ttl_end (octets_16 at.len) at.first (omega arith) at.count)

-- A record behind the owner has the data that the head tells.
pub data_behind : (message : List ℕ) (place behind : ℕ) (head : Head) (r : Record) (end : ℕ) → HeadAt message behind head → NameAt message place r.name behind → RecordAt message place r end → ReadsAs head.record_type message (behind + 10) head.len r.rdata
data_behind message place behind head r end there owner at =
    let ends = owner_end message place behind r end owner at in
    let count = count_there message place behind r end owner at in
    let kind : type_of r.rdata ≡ head.record_type = type_once message behind (type_of r.rdata) head.record_type at.type_end (behind + 2) (subst (λ (p : ℕ). RecordTypeAt message p (type_of r.rdata) at.type_end) ends at.record_type) there.type_there in
    let octets = stands_same message (behind + 8) (octets_16 at.len) (octets_16 head.len) at.first (behind + 10) refl (subst (λ (p : ℕ). Stands message p (octets_16 at.len) at.first) count.0 at.count) there.len_there in
    let len : at.len ≡ head.len = number_once at.len head.len at.small_len there.small_len octets.0 in
    subst (λ (n : ℕ). ReadsAs head.record_type message (behind + 10) n r.rdata) len
    (subst (λ (p : ℕ). ReadsAs head.record_type message p at.len r.rdata) count.1
    (subst (λ (t : RecordType). ReadsAs t message at.first at.len r.rdata) kind at.rdata))

-- Four numbers, one behind the other, are a head.
pub head_whole : (message types classes times : List ℕ) (place a b d end : ℕ) (t : RecordType) (k : DNSClass) (ttl len : ℕ) → types ≡ message → classes ≡ types → times ≡ classes → RecordTypeAt message place t a → ClassAt types a k b → Stands classes b (octets_32 ttl) d → Stands times d (octets_16 len) end → ttl < 2 ^ 32 → len < 2 ^ 16 → HeadAt message place (record { record_type = t; dns_class = k; ttl = ttl; len = len }) × (end ≡ place + 10)
head_whole message types classes times place a b d end t k ttl len same again whole kind class time count few small =
    let first : a ≡ place + 2 = kind.there.behind in
    let second : b ≡ place + 4 = omega (arith, first, class.there.behind) in
    let third : d ≡ place + 8 = omega (arith, second, time.behind, length-octets_32 ttl) in
    let last : end ≡ place + 10 = omega (arith, third, count.behind) in (
      record {
        type_there = subst (λ (p : ℕ). RecordTypeAt message place t p) first kind;
        class_there = subst (λ (p : ℕ). ClassAt message (place + 2) k p) second
            (subst (λ (p : ℕ). ClassAt message p k b) first (subst (λ (m : List ℕ). ClassAt m a k b) same class));
        ttl_there = subst (λ (p : ℕ). Stands message (place + 4) (octets_32 ttl) p) third
            (subst (λ (p : ℕ). Stands message p (octets_32 ttl) d) second (subst (λ (m : List ℕ). Stands m b (octets_32 ttl) d) (again ∙ same) time));
        small_ttl = few;
        len_there = subst (λ (p : ℕ). Stands message (place + 8) (octets_16 len) p) last
            (subst (λ (p : ℕ). Stands message p (octets_16 len) end) third (subst (λ (m : List ℕ). Stands m d (octets_16 len) end) (whole ∙ again ∙ same) count));
        small_len = small;
      },
      last,
    )

-- Data that are refused behind a head.
pub lacks_data : (message same : List ℕ) (place at len : ℕ) (head : Head) (e : DecodeError) → same ≡ message → at ≡ place + 10 → len ≡ head.len → HeadAt message place head → (0 < len) × (WantsMemoryAs head.record_type same at len e ⊎ RefusesAs head.record_type same at len e) → RefusesBehind message place e
lacks_data message same place at len head e octets here count there why = inr (
    record {
      head = head;
      there = there;
      some = subst (λ (n : ℕ). 0 < n) count why.0;
      cause = subst (λ (n : ℕ). WantsMemoryAs head.record_type message (place + 10) n e ⊎ RefusesAs head.record_type message (place + 10) n e) count
          (subst (λ (p : ℕ). WantsMemoryAs head.record_type message p len e ⊎ RefusesAs head.record_type message p len e) here
          (subst (λ (m : List ℕ). WantsMemoryAs head.record_type m at len e ⊎ RefusesAs head.record_type m at len e) octets why.1));
    }
    )

-- Where no data stand behind a head, no record does.
pub none_behind : (message same : List ℕ) (behind at len : ℕ) (head : Head) (e : DecodeError) → same ≡ message → at ≡ behind + 10 → len ≡ head.len → HeadAt message behind head → IsWantOfMemory e ⊎ ((value : RData) → ReadsAs head.record_type same at len value → ⊥) → IsWantOfMemory e ⊎ ((place : ℕ) (r : Record) (end : ℕ) → NameAt message place r.name behind → RecordAt message place r end → ⊥)
none_behind message same behind at len head e octets here count there (inl memory) = inl memory
none_behind message same behind at len head e octets here count there (inr none) = inr (λ place r end owner found.
    none r.rdata
    (subst (λ (m : List ℕ). ReadsAs head.record_type m at len r.rdata) (sym octets)
    (subst (λ (p : ℕ). ReadsAs head.record_type message p len r.rdata) (sym here)
    (subst (λ (n : ℕ). ReadsAs head.record_type message (behind + 10) n r.rdata) (sym count) (data_behind message place behind head r end there owner found)))))

-- Where nothing of a record stands behind the owner, no record does.
pub none_record : (message same : List ℕ) (place behind : ℕ) (owner : DomainName) (e : DecodeError) → same ≡ message → NameAt message place owner behind → IsWantOfMemory e ⊎ ((start : ℕ) (r : Record) (end : ℕ) → NameAt same start r.name behind → RecordAt same start r end → ⊥) → IsWantOfMemory e ⊎ ((r : Record) (end : ℕ) → RecordAt message place r end → ⊥)
none_record message same place behind owner e octets there (inl memory) = inl memory
none_record message same place behind owner e octets there (inr none) = inr (λ r end found.
    let ends = name_once message place r.name owner found.owner_end behind found.owner there in
    none place r end
    (subst (λ (m : List ℕ). NameAt m place r.name behind) (sym octets) (subst (λ (p : ℕ). NameAt message place r.name p) ends.1 found.owner))
    (subst (λ (m : List ℕ). RecordAt m place r end) (sym octets) found))
