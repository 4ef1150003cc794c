-- Records whose names point to the name of a message's first question.
use Rattle.std.proofs.Common.{◌≡◌, ◌+◌, ◌^◌, ◌<◌, ◌≤◌, inl, inr, ℕ, List, ◌++◌, length, length-append, subst, arith}
use Rattle.zst_record.specs.dnw_codes.DNSClass.{class_number}
use Rattle.zst_record.specs.dnw_codes.RecordType.{record_type_number}
use Rattle.zst_record.specs.dnw_decoder.Octets.{octets_16, octets_32, Stands}
use Rattle.zst_record.proofs.dnw_decoder_lemmas.Standing.{length-octets_32, stands_split}
use Rattle.zst_record.specs.dnw_name.DomainName.{DomainName, IsDomainName, name_octets}
use Rattle.zst_record.specs.drd_rdata.Exceeding.{ExceedsRdlength}
use Rattle.zst_record.specs.drd_rdata.Reading.{HoldsAs, IsReadable}
use Rattle.zst_record.specs.drd_rdata.Types.{type_of}
use Rattle.zst_record.specs.drd_rdata.Writing.{written_octets}
use Rattle.zst_record.specs.drd_rdata.declared.rdata.RData.{RData}
use Rattle.zst_record.proofs.Emission.{IsOctets, octets_short}
use Rattle.zst_record.proofs.OwnCodes.{class_read, class_small, type_read, type_small}
use Rattle.zst_record.specs.Records.{ReadsBackAlone, RecordAt}
use Rattle.zst_record.specs.Writing.{head_numbers}
use Rattle.zst_record.specs.declared.records.Record.{Record}
use Rattle.zst_pointing.specs.Names.{PointsOwner, near_octets}
use Rattle.zst_pointing.specs.Pointing.{IsPointing, PutsPointing}
use Rattle.zst_pointing.proofs.NearNames.{near_size, near_stands, owner_size}

-- Data that can be read are these octets, so many, wherever they stand behind the name that is asked
-- for.
pub record HoldsBehind (asked : DomainName) (v : RData) (n : ℕ) (octets : List ℕ) : Type 0 where
  pub holds : IsReadable v → (message : List ℕ) (first place end : ℕ) → Stands message 12 (name_octets asked) first → first ≤ place
      → Stands message place octets end → HoldsAs (type_of v) message place v end
  pub short : ExceedsRdlength v → ⊥
  pub long : length octets ≡ n
  pub plain : n ≤ length (written_octets v)
  pub some : 0 < n
  pub few : n < 2 ^ 16

-- Those of an address do.
pub held : (asked : DomainName) (v : RData) (n : ℕ) (octets : List ℕ) → IsOctets v n octets → HoldsBehind asked v n octets
held asked v n octets is = record {
  holds = λ readable message first place end there before stands. is.holds message place end readable stands;
  short = λ far. octets_short v n octets is far;
  long = is.long;
  plain = omega (arith, is.written);
  some = is.some;
  few = is.few;
}

-- Behind the pointer stand type, class, time to live and the data behind their length.
abbrev pub pointing_octets : DomainName → Record → ℕ → List ℕ → List ℕ
pointing_octets asked r n own = near_octets asked r.name 0 ++ (head_numbers r ++ (octets_16 n ++ own))

pointing_size : (asked : DomainName) (r : Record) (n : ℕ) (own : List ℕ) → PointsOwner asked r.name → length own ≡ n → length (pointing_octets asked r n own) ≡ 12 + n
pointing_size asked r n own points long =
    omega (arith, owner_size asked r.name points, length-append (near_octets asked r.name 0) (head_numbers r ++ (octets_16 n ++ own)), length-append (head_numbers r) (octets_16 n ++ own), length-octets_32 r.ttl, long)

is_pointing : (asked : DomainName) (r : Record) (n : ℕ) (own : List ℕ) → IsDomainName asked → IsDomainName r.name → PointsOwner asked r.name → HoldsBehind asked r.rdata n own → r.ttl < 2 ^ 32 → IsPointing asked r (pointing_octets asked r n own)
is_pointing asked r n own is named points of small = record {
  there = by;
  owner = omega (arith, pointing_size asked r n own points of.long, of.plain);
  size = omega (arith, pointing_size asked r n own points of.long, of.plain, owner_size asked r.name points, near_size asked r.name 0 points.near);
}
  where
    by : ReadsBackAlone r → (message : List ℕ) (first place end : ℕ) → Stands message 12 (name_octets asked) first → first ≤ place
        → Stands message place (pointing_octets asked r n own) end → RecordAt message place r end
    by (inr far) message begun place end asked_there before there = absurd (of.short far)
    by (inl (own_head, readable)) message begun place end asked_there before there =
        let pointer = near_octets asked r.name 0 in
        let kind = octets_16 (record_type_number (type_of r.rdata)) in
        let class = octets_16 (class_number r.dns_class) in
        let head = head_numbers r in
        let two = owner_size asked r.name points in
        let owner = stands_split message place pointer (head ++ (octets_16 n ++ own)) end there in
        let behind = place + length pointer in
        let both = stands_split message behind head (octets_16 n ++ own) end owner.1 in
        let typed = stands_split message behind kind (class ++ octets_32 r.ttl) (behind + length head) both.0 in
        let classed = stands_split message (behind + length kind) class (octets_32 r.ttl) (behind + length head) typed.1 in
        let counted = stands_split message (behind + length head) (octets_16 n) own end both.1 in
        let first = behind + length head + length (octets_16 n) in
        let last : end ≡ first + n = omega (arith, counted.1.behind, of.long) in
        record {
          owner_end = behind;
          type_end = behind + length kind;
          class_end = behind + length kind + length class;
          ttl_end = behind + length head;
          first = first;
          len = n;
          owner = near_stands asked r.name 0 points.near is named own_head.owner message begun place behind asked_there before owner.0;
          record_type = record {
            number = record_type_number (type_of r.rdata);
            small = type_small (type_of r.rdata) own_head.own_type;
            there = typed.0;
            means = type_read (type_of r.rdata) own_head.own_type;
          };
          dns_class = record {
            number = class_number r.dns_class;
            small = class_small r.dns_class own_head.own_class;
            there = classed.0;
            means = class_read r.dns_class own_head.own_class;
          };
          ttl = classed.1;
          small_ttl = small;
          count = counted.0;
          small_len = of.few;
          rdata = inr (of.some, of.holds readable message begun first (first + n) asked_there (omega (arith, before)) (subst (λ (q : ℕ). Stands message first own q) last counted.1));
          filled = last;
        }

-- Such octets behind others.
pub puts_pointing : (asked : DomainName) (r : Record) (n : ℕ) (own old new : List ℕ) → IsDomainName asked → IsDomainName r.name → PointsOwner asked r.name → HoldsBehind asked r.rdata n own → r.ttl < 2 ^ 32 → new ≡ old ++ pointing_octets asked r n own → PutsPointing asked r old new
puts_pointing asked r n own old new is named points of small put = record {
  octets = pointing_octets asked r n own;
  put = put;
  is = is_pointing asked r n own is named points of small;
}
