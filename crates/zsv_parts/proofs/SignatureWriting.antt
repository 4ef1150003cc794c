-- The record of a signature that is written piece by piece.
use Rattle.std.proofs.Common.{◌≡◌, ℕ, ◌+◌, ◌^◌, ◌<◌, ◌≤◌, inl, inr, List, ◌++◌, length, length-append, refl, sym, ap, subst, ◌∙◌, arith}
use Rattle.dnw_codes.specs.DNSClass.{class_number}
use Rattle.dnw_codes.specs.RecordType.{record_type_number}
use Rattle.dnw_codes.specs.declared.error.ProtoError.{ProtoError}
use Rattle.dnw_codes.specs.declared.error.ProtoError.TheVariants.{MaxBufferSizeExceeded}
use Rattle.dnw_codes.specs.declared.record_type.RecordType.TheVariants as kind
use Rattle.dnw_encoder.specs.dnw_name.DomainName.{IsDomainName, name_octets}
use Rattle.dnw_encoder.specs.dnw_decoder.Octets.{octets_16, octets_32, Stands}
use Rattle.dnw_encoder.specs.Effects.{Sound, WritesOctets, IsRefusal}
use Rattle.dnw_encoder.specs.State.{State}
use Rattle.dnw_encoder.proofs.Laws.{puts_stands}
use Rattle.dnw_encoder.proofs.NameLaws.{name_stands}
use Rattle.dnw_encoder.proofs.dnw_decoder_lemmas.Standing.{length-octets_32, stands_split}
use Rattle.zsv_parts.specs.declared.tsig.Tsig.{Tsig}
use Rattle.zsv_parts.specs.declared.tsig.TsigRecord.{TsigRecord}
use Rattle.zsv_parts.specs.Signatures.{code_octets, octets_48, signed_of, signed_octets, time_octets, tsig_octets, EmitsTsig, IsTooLong, TsigAt}
use Rattle.zsv_parts.specs.SignatureRecords.{tsig_numbers, tsig_record_octets, EmitsTsigRecord, HasLongData, RefusesTsigRecord, TsigReadsBack, TsigRecordAt}
use Rattle.zsv_parts.proofs.TsigLaws.{length-octets_48}
use Rattle.zsv_parts.proofs.TsigWriting.{puts_then}

-- How many octets the data take: the name's, sixteen, and those of the MAC and of the other data.
pub tsig_size : (tsig : Tsig) → length (tsig_octets tsig) ≡ length (name_octets tsig.algorithm) + (16 + (length tsig.mac.items + length tsig.other.items))
tsig_size tsig =
    let mac = tsig.mac.items in
    let other = tsig.other.items in
    let times : length (time_octets tsig.time tsig.fudge mac) ≡ 10 + length mac
    = omega (arith, length-append (octets_48 tsig.time) (octets_16 tsig.fudge ++ (octets_16 (length mac) ++ mac)), length-octets_48 tsig.time) in
    omega (
      arith,
      length-append (name_octets tsig.algorithm) (signed_octets (signed_of tsig)),
      length-append (time_octets tsig.time tsig.fudge mac) (code_octets tsig.oid tsig.error other),
      times,
    )

pub numbers_size : (r : TsigRecord) (len : ℕ) → length (tsig_numbers r len) ≡ 10
numbers_size r len =
    omega (arith, length-append (octets_32 r.ttl) (octets_16 len), length-octets_32 r.ttl)

pub record_size : (r : TsigRecord) → length (tsig_record_octets r) ≡ length (name_octets r.name) + (10 + length (tsig_octets r.rdata))
record_size r =
    let n = length (tsig_octets r.rdata) in
    omega (
      arith,
      length-append (name_octets r.name) (tsig_numbers r n ++ tsig_octets r.rdata),
      length-append (tsig_numbers r n) (tsig_octets r.rdata),
      numbers_size r n,
    )

-- Where the data of a record that reads back stand behind its head, it stands there.
record_stands : (r : TsigRecord) (message : List ℕ) (place end : ℕ) → IsDomainName r.name → r.ttl < 2 ^ 32 → TsigReadsBack r → Stands message place (tsig_record_octets r) end
    → TsigAt message (place + length (name_octets r.name) + 10) (length (tsig_octets r.rdata)) r.rdata → TsigRecordAt message place r end
record_stands r message place end is small back there data_there =
    let n = length (tsig_octets r.rdata) in
    let kind_octets = octets_16 (record_type_number kind.TSIG) in
    let class_octets = octets_16 (class_number r.dns_class) in
    let ttl_octets = octets_32 r.ttl in
    let named = stands_split message place (name_octets r.name) (tsig_numbers r n ++ tsig_octets r.rdata) end there in
    let owner_end = place + length (name_octets r.name) in
    let headed = stands_split message owner_end (tsig_numbers r n) (tsig_octets r.rdata) end named.1 in
    let typed = stands_split message owner_end kind_octets (class_octets ++ (ttl_octets ++ octets_16 n)) (owner_end + length (tsig_numbers r n)) headed.0 in
    let classed = stands_split message (owner_end + 2) class_octets (ttl_octets ++ octets_16 n) (owner_end + length (tsig_numbers r n)) typed.1 in
    let timed = stands_split message (owner_end + 2 + 2) ttl_octets (octets_16 n) (owner_end + length (tsig_numbers r n)) classed.1 in
    let first : owner_end + length (tsig_numbers r n) ≡ owner_end + 10 = omega (arith, numbers_size r n) in
    record {
      owner_end = owner_end;
      type_end = owner_end + 2;
      class_end = owner_end + 2 + 2;
      ttl_end = owner_end + 2 + 2 + length ttl_octets;
      first = owner_end + 10;
      len = n;
      owner = name_stands message place r.name owner_end back.owner is named.0;
      record_type = record { number = record_type_number kind.TSIG; small = omega arith; there = typed.0; means = refl };
      dns_class = record { number = class_number r.dns_class; small = back.small_class; there = classed.0; means = sym back.dns_class };
      ttl = timed.0;
      small_ttl = small;
      count = subst (λ (q : ℕ). Stands message (owner_end + 2 + 2 + length ttl_octets) (octets_16 n) q) first timed.1;
      small_len = back.counted;
      rdata = data_there;
      filled = omega (arith, headed.1.behind, numbers_size r n);
    }

-- Owner, numbers and data, written one behind the other.
pub record_emitted : (r : TsigRecord) (len : ℕ) (old mid later new : State) → len ≡ length (tsig_octets r.rdata) → len < 2 ^ 16 → old.offset ≤ length old.octets → mid.offset ≤ length mid.octets → (Sound old → Sound later) →
    IsDomainName r.name → r.ttl < 2 ^ 32 → WritesOctets (name_octets r.name) old mid → WritesOctets (tsig_numbers r len) mid later → EmitsTsig r.rdata later new → EmitsTsigRecord r old new
record_emitted r len old mid later new counted small within then sound is ttl owner numbers data_written =
    let n = length (tsig_octets r.rdata) in
    let head : WritesOctets (tsig_numbers r n) mid later = subst (λ (k : ℕ). WritesOctets (tsig_numbers r k) mid later) counted numbers in
    let behind = puts_then (tsig_numbers r n) (tsig_octets r.rdata) mid later new then head data_written.exact in
    let all = puts_then (name_octets r.name) (tsig_numbers r n ++ tsig_octets r.rdata) old mid new within owner behind in
    let at : later.offset ≡ old.offset + length (name_octets r.name) + 10 = omega (arith, owner.offset, head.offset, numbers_size r n) in
    record {
      exact = all;
      fits = omega (arith, data_written.fits, head.modes.maximum, owner.modes.maximum);
      counted = omega (arith, counted, small);
      stays = λ begun back.
          let there = puts_stands (tsig_record_octets r) old new begun all in
          let data_there = data_written.stays (sound begun) back.algorithm back.time in
          record {
            of = λ message agrees. record_stands r message old.offset new.offset is ttl back (there.of message agrees)
                (subst (λ (p : ℕ). TsigAt message p n r.rdata) at (data_there.of message agrees));
          };
    }

-- A MAC, or other data, that 16 bits don't count make the data so.
pub mac_too_long : (r : TsigRecord) (e : ProtoError) → IsTooLong r.rdata.mac.items e → HasLongData r e
mac_too_long r e long = (omega (arith, long.1, tsig_size r.rdata), inl (inl long))

pub other_too_long : (r : TsigRecord) (e : ProtoError) → length r.rdata.mac.items < 2 ^ 16 → IsTooLong r.rdata.other.items e → HasLongData r e
other_too_long r e mac long = (omega (arith, long.1, tsig_size r.rdata), inl (inr (omega (arith, mac), long)))

-- The owner was refused, or the numbers, or the data.
pub owner_refused : (r : TsigRecord) (old : State) (e : ProtoError) → length (tsig_octets r.rdata) < 2 ^ 16 → IsRefusal old (length (name_octets r.name)) e → RefusesTsigRecord r old e
owner_refused r old e few (inl memory) = inl (few, inl memory)
owner_refused r old e few (inr refused) = inl (few, inr (refused.0, omega (arith, refused.1, record_size r)))

pub numbers_refused : (r : TsigRecord) (len : ℕ) (old mid : State) (e : ProtoError) → length (tsig_octets r.rdata) < 2 ^ 16 → WritesOctets (name_octets r.name) old mid → IsRefusal mid (length (tsig_numbers r len)) e → RefusesTsigRecord r old e
numbers_refused r len old mid e few owner (inl memory) = inl (few, inl memory)
numbers_refused r len old mid e few owner (inr refused) =
    inl (few, inr (refused.0 ∙ ap MaxBufferSizeExceeded owner.modes.maximum, omega (arith, refused.1, record_size r, numbers_size r len, owner.offset, owner.modes.maximum)))

pub data_refused : (r : TsigRecord) (len : ℕ) (old mid later : State) (e : ProtoError) → length (tsig_octets r.rdata) < 2 ^ 16 → WritesOctets (name_octets r.name) old mid → WritesOctets (tsig_numbers r len) mid later → IsRefusal later (length (tsig_octets r.rdata)) e → RefusesTsigRecord r old e
data_refused r len old mid later e few owner numbers (inl memory) = inl (few, inl memory)
data_refused r len old mid later e few owner numbers (inr refused) =
    inl (
      few,
      inr (
        refused.0 ∙ ap MaxBufferSizeExceeded (numbers.modes.maximum ∙ owner.modes.maximum),
        omega (arith, refused.1, record_size r, numbers_size r len, owner.offset, numbers.offset, numbers.modes.maximum, owner.modes.maximum),
      ),
    )
