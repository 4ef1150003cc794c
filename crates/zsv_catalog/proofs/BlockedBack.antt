-- The records that are answered in place of a blocked name's read back.
use Rattle.std.proofs.Common.{inl, ◌≡◌, ◌<◌, ◌≤◌, ℕ, List, [], ◌∷◌, length, refl, subst, sym, arith}
use Rattle.std.proofs.lemmas.List.{length-append}
use Rattle.std.proofs.lemmas.List.Elements.{All-nil, All-cons}
use Rattle.std.specs.Prelude.{Bool, true, false, cond, Option, Some, None, IfSome, unwrap_or}
use Rattle.std.specs.List.{All, AllByRecursion}
use Rattle.std.specs.Net.Addr.{ipv4_bits}
use Rattle.std.specs.declared.net.ipv4_addr.Ipv4Addr.{Ipv4Addr}
use Rattle.std.specs.declared.net.ipv6_addr.Ipv6Addr.{Ipv6Addr}
use Rattle.drd_types.proofs.dnw_decoder_lemmas.Standing.{length-octets_32}
use Rattle.drd_types.proofs.drd_fields_lemmas.ReadableLaws.{in_own_octets}
use Rattle.drd_types.specs.dnw_decoder.Octets.{octets_32}
use Rattle.drd_types.specs.drd_fields.Fields.{Field, FieldsAt, strings}
use Rattle.drd_types.specs.drd_fields.Readable.{IsShort, StandAlone}
use Rattle.drd_types.specs.drd_fields.Writing.{fields_octets}
use Rattle.drd_types.specs.drd_plain.Fields.{txt_fields, txt_strings}
use Rattle.drd_types.specs.drd_plain.declared.txt.TXT.{TXT}
use Rattle.zsv_answer.specs.zst_request.Blocking.{AreBlocked, BlockedAnswer, IsMessage, IsText, blocked_answer, is_blocked, sinkhole, unspecified_ipv4, unspecified_ipv6}
use Rattle.zsv_answer.specs.zst_request.Views.{Blocklist}
use Rattle.zsv_answer.specs.zst_request.dnw_codes.declared.dns_class.DNSClass.TheVariants.{IN}
use Rattle.zsv_answer.specs.zst_request.dnw_codes.declared.record_type.RecordType.{RecordType}
use Rattle.zsv_answer.specs.zst_request.dnw_codes.declared.record_type.RecordType.TheVariants as kind
use Rattle.zsv_answer.specs.zst_request.dnw_codes.RecordType.{same_record_type}
use Rattle.zsv_answer.specs.zst_request.dnw_name.DomainName.{DomainName, lowercase_name}
use Rattle.zsv_answer.specs.zsv_reply.drd_rdata.Fields.{rdata_fields}
use Rattle.zsv_answer.specs.zsv_reply.drd_rdata.Reading.{IsReadable, RDataAt}
use Rattle.zsv_answer.specs.zsv_reply.drd_rdata.declared.rdata.RData.{RData}
use Rattle.zsv_answer.specs.zsv_reply.drd_rdata.declared.rdata.RData.TheVariants as rdata
use Rattle.zsv_answer.specs.zsv_reply.zst_record.Records.{IsOwnClass, IsServable, record_with}
use Rattle.zsv_answer.specs.zsv_reply.zst_record.declared.records.Record.{Record}

-- Fields that stand alone, and take octets, are read from these.
from_fields : (value : RData) (fs : List Field) → ((message : List ℕ) (place end : ℕ) → FieldsAt message place fs end → RDataAt message place value end) → 0 < length (fields_octets fs) → StandAlone fs → IsReadable value
from_fields value fs there some alone = record {
  message = fields_octets fs;
  place = 0;
  end = length (fields_octets fs);
  some = some;
  there = there (fields_octets fs) 0 (length (fields_octets fs)) (in_own_octets fs alone);
}

-- ---- the address
address_read : (ip : Ipv4Addr) → IsReadable (rdata.A (record { 0 = ip }))
address_read ip =
    from_fields (rdata.A (record { 0 = ip })) (rdata_fields (rdata.A (record { 0 = ip }))) (λ m p e there. (there, tt))
    (omega (arith, length-append (octets_32 (ipv4_bits ip)) [], length-octets_32 (ipv4_bits ip))) (tt, tt)

wide_read : (ip : Ipv6Addr) → IsReadable (rdata.AAAA (record { 0 = ip }))
wide_read ip =
    from_fields (rdata.AAAA (record { 0 = ip })) (rdata_fields (rdata.AAAA (record { 0 = ip }))) (λ m p e there. (there, tt)) (omega arith) (tt, (tt, (tt, (tt, (tt, (tt, (tt, (tt, tt))))))))

sunk_back : (owner : DomainName) (ttl : ℕ) (ip : Ipv4Addr) (wide : Ipv6Addr) (b : Bool) → owner.fqdn ≡ true → IsServable (record_with owner IN ttl (cond b (rdata.AAAA (record { 0 = wide })) (rdata.A (record { 0 = ip }))))
sunk_back owner ttl ip wide true full = record { alone = inl (record { owner = full; own_type = tt; own_class = tt }, wide_read wide); of_zones = refl }
sunk_back owner ttl ip wide false full = record { alone = inl (record { owner = full; own_type = tt; own_class = tt }, address_read ip); of_zones = refl }

-- ---- the message
-- The owner is fully qualified, and the class that of its number.
abbrev HasHead : Record → Type 0
HasHead r = (r.name.fqdn ≡ true) × IsOwnClass r.dns_class

text_read : (octets : List ℕ) (txt : TXT) → txt_strings txt ≡ octets ∷ [] → length octets ≤ 255 → IsReadable (rdata.TXT txt)
text_read octets txt is short =
    from_fields (rdata.TXT txt) (txt_fields txt) (λ m p e there. (there, tt))
    (subst (λ (ss : List (List ℕ)). 0 < length (fields_octets (strings ss ∷ []))) (sym is) (omega arith))
    (subst (λ (ss : List (List ℕ)). All IsShort ss) (sym is) (All-cons IsShort octets [] short (All-nil IsShort)), tt)

message_back : (r : Record) (octets : List ℕ) (value : RData) → HasHead r → IsText octets value → length octets ≤ 255 → IsServable (record r { rdata = value })
message_back r octets (rdata.TXT txt) head is short = record { alone = inl (record { owner = head.0; own_type = tt; own_class = head.1 }, text_read octets txt is short); of_zones = refl }
message_back r octets other head is short = absurd is

later_back : (address : Record) (message : Option (List ℕ)) (rs : List Record) → HasHead address → IfSome message (λ octets. length octets ≤ 255) → IsMessage address message rs → AllByRecursion IsServable rs
later_back address None rs head short is = subst (AllByRecursion IsServable) (sym is) tt
later_back address (Some octets) rs head short (value, is, text) =
    subst (AllByRecursion IsServable) (sym is) (message_back address octets value head text short, tt)

-- ---- both
-- What is answered in place of a blocked name can be read.
pub record AnswerReadsBack (answer : BlockedAnswer) : Type 0 where
  pub address : IsServable answer.address
  pub head : HasHead answer.address
  pub message : IfSome answer.message (λ octets. length octets ≤ 255)

abbrev in_place_of : Blocklist → DomainName → RecordType → BlockedAnswer
in_place_of blocklist name t = record { address = record_with (lowercase_name name) IN blocklist.ttl (sinkhole blocklist t); message = blocklist.block_message }

pub answer_back : (blocklist : Blocklist) (name : DomainName) (t : RecordType) → name.fqdn ≡ true → IfSome blocklist.block_message (λ octets. length octets ≤ 255) → IfSome (blocked_answer blocklist name t) AnswerReadsBack
answer_back blocklist name t full short = by (is_blocked blocklist name)
  where
    by : (b : Bool) → IfSome (cond b (Some (in_place_of blocklist name t)) None) AnswerReadsBack
    by true = record {
      address = sunk_back (lowercase_name name) blocklist.ttl (unwrap_or blocklist.sinkhole_ipv4 unspecified_ipv4) (unwrap_or blocklist.sinkhole_ipv6 unspecified_ipv6) (same_record_type t kind.AAAA) full;
      head = (full, tt);
      message = short;
    }
    by false = tt

pub records_back : (answer : BlockedAnswer) (rs : List Record) → AnswerReadsBack answer → AreBlocked answer rs → AllByRecursion IsServable rs
records_back answer rs back are =
    subst (AllByRecursion IsServable) (sym are.address) (back.address, later_back answer.address answer.message are.later back.head back.message are.message)
