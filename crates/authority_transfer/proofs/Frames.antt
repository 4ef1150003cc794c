-- A transfer without its last record.
use Rattle.std.proofs.Common.{◌≡◌, ◌∙◌, refl, sym, ap, subst}
use Rattle.std.specs.Prelude.{Bool, true, false, not, ◌&&◌, List, [], ◌∷◌, ◌++◌, Option, Some, None, cond}
use Rattle.std.specs.List.{filter}
use Rattle.zsv_message.specs.zst_record.dnw_codes.DNSClass.{same_class}
use Rattle.zsv_message.specs.zst_record.dnw_codes.declared.dns_class.DNSClass.{DNSClass}
use Rattle.zsv_message.specs.zst_record.dnw_codes.declared.record_type.RecordType.{RecordType}
use Rattle.zsv_message.specs.zst_record.dnw_codes.declared.record_type.RecordType.TheVariants as kind
use Rattle.zsv_message.specs.zst_record.dnw_codes.RecordType.{same_record_type}
use Rattle.zsv_message.specs.zst_record.dnw_name.DomainName.{DomainName, name_eq}
use Rattle.zsv_message.specs.zst_record.drd_rdata.Order.{rdata_eq}
use Rattle.zsv_message.specs.zst_record.drd_rdata.Types.{type_of}
use Rattle.zsv_message.specs.zst_record.declared.records.Record.{Record}
use Rattle.zsv_message.specs.zst_record.Records.{record_eq}
use Rattle.zsv_message.specs.zst_record.RecordLaws.{class_equiv, name_eq_equiv}
use Rattle.zsv_message.specs.zst_record.RecordSets.{RRset}
use Rattle.drd_record_data.specs.drd_rdata.OrderLaws.{rdata_equiv}
use Rattle.authority_load.specs.Joining.{is_of}
use Rattle.authority_load.specs.zst_zone.zst_handler.Answers.{sets_shown}
use Rattle.authority_load.specs.zst_zone.zst_handler.Zones.{Zone, rrset_at}
use Rattle.authority_transfer.specs.Alike.{AllSame, IsSameRecord}
use Rattle.authority_load.specs.zst_zone.zst_request.Transfers.{between_soas, is_start, transfer_of, without_start}
use Rattle.authority_load.specs.zst_zone.zst_request.Transfers.{axfr_records as others_of}
use Rattle.authority_transfer.specs.Transfers.{begins_with, but_last, is_framed, last_of}

-- ---- the last record
pub last_pushed : (r : Record) (rs : List Record) (x : Record) → last_of r (rs ++ x ∷ []) ≡ x
last_pushed r [] x = refl
last_pushed r (s ∷ rs) x = last_pushed s rs x

pub but_pushed : (rs : List Record) (x : Record) → but_last (rs ++ x ∷ []) ≡ rs
but_pushed [] x = refl
but_pushed (r ∷ []) x = refl
but_pushed (r ∷ s ∷ rs) x = ap (λ (ys : List Record). r ∷ ys) (but_pushed (s ∷ rs) x)

abbrev pub first_in : List Record → Option Record
first_in [] = None
first_in (r ∷ rs) = Some r

-- With the last one apart.
pub framed_pushed : (origin : DomainName) (rs : List Record) (x : Record) → begins_with origin (first_in rs) x ≡ is_framed origin (rs ++ x ∷ [])
framed_pushed origin [] x = refl
framed_pushed origin (r ∷ []) x = refl
framed_pushed origin (r ∷ s ∷ rs) x = ap (begins_with origin (Some r)) (sym (last_pushed s rs x))

-- ---- what is sent of a zone but for the last SOA
abbrev pub records_if : Option RRset → List Record
records_if None = []
records_if (Some set) = set.records

abbrev pub start_records : Zone → List Record
start_records zone = records_if (rrset_at zone.sets zone.origin kind.SOA)

abbrev pub axfr_records : DomainName → Bool → List RRset → List Record
axfr_records origin dnssec_ok sets = filter (λ r. not (is_of origin kind.SOA r)) (sets_shown dnssec_ok sets)

abbrev pub behind_start : List Record → List Record → List Record
behind_start [] others = []
behind_start (r ∷ rs) others = (r ∷ rs) ++ others

abbrev pub sent_of : Zone → Bool → List Record
sent_of zone dnssec_ok =
    behind_start (start_records zone) (axfr_records zone.origin dnssec_ok zone.sets)

and_turned : (a b : Bool) → (a && b) ≡ (b && a)
and_turned true true = refl
and_turned true false = refl
and_turned false true = refl
and_turned false false = refl

same_filter : (origin : DomainName) (rs : List Record) → without_start origin rs ≡ filter (λ r. not (is_of origin kind.SOA r)) rs
same_filter origin [] = refl
same_filter origin (r ∷ rs) =
    ap (λ (b : Bool). cond (not b) (r ∷ without_start origin rs) (without_start origin rs)) (and_turned (same_record_type (type_of r.rdata) kind.SOA) (name_eq origin r.name))
    ∙ ap (λ (ys : List Record). cond (not (is_of origin kind.SOA r)) (r ∷ ys) ys) (same_filter origin rs)

-- A zone whose SOA is one record.
pub record Begins (zone : Zone) (dnssec_ok : Bool) (x : Record) : Type 0 where
  pub sends : transfer_of zone dnssec_ok ≡ x ∷ (axfr_records zone.origin dnssec_ok zone.sets ++ x ∷ [])
  pub before : but_last (transfer_of zone dnssec_ok) ≡ sent_of zone dnssec_ok
  pub last : (r : Record) (rs : List Record) → transfer_of zone dnssec_ok ≡ r ∷ rs → last_of r rs ≡ x

pub begins : (zone : Zone) (dnssec_ok : Bool) (start : RRset) (x : Record) → rrset_at zone.sets zone.origin kind.SOA ≡ Some start → start.records ≡ x ∷ [] → Begins zone dnssec_ok x
begins zone dnssec_ok start x e one =
    let others = axfr_records zone.origin dnssec_ok zone.sets in
    let all : transfer_of zone dnssec_ok ≡ x ∷ (others ++ x ∷ []) =
    ap (λ (o : Option RRset). between_soas o (others_of zone.origin dnssec_ok zone.sets)) e
    ∙ ap (λ (rs : List Record). rs ++ (others_of zone.origin dnssec_ok zone.sets ++ rs)) one
    ∙ ap (λ (rs : List Record). x ∷ (rs ++ x ∷ [])) (same_filter zone.origin (sets_shown dnssec_ok zone.sets)) in
    let sent : sent_of zone dnssec_ok ≡ x ∷ others =
    ap (λ (o : Option RRset). behind_start (records_if o) others) e ∙ ap (λ (rs : List Record). behind_start rs others) one in
    record {
      sends = all;
      before = ap but_last all ∙ but_pushed (x ∷ others) x ∙ sym sent;
      last = λ r rs f.
          let g : r ∷ rs ≡ x ∷ (others ++ x ∷ []) = sym f ∙ all in
          let h : r ≡ x = cc g in
          let t : rs ≡ others ++ x ∷ [] = cc g in
          ap (λ (y : Record). last_of y rs) h ∙ ap (last_of x) t ∙ last_pushed x others x;
    }

-- ---- records that are the same
pub last_same : (r s : Record) (rs ss : List Record) → IsSameRecord r s → AllSame IsSameRecord rs ss → IsSameRecord (last_of r rs) (last_of s ss)
last_same r s [] [] first same = first
last_same r s [] (y ∷ ss) first same = absurd same
last_same r s (x ∷ rs) [] first same = absurd same
last_same r s (x ∷ rs) (y ∷ ss) first same = last_same x y rs ss same.0 same.1

pub but_same : (rs ss : List Record) → AllSame IsSameRecord rs ss → AllSame IsSameRecord (but_last rs) (but_last ss)
but_same [] [] same = tt
but_same [] (s ∷ ss) same = absurd same
but_same (r ∷ rs) [] same = absurd same
but_same (r ∷ []) (s ∷ []) same = tt
but_same (r ∷ []) (s ∷ u ∷ ss) same = absurd same.1
but_same (r ∷ t ∷ rs) (s ∷ []) same = absurd same.1
but_same (r ∷ t ∷ rs) (s ∷ u ∷ ss) same = (same.0, but_same (t ∷ rs) (u ∷ ss) same.1)

two_true : (a b : Bool) → a ≡ true → b ≡ true → (a && b) ≡ true
two_true a b e f = rw (e, f) refl

three_true : (a b c : Bool) → a ≡ true → b ≡ true → c ≡ true → (a && (b && c)) ≡ true
three_true a b c e f g = rw (e, f, g) refl

-- What is the same as one record is equal.
pub both_same : (x r s : Record) → IsSameRecord x r → IsSameRecord x s → record_eq r s ≡ true
both_same x r s first second =
    let owner : name_eq r.name s.name ≡ true = ap (λ (n : DomainName). name_eq n s.name) (sym first.name) ∙ ap (name_eq x.name) (sym second.name) ∙ name_eq_equiv.refl x.name in
    let class : same_class r.dns_class s.dns_class ≡ true = ap (λ (c : DNSClass). same_class c s.dns_class) (sym first.dns_class) ∙ ap (same_class x.dns_class) (sym second.dns_class) ∙ class_equiv.refl x.dns_class in
    let data_same : rdata_eq r.rdata s.rdata ≡ true = sym (rdata_equiv.congr x.rdata r.rdata s.rdata first.rdata) ∙ second.rdata in
    three_true (name_eq r.name s.name) (same_class r.dns_class s.dns_class) (rdata_eq r.rdata s.rdata) owner class data_same

start_same : (origin : DomainName) (r s : Record) → IsSameRecord r s → is_start origin r ≡ true → is_start origin s ≡ true
start_same origin r s same is =
    ap (λ (t : RecordType). same_record_type t kind.SOA && name_eq origin s.name) (sym same.of_type)
    ∙ ap (λ (n : DomainName). same_record_type (type_of r.rdata) kind.SOA && name_eq origin n) (sym same.name) ∙ is

-- A transfer that is read is framed as it was sent.
pub framed_same : (origin : DomainName) (x : Record) (others rs : List Record) → is_start origin x ≡ true → AllSame IsSameRecord (x ∷ (others ++ x ∷ [])) rs → is_framed origin rs ≡ true
framed_same origin x others [] is same = absurd same
framed_same origin x others (r ∷ []) is same = no_more others same.1
  where
    no_more : (ys : List Record) → AllSame IsSameRecord (ys ++ x ∷ []) [] → is_framed origin (r ∷ []) ≡ true
    no_more [] h = absurd h
    no_more (y ∷ ys) h = absurd h
framed_same origin x others (r ∷ s ∷ rs) is same =
    let start = start_same origin x r same.0 is in
    let end : IsSameRecord x (last_of s rs) = at_end others same.1 in
    let equal = both_same x r (last_of s rs) same.0 end in
    two_true (is_start origin r) (record_eq r (last_of s rs)) start equal
  where
    at_end : (ys : List Record) → AllSame IsSameRecord (ys ++ x ∷ []) (s ∷ rs) → IsSameRecord x (last_of s rs)
    at_end [] h = last_same x s [] rs h.0 h.1
    at_end (y ∷ ys) h = subst (λ (z : Record). IsSameRecord z (last_of s rs)) (last_pushed y ys x) (last_same y s (ys ++ x ∷ []) rs h.0 h.1)
