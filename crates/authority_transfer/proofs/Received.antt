-- The answers of a message that is no update can be served.
use Rattle.std.proofs.Common.{inl, inr, ◌≡◌, ◌∙◌, ◌^◌, ◌<◌, ◌+◌, ℕ, ap, refl, subst, sym, arith}
use Rattle.std.proofs.lemmas.Bool.{true≢false}
use Rattle.std.specs.Prelude.{◌==◌, Bool, true, false, not, ◌&&◌, ◌||◌, cond, List, [], ◌∷◌, Option, Some, None, find, unwrap_or}
use Rattle.std.specs.List.{AllByRecursion, list_all}
use Rattle.zsv_message.specs.Messages.{IsMessage, Message, is_update}
use Rattle.zsv_message.specs.zst_record.Records.{IsOwnClass, IsOwnType, IsServable, RecordAt, belongs_to_message}
use Rattle.zsv_message.specs.zst_record.declared.records.Record.{Record}
use Rattle.zsv_message.specs.zst_record.dnw_codes.DNSClass.{class_number, class_of, named_classes}
use Rattle.zsv_message.specs.zst_record.dnw_codes.RecordType.{named_record_types, record_type_number, record_type_of, same_record_type}
use Rattle.zsv_message.specs.zst_record.dnw_codes.declared.dns_class.DNSClass.{DNSClass}
use Rattle.zsv_message.specs.zst_record.dnw_codes.declared.dns_class.DNSClass.TheVariants as class
use Rattle.zsv_message.specs.zst_record.dnw_codes.declared.record_type.RecordType.{RecordType}
use Rattle.zsv_message.specs.zst_record.dnw_codes.declared.record_type.RecordType.TheVariants as kind
use Rattle.zsv_message.specs.zst_record.drd_rdata.Reading.{IsEmptyOf, IsReadable, ReadsAs}
use Rattle.zsv_message.specs.zst_record.drd_rdata.Types.{is_update0, type_of}
use Rattle.zsv_message.specs.zst_record.drd_rdata.declared.rdata.RData.{RData}
use Rattle.zsv_message.specs.zsv_sections.Sections.{PlacedRecords, is_opt, is_signature, is_tsig, misplaced, past}
use Rattle.zsv_message.specs.zsv_parts.Headers.{header_of}
use Rattle.authority_transfer.proofs.RecordOnce.{NoOptions}

-- ---- types and classes of numbers
abbrev is_named : RecordType → Bool
is_named (kind.Unknown number) = false
is_named other = true

abbrev is_named_class : DNSClass → Bool
is_named_class (class.Unknown number) = false
is_named_class (class.OPT payload) = false
is_named_class other = true

both_true : (a b : Bool) → (a && b) ≡ true → (a ≡ true) × (b ≡ true)
both_true true b e = (refl, e)
both_true false b e = absurd (cc e)

no_name : (xs : List RecordType) (m n : ℕ) → list_all is_named xs ≡ true → kind.Unknown m ≡ unwrap_or (find (λ named. record_type_number named == n) xs) (kind.Unknown n) → m ≡ n
no_name [] m n all e = cc e
no_name (x ∷ xs) m n all e = by (record_type_number x == n) e (no_name xs m n (both_true (is_named x) (list_all is_named xs) all).1)
  where
    by : (b : Bool) → kind.Unknown m ≡ unwrap_or (cond b (Some x) (find (λ named. record_type_number named == n) xs)) (kind.Unknown n)
        → (kind.Unknown m ≡ unwrap_or (find (λ named. record_type_number named == n) xs) (kind.Unknown n) → m ≡ n) → m ≡ n
    by true h more = absurd (true≢false (sym (both_true (is_named x) (list_all is_named xs) all).0 ∙ ap is_named (sym h)))
    by false h more = more h

own_type : (t : RecordType) (n : ℕ) → n < 2 ^ 16 → t ≡ record_type_of n → IsOwnType t
own_type (kind.Unknown m) n small means =
    let same : m ≡ n = no_name named_record_types m n refl means in
    (subst (λ (k : ℕ). k < 2 ^ 16) (sym same) small, ap record_type_of same ∙ sym means)
own_type other n small means = tt

-- A class without a name is that of its number.
no_class : (xs : List DNSClass) (c : DNSClass) (n : ℕ) → list_all is_named_class xs ≡ true → is_named_class c ≡ false → c ≡ unwrap_or (find (λ named. class_number named == n) xs) (class.Unknown n) → c ≡ class.Unknown n
no_class [] c n all none e = e
no_class (x ∷ xs) c n all none e = by (class_number x == n) e (no_class xs c n (both_true (is_named_class x) (list_all is_named_class xs) all).1 none)
  where
    by : (b : Bool) → c ≡ unwrap_or (cond b (Some x) (find (λ named. class_number named == n) xs)) (class.Unknown n)
        → (c ≡ unwrap_or (find (λ named. class_number named == n) xs) (class.Unknown n) → c ≡ class.Unknown n) → c ≡ class.Unknown n
    by true h more = absurd (true≢false (sym (both_true (is_named_class x) (list_all is_named_class xs) all).0 ∙ ap is_named_class (sym h) ∙ none))
    by false h more = more h

own_class : (c : DNSClass) (n : ℕ) → n < 2 ^ 16 → c ≡ class_of n → IsOwnClass c
own_class (class.OPT payload) n small means =
    let h : class.OPT payload ≡ class.Unknown n = no_class named_classes (class.OPT payload) n refl refl means in
    absurd (cc h)
own_class (class.Unknown m) n small means =
    let h : class.Unknown m ≡ class.Unknown n = no_class named_classes (class.Unknown m) n refl refl means in
    let same : m ≡ n = cc h in
    (subst (λ (k : ℕ). k < 2 ^ 16) (sym same) small, ap class_of same ∙ sym means)
own_class other n small means = tt

-- ---- the place of a record
stays_out : (signed additional bad : Bool) (X : Type 0) (first second : X) (rest : Option X) → additional ≡ false → cond signed (Some first) (cond (not additional && bad) (Some second) rest) ≡ None → (bad ≡ false) × (rest ≡ None)
stays_out true additional bad X first second rest before e = absurd (cc e)
stays_out false true bad X first second rest before e = absurd (cc before)
stays_out false false true X first second rest before e = absurd (cc e)
stays_out false false false X first second rest before e = (refl, e)

none_bare : (opt root had bare update tsig : Bool) (X : Type 0) (a b c : X) → opt ≡ false → update ≡ false → cond (opt && not root) (Some a) (cond (opt && had) (Some b) (cond (bare && (not update || tsig)) (Some c) None)) ≡ None → bare ≡ false
none_bare true root had bare update tsig X a b c e f h = absurd (cc e)
none_bare false root had bare true tsig X a b c e f h = absurd (cc f)
none_bare false root had true false tsig X a b c e f h = absurd (cc h)
none_bare false root had false false tsig X a b c e f h = refl

of_zones : (t : RecordType) → (same_record_type t kind.OPT || (same_record_type t kind.TSIG || same_record_type t kind.SIG)) ≡ false → belongs_to_message t ≡ false
of_zones kind.OPT e = absurd (cc e)
of_zones kind.SIG e = absurd (cc e)
of_zones kind.TSIG e = absurd (cc e)
of_zones other e = refl

or_first : (a b : Bool) → (a || b) ≡ false → a ≡ false
or_first true b e = absurd (cc e)
or_first false b e = refl

-- Outside an update, before the additional section.
pub record IsPlain (r : Record) : Type 0 where
  pub zones : belongs_to_message (type_of r.rdata) ≡ false
  pub no_options : same_record_type (type_of r.rdata) kind.OPT ≡ false
  pub has : is_update0 r.rdata ≡ false

pub plain_there : (at : _) (r : Record) → misplaced at r ≡ None → at.is_additional ≡ false → at.is_update ≡ false → IsPlain r
plain_there at r may before asks =
    let out = stays_out at.is_signed at.is_additional (is_opt r || is_signature r) _ _ _ _ before may in
    let opt = or_first (is_opt r) (is_signature r) out.0 in
    record {
      zones = of_zones (type_of r.rdata) out.0;
      no_options = opt;
      has = none_bare (is_opt r) _ at.has_options (is_update0 r.rdata) at.is_update (is_tsig r) _ _ _ _ opt asks out.1;
    }

-- ---- one record
empty_data : (t : RecordType) (value : RData) → belongs_to_message t ≡ false → IsEmptyOf t value → is_update0 value ≡ true
empty_data kind.OPT value zones empty = absurd (cc zones)
empty_data other value zones empty = ap is_update0 empty

readable : (t : RecordType) (message : List ℕ) (first len : ℕ) (value : RData) → belongs_to_message t ≡ false → is_update0 value ≡ false → ReadsAs t message first len value → IsReadable value
readable t message first len value zones has (inl empty) = absurd (true≢false (sym (empty_data t value zones empty.1) ∙ has))
readable t message first len value zones has (inr holds) = record { message = message; place = first; end = first + len; some = omega (arith, holds.0); there = holds.1.1 }

-- A record that was read, outside an update and before the additional section.
pub record IsReceived (r : Record) : Type 0 where
  pub own_type : IsOwnType (type_of r.rdata)
  pub servable : IsServable r

read_received : (message : List ℕ) (place : ℕ) (r : Record) (end : ℕ) → RecordAt message place r end → IsPlain r → IsReceived r
read_received message place r end at plain =
    let own = own_type (type_of r.rdata) at.record_type.number at.record_type.small at.record_type.means in
    record {
      own_type = own;
      servable = record {
        alone = inl (
          record {
            owner = at.owner.full;
            own_type = own;
            own_class = own_class r.dns_class at.dns_class.number at.dns_class.small at.dns_class.means;
          },
          readable (type_of r.rdata) message at.first at.len r.rdata plain.zones plain.has at.rdata,
        );
        of_zones = plain.zones;
      };
    }

placed_received : (at : _) (message : List ℕ) (place : ℕ) (rs : List Record) (end : ℕ) → PlacedRecords at message place rs end → at.is_additional ≡ false → at.is_update ≡ false → AllByRecursion IsReceived rs
placed_received at message place [] end there before asks = tt
placed_received at message place (r ∷ rs) end (next, here, may, later) before asks =
    (read_received message place r next here (plain_there at r may before asks), placed_received (past at r) message next rs end later before asks)

placed_plain : (at : _) (message : List ℕ) (place : ℕ) (rs : List Record) (end : ℕ) → PlacedRecords at message place rs end → at.is_additional ≡ false → at.is_update ≡ false → NoOptions rs
placed_plain at message place [] end there before asks = tt
placed_plain at message place (r ∷ rs) end (next, here, may, later) before asks =
    ((plain_there at r may before asks).no_options, placed_plain (past at r) message next rs end later before asks)

-- ---- the message
pub answers_received : (octets : List ℕ) (m : Message) → IsMessage octets m → is_update (header_of octets).metadata.op_code ≡ false → AllByRecursion IsReceived m.answers
answers_received octets m is asks = placed_received _ octets is.questions_end m.answers is.answers_end is.answers.0 refl asks

pub answers_plain : (octets : List ℕ) (m : Message) → IsMessage octets m → is_update (header_of octets).metadata.op_code ≡ false → NoOptions m.answers
answers_plain octets m is asks = placed_plain _ octets is.questions_end m.answers is.answers_end is.answers.0 refl asks
