-- Records of a message that was read, outside its additional section, are servable if an update adds them.
use Rattle.std.proofs.Common.{inl, inr, ◌≡◌, ◌∙◌, ◌^◌, ◌<◌, ℕ, ap, refl, subst, sym, arith}
use Rattle.std.proofs.lemmas.Bool.{true≢false}
use Rattle.std.specs.Prelude.{◌==◌, ◌+◌, Bool, true, false, not, ◌&&◌, ◌||◌, cond, List, [], ◌∷◌, Option, Some, None, find, unwrap_or}
use Rattle.std.specs.List.{list_all}
use Rattle.zsv_chains.specs.zst_request.dnw_codes.RecordType.{named_record_types, record_type_number, record_type_of, same_record_type}
use Rattle.zsv_chains.specs.zst_request.dnw_codes.declared.record_type.RecordType.{RecordType}
use Rattle.zsv_chains.specs.zst_request.dnw_codes.declared.record_type.RecordType.TheVariants as kind
use Rattle.zsv_chains.specs.zst_request.drd_rdata.Reading.{IsEmptyOf, IsReadable, ReadsAs}
use Rattle.zsv_chains.specs.zst_request.drd_rdata.Types.{is_update0, type_of}
use Rattle.zsv_chains.specs.zst_request.drd_rdata.declared.rdata.RData.{RData}
use Rattle.zsv_chains.specs.zst_request.zst_record.Records.{IsOwnClass, IsOwnType, RecordAt, belongs_to_message}
use Rattle.zsv_chains.specs.zst_request.zst_record.declared.records.Record.{Record}
use Rattle.zsv_reply.specs.zsv_message.Messages.{IsMessage, Message}
use Rattle.zsv_reply.specs.zsv_message.Sections.{PlacedRecords, is_opt, is_signature, misplaced, past}
use Rattle.zsv_update.specs.ReadingBack.{AdditionsAreServable, IsServableIfAdded}

-- ---- the type of a number
-- A number without a name is read as itself.
abbrev is_named : RecordType → Bool
is_named (kind.Unknown number) = false
is_named other = true

both_true : (a b : Bool) → (a && b) ≡ true → (a ≡ true) × (b ≡ true)
both_true true b e = (refl, e)
both_true false b e = absurd (cc e)

no_name : (xs : List RecordType) (m n : ℕ) → list_all is_named xs ≡ true → kind.Unknown m ≡ unwrap_or (find (λ named. record_type_number named == n) xs) (kind.Unknown n) → m ≡ n
no_name [] m n all e = cc e
no_name (x ∷ xs) m n all e = by (record_type_number x == n) e (no_name xs m n (both_true (is_named x) (list_all is_named xs) all).1)
  where
    by : (b : Bool) → kind.Unknown m ≡ unwrap_or (cond b (Some x) (find (λ named. record_type_number named == n) xs)) (kind.Unknown n)
        → (kind.Unknown m ≡ unwrap_or (find (λ named. record_type_number named == n) xs) (kind.Unknown n) → m ≡ n) → m ≡ n
    by true h more = absurd (true≢false (sym (both_true (is_named x) (list_all is_named xs) all).0 ∙ ap is_named (sym h)))
    by false h more = more h

own_type : (t : RecordType) (n : ℕ) → n < 2 ^ 16 → t ≡ record_type_of n → IsOwnType t
own_type (kind.Unknown m) n small means =
    let same : m ≡ n = no_name named_record_types m n refl means in
    (subst (λ (k : ℕ). k < 2 ^ 16) (sym same) small, ap record_type_of same ∙ sym means)
own_type other n small means = tt

-- ---- the place of a record
stays_out : (signed additional bad : Bool) (X : Type 0) (first second : X) (rest : Option X) → additional ≡ false → cond signed (Some first) (cond (not additional && bad) (Some second) rest) ≡ None → bad ≡ false
stays_out true additional bad X first second rest before e = absurd (cc e)
stays_out false true bad X first second rest before e = absurd (cc before)
stays_out false false true X first second rest before e = absurd (cc e)
stays_out false false false X first second rest before e = refl

of_zones : (t : RecordType) → (same_record_type t kind.OPT || (same_record_type t kind.TSIG || same_record_type t kind.SIG)) ≡ false → belongs_to_message t ≡ false
of_zones kind.OPT e = absurd (cc e)
of_zones kind.SIG e = absurd (cc e)
of_zones kind.TSIG e = absurd (cc e)
of_zones other e = refl

-- Options and signatures stand among the additional records alone.
before_additional : (at : _) (r : Record) → misplaced at r ≡ None → at.is_additional ≡ false → belongs_to_message (type_of r.rdata) ≡ false
before_additional at r may before = of_zones (type_of r.rdata) (stays_out at.is_signed at.is_additional (is_opt r || is_signature r) _ _ _ _ before may)

-- ---- one record
empty_data : (t : RecordType) (value : RData) → belongs_to_message t ≡ false → IsEmptyOf t value → is_update0 value ≡ true
empty_data kind.OPT value zones empty = absurd (cc zones)
empty_data other value zones empty = ap is_update0 empty

readable : (t : RecordType) (message : List ℕ) (first len : ℕ) (value : RData) → belongs_to_message t ≡ false → not (is_update0 value) ≡ true → ReadsAs t message first len value → IsReadable value
readable t message first len value zones has (inl empty) = absurd (true≢false (sym has ∙ ap not (empty_data t value zones empty.1)))
readable t message first len value zones has (inr holds) = record { message = message; place = first; end = first + len; some = omega (arith, holds.0); there = holds.1.1 }

read_servable : (message : List ℕ) (place : ℕ) (r : Record) (end : ℕ) → RecordAt message place r end → belongs_to_message (type_of r.rdata) ≡ false → IsServableIfAdded r
read_servable message place r end at zones class has = record {
  alone = inl (
    record {
      owner = at.owner.full;
      own_type = own_type (type_of r.rdata) at.record_type.number at.record_type.small at.record_type.means;
      own_class = subst IsOwnClass (sym class) tt;
    },
    readable (type_of r.rdata) message at.first at.len r.rdata zones has at.rdata,
  );
  of_zones = zones;
}

placed_servable : (at : _) (message : List ℕ) (place : ℕ) (rs : List Record) (end : ℕ) → PlacedRecords at message place rs end → at.is_additional ≡ false → AdditionsAreServable rs
placed_servable at message place [] end there before = tt
placed_servable at message place (r ∷ rs) end (next, here, may, later) before =
    (read_servable message place r next here (before_additional at r may before), placed_servable (past at r) message next rs end later before)

-- ---- the message
-- What an update that was read adds is servable.
pub authorities_servable : (octets : List ℕ) (request : Message) → IsMessage octets request → AdditionsAreServable request.authorities
authorities_servable octets request is = placed_servable _ octets is.answers_end request.authorities is.authorities_end is.authorities.0 refl
