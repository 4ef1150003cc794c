-- What was read is written again, but for want of memory or of room.
use Rattle.std.proofs.Common.{ℕ, ◌<◌, ◌+◌, inl, inr, List, [], ◌∷◌, length, map, sym, subst, arith}
use Rattle.std.proofs.lemmas.List.Elements.{All-head, All-tail, All-nil}
use Rattle.std.specs.List.{All}
use Rattle.std.specs.Prelude.{Result, Ok, Err, IfOk}
use Rattle.drd_types.specs.dnw_codes.declared.error.DecodeError.{DecodeError}
use Rattle.drd_types.specs.dnw_codes.declared.error.ProtoError.{ProtoError}
use Rattle.drd_types.specs.dnw_codes.declared.record_type.RecordType.{RecordType}
use Rattle.drd_types.specs.dnw_codes.declared.record_type.RecordType.TheVariants as kind
use Rattle.drd_types.specs.dnw_encoder.State.{State}
use Rattle.drd_types.specs.drd_fields.Fields.{Field, octet, short, long, name, string, strings, rest, FieldAt, FieldsAt, StringsAt}
use Rattle.drd_types.specs.drd_fields.Writing.{HasLongString, HaveLongString, SomeTooLong, RefusesFields, fields_octets}
use Rattle.drd_types.specs.drd_opt.Entries.{Entry, FitsLengths, raw_of, entries_octets, HasLong}
use Rattle.drd_types.specs.dnw_codes.declared.error.ProtoError.TheVariants.{Message}
use Rattle.drd_types.specs.drd_opt.Options.{option_octets, IsLong}
use Rattle.drd_types.proofs.drd_opt_lemmas.FitLaws.{read_fit}
use Rattle.drd_svcb.specs.Fields.{svcb_fields}
use Rattle.drd_rdata.specs.Fields.{rdata_fields}
use Rattle.drd_rdata.specs.Reading.{RDataAt, HoldsAs, ReadsAs}
use Rattle.drd_rdata.specs.Writing.{RefusesRData, WantsRoom}
use Rattle.drd_rdata.specs.declared.rdata.RData.{RData}
use Rattle.drd_rdata.specs.declared.rdata.RData.TheVariants as rdata

short_strings : (message : List ℕ) (place : ℕ) (ss : List (List ℕ)) (end : ℕ) → StringsAt message place ss end → (e : ProtoError) → SomeTooLong ss e → ⊥
short_strings message place [] end there e big = big
short_strings message place (s ∷ ss) end there e (inl big) = omega (arith, there.1.few, big.1)
short_strings message place (s ∷ ss) end there e (inr big) = short_strings message there.0 ss end there.2 e big

-- A field that stands in a message has no string of more than 255 octets.
short_field : (message : List ℕ) (place : ℕ) (f : Field) (end : ℕ) → FieldAt message place f end → (e : ProtoError) → HasLongString f e → ⊥
short_field message place (octet n) end there e big = big
short_field message place (short n) end there e big = big
short_field message place (long n) end there e far = far
short_field message place (name n) end there e big = big
short_field message place (string s) end there e big = omega (arith, there.few, big.1)
short_field message place (strings ss) end there e big = short_strings message place ss end there e big
short_field message place (rest octets) end there e big = big

pub short_fields : (message : List ℕ) (place : ℕ) (fs : List Field) (end : ℕ) → FieldsAt message place fs end → (e : ProtoError) → HaveLongString fs e → ⊥
short_fields message place [] end there e big = big
short_fields message place (f ∷ fs) end there e (inl big) = short_field message place f there.0 there.1 e big
short_fields message place (f ∷ fs) end there e (inr big) = short_fields message there.0 fs end there.2 e big

room : (message : List ℕ) (place : ℕ) (fs : List Field) (end : ℕ) → FieldsAt message place fs end → (old : State) (e : ProtoError) → RefusesFields fs old e → WantsRoom old e
room message place fs end there old e (inl refused) = (length (fields_octets fs), refused)
room message place fs end there old e (inr big) = absurd (short_fields message place fs end there e big)

over : (octets : List ℕ) (e : ProtoError) → IsLong octets e → 65535 < length octets
over octets (Message words) big = big
over octets other big = absurd big

pub none_long : (entries : List Entry) (e : ProtoError) → All FitsLengths (map raw_of entries) → HasLong entries e → ⊥
none_long [] e fit big = big
none_long (x ∷ xs) e fit (inl big) = omega (arith, (All-head FitsLengths (raw_of x) (map raw_of xs) fit).octets, over (option_octets x.1) e big)
none_long (x ∷ xs) e fit (inr big) = none_long xs e (All-tail FitsLengths (raw_of x) (map raw_of xs) fit) big

none_string : (entries : List Entry) (old : State) (e : ProtoError) → RefusesFields (rest (entries_octets entries) ∷ []) old e → WantsRoom old e
none_string entries old e (inl refused) = (length (fields_octets (rest (entries_octets entries) ∷ [])), refused)
none_string entries old e (inr (inl big)) = absurd big
none_string entries old e (inr (inr big)) = absurd big

-- Data that stand somewhere are refused only for want of memory or of room.
holds_room : (message : List ℕ) (place : ℕ) (value : RData) (end : ℕ)
    → RDataAt message place value end → (old : State) (e : ProtoError) → RefusesRData value old e
    → WantsRoom old e
holds_room message place (rdata.CSYNC csync) end there old e (inl front) = (6, front)
holds_room message place (rdata.CSYNC csync) end there old e (inr whole) =
    (6 + length whole.0, whole.2)
holds_room message place (rdata.HTTPS https) end there old e refused =
    (length (fields_octets (svcb_fields https.0)), refused.read there.1)
holds_room message place (rdata.OPT opt) end there old e (inl size) =
    none_string opt.options.items old e size
holds_room message place (rdata.OPT opt) end there old e (inr big) =
    absurd
    (none_long opt.options.items e (read_fit there.octets opt.options.items there.holds) big)
holds_room message place (rdata.SVCB svcb) end there old e refused =
    (length (fields_octets (svcb_fields svcb)), refused.read there.1)
holds_room message place (rdata.Update0 code) end there old e refused = absurd refused
holds_room message place rdata.ZERO end there old e refused = absurd refused
holds_room message place value end there old e refused =
    room message place (rdata_fields value) end there.0 old e refused

pub read_room : (t : RecordType) (message : List ℕ) (place len : ℕ) (value : RData)
    → ReadsAs t message place len value → (old : State) (e : ProtoError)
    → RefusesRData value old e → WantsRoom old e
read_room kind.OPT message place len value (inl none) old e refused =
    elim (rw none.1.1 at refused) [
      | inl size ↦ none_string none.1.0.options.items old e size
      | inr big ↦ absurd
          (none_long none.1.0.options.items e
          (subst (λ (es : List Entry). All FitsLengths (map raw_of es)) (sym none.1.2)
          (All-nil FitsLengths)) big)
    ]
read_room t message place len value (inr some) old e refused =
    holds_room message place value (place + len) some.1.1 old e refused
read_room t message place len value (inl none) old e refused = absurd (rw none.1 at refused)

pub ok_room : (t : RecordType) (message : List ℕ) (place len : ℕ) (r : Result RData DecodeError)
    → IfOk r (λ value. HoldsAs t message place value (place + len))
    → IfOk r (λ value. (old : State) (e : ProtoError) → RefusesRData value old e
    → WantsRoom old e)
ok_room t message place len (Ok value) held =
    λ old e refused. holds_room message place value (place + len) held.1 old e refused
ok_room t message place len (Err e) held = held
