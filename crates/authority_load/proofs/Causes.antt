-- The causes of a refused line, in their order.
use Rattle.std.proofs.Common.{◌≡◌, refl, sym, ap, ◌∙◌, subst, ℕ, ◌+◌, ◌<◌, ◌≤◌, Bool, true, false, eqb, if◌then◌else◌, List, [], ◌∷◌, length, get_or, Option, Some, None, Result, Ok, Err, arith}
use Rattle.std.proofs.lemmas.Bool.{eqb-true, eqb-false, both_ways}
use Rattle.drd_record_data.specs.Numbers.{NumbersFit}
use Rattle.zst_zone.specs.dnw_codes.declared.record_type.RecordType.{RecordType}
use Rattle.authority_load.specs.declared.loader.LoadCause.{LoadCause}
use Rattle.authority_load.specs.declared.loader.LoadCause.TheVariants as causes
use Rattle.authority_load.specs.declared.text.TextError.{TextError}
use Rattle.authority_load.specs.declared.text.TextError.TheVariants as errors
use Rattle.zst_zone.specs.drd_rdata.declared.rdata.RData.{RData}
use Rattle.zst_zone.specs.drd_rdata.Types.{type_of}
use Rattle.zst_zone.specs.dnw_name.DomainName.{DomainName, is_at_or_below}
use Rattle.zst_zone.specs.dnw_codes.ProtoError.{IsMemory}
use Rattle.zst_zone.specs.dnw_codes.declared.error.ProtoError.{ProtoError}
use Rattle.std.specs.Prelude.{◌⊎◌, IfErr, IfOk}
use Rattle.std.proofs.Common.{inl, inr}
use Rattle.authority_load.specs.ZoneText.{ReadsText, TellsTextCause, DataGives}
use Rattle.zst_zone.specs.zst_handler.Zones.{Zone}
use Rattle.authority_load.specs.ZoneText.{words_of, data_text, field, IsOwnerText, IsTtlField, is_internet, type_of_text, AreData, IsDataText, StandsAt, NoneBefore, Stands, StandsFrom, cause_order, turn_from, with_cause, IsHeading, IsInside, IsTaken, MayJoin, RefusesValue, Heading, LineGives, record_at}
use Rattle.zst_zone.specs.zst_record.Records.{belongs_to_message}
use Rattle.zst_zone.specs.zst_record.declared.records.Record.{Record}
use Rattle.zst_zone.proofs.dnw_name_lemmas.TextLemmas.{name-same}

cause_at : ℕ → LoadCause
cause_at n =
    if eqb n 0 then causes.OutOfMemory else if eqb n 1 then causes.FieldCount else if eqb n 2 then causes.Owner
    else if eqb n 3 then causes.Ttl else if eqb n 4 then causes.Class else if eqb n 5 then causes.UnknownType
    else if eqb n 6 then causes.TypeNotLoaded else if eqb n 7 then causes.OutsideZone else if eqb n 8 then causes.Data
    else if eqb n 9 then causes.NotReadBack else if eqb n 10 then causes.BesideCname else causes.SecondSoa

at_turn : (cause : LoadCause) → cause_at (cause_order cause) ≡ cause
unfolding cause_at
at_turn causes.OutOfMemory = refl
at_turn causes.FieldCount = refl
at_turn causes.Owner = refl
at_turn causes.Ttl = refl
at_turn causes.Class = refl
at_turn causes.UnknownType = refl
at_turn causes.TypeNotLoaded = refl
at_turn causes.OutsideZone = refl
at_turn causes.Data = refl
at_turn causes.NotReadBack = refl
at_turn causes.BesideCname = refl
at_turn causes.SecondSoa = refl

pub same_turn : (a b : LoadCause) → cause_order a ≡ cause_order b → a ≡ b
same_turn a b e = sym (at_turn a) ∙ ap cause_at e ∙ at_turn b

pub none_first : (zone : Zone) (line : List ℕ) → NoneBefore zone line 1
none_first zone line = λ earlier above below stands. absurd (omega arith)

pub none_next : (zone : Zone) (line : List ℕ) (cause : LoadCause) → NoneBefore zone line (cause_order cause) → (StandsAt zone line cause → ⊥) → NoneBefore zone line (cause_order cause + 1)
none_next zone line cause before not_here = λ earlier above below stands. decided earlier above below stands (eqb (cause_order earlier) (cause_order cause)) refl
  where
    decided : (earlier : LoadCause) → 0 < cause_order earlier → cause_order earlier < cause_order cause + 1 → StandsAt zone line earlier → (b : Bool) → eqb (cause_order earlier) (cause_order cause) ≡ b → ⊥
    decided earlier above below stands true e = not_here (subst (StandsAt zone line) (same_turn earlier cause (eqb-true (cause_order earlier) (cause_order cause) e)) stands)
    decided earlier above below stands false e = before earlier above (omega (arith, eqb-false (cause_order earlier) (cause_order cause) e)) stands

-- What the first four words say rules out the causes before the seventh.
pub none_7 : (zone : Zone) (line : List ℕ) (h : Heading) → IsHeading line h → NoneBefore zone line 7
none_7 zone line h known =
    let counted : 4 ≤ length (words_of line) = known.count in
    let n2 : NoneBefore zone line 2 = none_next zone line causes.FieldCount (none_first zone line) (λ few. omega arith) in
    let n3 : NoneBefore zone line 3 = none_next zone line causes.Owner n2 (λ none. none h.name known.owner) in
    let n4 : NoneBefore zone line 4 = none_next zone line causes.Ttl n3 (λ none. none h.ttl known.ttl) in
    let n5 : NoneBefore zone line 5 = none_next zone line causes.Class n4 (λ wrong. both_ways (is_internet (field line 2)) wrong known.class_word) in
    let n6 : NoneBefore zone line 6 = none_next zone line causes.UnknownType n5 (λ unknown. let there = known.type_word in cc) in
    none_next zone line causes.TypeNotLoaded n6 (λ wrong.
    let both : Some wrong.0 ≡ Some h.record_type = sym wrong.1 ∙ known.type_word in
    let same : wrong.0 ≡ h.record_type = cc in
    both_ways (belongs_to_message h.record_type) known.loaded (sym (ap belongs_to_message same) ∙ wrong.2))

-- ---- a field that is read
pub field_read : {X : Type 0} (IsText : X → Type 0) (cause : LoadCause) (r : Result X TextError) (x : X) → ReadsText IsText r → with_cause cause r ≡ Ok x → IsText x
field_read IsText cause (Ok y) x reads e = let same : y ≡ x = cc in subst IsText same reads
field_read IsText cause (Err errors.Malformed) x reads e = absurd (cc)
field_read IsText cause (Err errors.OutOfMemory) x reads e = absurd (cc)

pub field_kept : {X : Type 0} (P : X → Type 0) (cause : LoadCause) (r : Result X TextError) (x : X) → IfOk r P → with_cause cause r ≡ Ok x → P x
field_kept P cause (Ok y) x keeps e = let same : y ≡ x = cc in subst P same keeps
field_kept P cause (Err errors.Malformed) x keeps e = absurd (cc)
field_kept P cause (Err errors.OutOfMemory) x keeps e = absurd (cc)

-- ---- a field that is not: its cause stands, unless memory was refused
none_until : (zone : Zone) (line : List ℕ) (n m : ℕ) → n ≤ m → NoneBefore zone line m → NoneBefore zone line n
none_until zone line n m le before = λ earlier above below stands. before earlier above (omega (arith, le, below)) stands

-- Out of memory at a turn is out of memory at an earlier one or later.
pub stands_since : (zone : Zone) (line : List ℕ) (n m : ℕ) (cause : LoadCause) → n ≤ m → StandsFrom m zone line cause → StandsFrom n zone line cause
stands_since zone line n m causes.OutOfMemory le stands = (tt, none_until zone line n m le stands.1)
stands_since zone line n m causes.FieldCount le stands = stands
stands_since zone line n m causes.Owner le stands = stands
stands_since zone line n m causes.Ttl le stands = stands
stands_since zone line n m causes.Class le stands = stands
stands_since zone line n m causes.UnknownType le stands = stands
stands_since zone line n m causes.TypeNotLoaded le stands = stands
stands_since zone line n m causes.OutsideZone le stands = stands
stands_since zone line n m causes.Data le stands = stands
stands_since zone line n m causes.NotReadBack le stands = stands
stands_since zone line n m causes.BesideCname le stands = stands
stands_since zone line n m causes.SecondSoa le stands = stands

pub field_refused : {X : Type 0} (IsText : X → Type 0) (zone : Zone) (line : List ℕ) (turn : ℕ) (cause : LoadCause) (r : Result X TextError) (e : LoadCause) → ReadsText IsText r → with_cause cause r ≡ Err e
    → (((x : X) → IsText x → ⊥) → StandsAt zone line cause) → NoneBefore zone line (turn_from turn cause) → turn ≤ turn_from turn cause → StandsFrom turn zone line e
field_refused IsText zone line turn cause (Ok y) e reads is stands before le = absurd (cc)
field_refused IsText zone line turn cause (Err errors.Malformed) e reads is stands before le = let same : cause ≡ e = cc in subst (StandsFrom turn zone line) same (stands reads, before)
field_refused IsText zone line turn cause (Err errors.OutOfMemory) e reads is stands before le =
    let same : causes.OutOfMemory ≡ e = cc in
    subst (StandsFrom turn zone line) same (tt, none_until zone line turn (turn_from turn cause) le before)

-- The time to live of a line with an owner is none.
pub ttl_refused : (zone : Zone) (line : List ℕ) (turn : ℕ) (owner ttl : List ℕ) (behind : List (List ℕ)) (name : DomainName) → words_of line ≡ owner ∷ ttl ∷ behind → 4 ≤ length (words_of line)
    → IsOwnerText owner name → ((n : ℕ) → IsTtlField ttl n → ⊥) → StandsFrom turn zone line causes.Ttl
ttl_refused zone line turn owner ttl behind name spelled counted owned none =
    let first : field line 0 ≡ owner = ap (λ ws. get_or ws 0 []) spelled in
    let second : field line 1 ≡ ttl = ap (λ ws. get_or ws 1 []) spelled in
    let n2 : NoneBefore zone line 2 = none_next zone line causes.FieldCount (none_first zone line) (λ few. omega arith) in
    let n3 : NoneBefore zone line 3 = none_next zone line causes.Owner n2 (λ no. no name (subst (λ w. IsOwnerText w name) (sym first) owned)) in
    (λ n known. none n (subst (λ w. IsTtlField w n) second known), n3)

-- The class of a line with an owner and a time to live is none that is known here, or its type is none.
abbrev IsLine : List ℕ → List ℕ → List ℕ → List ℕ → List ℕ → List (List ℕ) → Type 0
IsLine line owner ttl class type_word behind = words_of line ≡ owner ∷ ttl ∷ class ∷ type_word ∷ behind

none_4 : (zone : Zone) (line : List ℕ) (owner ttl class type_word : List ℕ) (behind : List (List ℕ)) (name : DomainName) (n : ℕ) → IsLine line owner ttl class type_word behind
    → IsOwnerText owner name → IsTtlField ttl n → NoneBefore zone line 4
none_4 zone line owner ttl class type_word behind name n spelled owned timed =
    let first : field line 0 ≡ owner = ap (λ ws. get_or ws 0 []) spelled in
    let second : field line 1 ≡ ttl = ap (λ ws. get_or ws 1 []) spelled in
    let counted : 4 ≤ length (words_of line) = omega (arith, ap length spelled) in
    let n2 : NoneBefore zone line 2 = none_next zone line causes.FieldCount (none_first zone line) (λ few. omega arith) in
    let n3 : NoneBefore zone line 3 = none_next zone line causes.Owner n2 (λ none. none name (subst (λ w. IsOwnerText w name) (sym first) owned)) in
    none_next zone line causes.Ttl n3 (λ none. none n (subst (λ w. IsTtlField w n) (sym second) timed))

pub class_refused : (zone : Zone) (line : List ℕ) (turn : ℕ) (owner ttl class type_word : List ℕ) (behind : List (List ℕ)) (name : DomainName) (n : ℕ) → IsLine line owner ttl class type_word behind
    → IsOwnerText owner name → IsTtlField ttl n → is_internet class ≡ false → StandsFrom turn zone line causes.Class
class_refused zone line turn owner ttl class type_word behind name n spelled owned timed other =
    let third : field line 2 ≡ class = ap (λ ws. get_or ws 2 []) spelled in
    (ap is_internet third ∙ other, none_4 zone line owner ttl class type_word behind name n spelled owned timed)

none_5 : (zone : Zone) (line : List ℕ) (owner ttl class type_word : List ℕ) (behind : List (List ℕ)) (name : DomainName) (n : ℕ) → IsLine line owner ttl class type_word behind
    → IsOwnerText owner name → IsTtlField ttl n → is_internet class ≡ true → NoneBefore zone line 5
none_5 zone line owner ttl class type_word behind name n spelled owned timed known =
    let third : field line 2 ≡ class = ap (λ ws. get_or ws 2 []) spelled in
    none_next zone line causes.Class (none_4 zone line owner ttl class type_word behind name n spelled owned timed) (λ wrong. both_ways (is_internet (field line 2)) wrong (ap is_internet third ∙ known))

no_type : (word : List ℕ) → ((t : RecordType) → type_of_text word ≡ Some t → ⊥) → type_of_text word ≡ None
no_type word none = by (type_of_text word) refl
  where
    by : (o : Option RecordType) → type_of_text word ≡ o → o ≡ None
    by None e = refl
    by (Some t) e = absurd (none t e)

pub type_refused : (zone : Zone) (line : List ℕ) (owner ttl class type_word : List ℕ) (behind : List (List ℕ)) (name : DomainName) (n : ℕ) (r : Result RecordType TextError) (e : LoadCause) → IsLine line owner ttl class type_word behind
    → IsOwnerText owner name → IsTtlField ttl n → is_internet class ≡ true → ReadsText (λ (t : RecordType). type_of_text type_word ≡ Some t) r → with_cause causes.UnknownType r ≡ Err e → StandsFrom 5 zone line e
type_refused zone line owner ttl class type_word behind name n r e spelled owned timed known reads is =
    let fourth : field line 3 ≡ type_word = ap (λ ws. get_or ws 3 []) spelled in
    field_refused (λ (t : RecordType). type_of_text type_word ≡ Some t) zone line 5 causes.UnknownType r e reads is (λ none. ap type_of_text fourth ∙ no_type type_word none)
    (none_5 zone line owner ttl class type_word behind name n spelled owned timed known) (omega arith)

pub not_loaded : (zone : Zone) (line : List ℕ) (turn : ℕ) (owner ttl class type_word : List ℕ) (behind : List (List ℕ)) (name : DomainName) (n : ℕ) (t : RecordType) → IsLine line owner ttl class type_word behind
    → IsOwnerText owner name → IsTtlField ttl n → is_internet class ≡ true → type_of_text type_word ≡ Some t → belongs_to_message t ≡ true → StandsFrom turn zone line causes.TypeNotLoaded
not_loaded zone line turn owner ttl class type_word behind name n t spelled owned timed known typed of-message =
    let fourth : field line 3 ≡ type_word = ap (λ ws. get_or ws 3 []) spelled in
    let there : type_of_text (field line 3) ≡ Some t = ap type_of_text fourth ∙ typed in
    ((t, there, of-message), none_next zone line causes.UnknownType (none_5 zone line owner ttl class type_word behind name n spelled owned timed known) (λ unknown. cc))

pub heading_of : (line : List ℕ) (owner ttl class type_word : List ℕ) (behind : List (List ℕ)) (name : DomainName) (n : ℕ) (t : RecordType) → IsLine line owner ttl class type_word behind
    → IsOwnerText owner name → IsTtlField ttl n → is_internet class ≡ true → type_of_text type_word ≡ Some t → belongs_to_message t ≡ false → IsHeading line (record { name = name; ttl = n; record_type = t; rdata = data_text line })
heading_of line owner ttl class type_word behind name n t spelled owned timed known typed of-zones =
    let first : field line 0 ≡ owner = ap (λ ws. get_or ws 0 []) spelled in
    let second : field line 1 ≡ ttl = ap (λ ws. get_or ws 1 []) spelled in
    let third : field line 2 ≡ class = ap (λ ws. get_or ws 2 []) spelled in
    let fourth : field line 3 ≡ type_word = ap (λ ws. get_or ws 3 []) spelled in
    record {
      count = omega (arith, ap length spelled);
      owner = subst (λ w. IsOwnerText w name) (sym first) owned;
      ttl = subst (λ w. IsTtlField w n) (sym second) timed;
      class_word = ap is_internet third ∙ known;
      type_word = ap type_of_text fourth ∙ typed;
      loaded = of-zones;
      rest = refl;
    }

-- ---- the rest of a line
pub none_8 : (zone : Zone) (line : List ℕ) (h : Heading) → IsHeading line h → is_at_or_below h.name zone.origin ≡ true → NoneBefore zone line 8
none_8 zone line h known inside =
    none_next zone line causes.OutsideZone (none_7 zone line h known) (λ outside.
    let same : outside.0 ≡ h.name = name-same (field line 0) outside.0 h.name outside.1.name_text known.owner.name_text in
    both_ways (is_at_or_below h.name zone.origin) (sym (ap (λ name. is_at_or_below name zone.origin) same) ∙ outside.2) inside)

-- What was read of the data's text are the data of the line.
pub data_some : (line : List ℕ) (h : Heading) (value : RData) → IsHeading line h → IsDataText h.record_type h.rdata value → type_of value ≡ h.record_type → AreData line value
data_some line h value known text kind =
    (known.type_word ∙ ap (λ t. Some t) (sym kind), subst (λ t. IsDataText t (data_text line) value) (sym kind) (subst (λ ws. IsDataText h.record_type ws value) known.rest text))

pub data_none : (line : List ℕ) (h : Heading) → IsHeading line h → ((value : RData) → IsDataText h.record_type h.rdata value → ⊥) → (value : RData) → AreData line value → ⊥
data_none line h known none value is =
    let both : Some (type_of value) ≡ Some h.record_type = sym is.0 ∙ known.type_word in
    let same : type_of value ≡ h.record_type = cc in
    none value (subst (λ ws. IsDataText h.record_type ws value) (sym known.rest) (subst (λ t. IsDataText t (data_text line) value) same is.1))

pub none_9 : (zone : Zone) (line : List ℕ) (value : RData) → NoneBefore zone line 8 → AreData line value → NoneBefore zone line 9
none_9 zone line value before is = none_next zone line causes.Data before (λ none. none value is)

-- The result of reading the data.
pub data_given : (zone : Zone) (line : List ℕ) (h : Heading) (r : Result RData TextError) (o : Result RData LoadCause) → IsHeading line h → is_at_or_below h.name zone.origin ≡ true → ReadsText (IsDataText h.record_type h.rdata) r
    → IfOk r (λ v. type_of v ≡ h.record_type) → o ≡ with_cause causes.Data r → DataGives zone line h o
data_given zone line h r (Ok value) known inside reads kinds is =
    (record { heading = known; inside = inside }, data_some line h value known (field_read (IsDataText h.record_type h.rdata) causes.Data r value reads (sym is)) (field_kept (λ v. type_of v ≡ h.record_type) causes.Data r value kinds (sym is)))
data_given zone line h r (Err e) known inside reads kinds is =
    field_refused (IsDataText h.record_type h.rdata) zone line 8 causes.Data r e reads (sym is) (data_none line h known) (none_8 zone line h known inside) (omega arith)

-- A value that is refused: its cause stands, and none before the value.
pub value_refused : (zone : Zone) (line : List ℕ) (h : Heading) (value : RData) (cause : LoadCause) → IsInside zone line h → AreData line value → NumbersFit value → RefusesValue zone (record_at h value) cause → Stands zone line cause
value_refused zone line h value causes.NotReadBack inside is fits why = ((h, inside, value, is, fits, why), none_9 zone line value (none_8 zone line h inside.heading inside.inside) is)
value_refused zone line h value causes.BesideCname inside is fits why = ((h, inside, value, is, fits, why), none_9 zone line value (none_8 zone line h inside.heading inside.inside) is)
value_refused zone line h value causes.SecondSoa inside is fits why = ((h, inside, value, is, fits, why), none_9 zone line value (none_8 zone line h inside.heading inside.inside) is)
value_refused zone line h value other inside is fits why = absurd why

pub value_taken : (zone : Zone) (line : List ℕ) (h : Heading) (value : RData) → IsInside zone line h → AreData line value → MayJoin zone (record_at h value) → NumbersFit value → IsTaken zone line (record_at h value)
value_taken zone line h value inside is joins fits =
    let known = inside.heading in
    record {
      text = record { count = known.count; owner = known.owner; ttl = known.ttl; class_word = known.class_word; class = refl; value = is };
      inside = inside.inside;
      joins = joins;
      fits = fits;
      no_cause = none_9 zone line value (none_8 zone line h known inside.inside) is;
    }

-- So is what a test of the record gives.
pub tested_gives : {R : Type 0} (zone : Zone) (line : List ℕ) (h : Heading) (value : RData) (next_of : R → Record) (IsKeyed : R → Type 0) (r : Result R LoadCause) → IsInside zone line h → AreData line value → NumbersFit value → IfOk r (λ t. (next_of t ≡ record_at h value) × IsKeyed t × MayJoin zone (record_at h value)) → IfErr r (RefusesValue zone (record_at h value)) → LineGives zone line next_of r
tested_gives zone line h value next_of IsKeyed (Ok t) inside is fits ok err = subst (IsTaken zone line) (sym ok.0) (value_taken zone line h value inside is ok.2 fits)
tested_gives zone line h value next_of IsKeyed (Err cause) inside is fits ok err = value_refused zone line h value cause inside is fits err

-- A reader that is refused a text says so.
pub text_err : {X : Type 0} (IsText : X → Type 0) (cause : ProtoError) (e : TextError) → TellsTextCause cause e → IsMemory cause ⊎ ((x : X) → IsText x → ⊥) → ReadsText {X = X} IsText (Err e)
text_err IsText cause errors.Malformed tells (inl memory) = absurd (tells memory)
text_err IsText cause errors.Malformed tells (inr none) = none
text_err IsText cause errors.OutOfMemory tells why = tt
