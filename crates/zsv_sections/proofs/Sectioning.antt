-- Records one behind the other, each where it may stand: all lists that stand from one place on go through the same places.
use Rattle.std.proofs.Common.{◌≡◌, ℕ, ◌<◌, ◌≤◌, Bool, true, false, not, ◌&&◌, ◌||◌, List, [], ◌∷◌, ◌++◌, length, Option, Some, None, refl, sym, ap, subst, inl, inr, ◌∙◌, ◌⊎◌, arith, true≢false, length-append}
use Rattle.std.specs.Prelude.{cond}
use Rattle.zst_record.specs.dnw_codes.RecordType.{same_record_type}
use Rattle.zst_record.specs.dnw_codes.declared.error.DecodeError.{DecodeError}
use Rattle.zst_record.specs.dnw_codes.declared.error.DecodeError.TheVariants.{DuplicateEdns, EdnsNameNotRoot, InvalidEmptyRecord, RecordAfterSig, RecordNotInAdditionalSection}
use Rattle.zst_record.specs.dnw_codes.declared.record_type.RecordType.{RecordType}
use Rattle.zst_record.specs.dnw_codes.declared.record_type.RecordType.TheVariants as kind
use Rattle.zst_record.specs.dnw_decoder.Reading.{IsWantOfMemory}
use Rattle.zst_record.specs.dnw_name.DomainName.{DomainName}
use Rattle.zst_record.specs.drd_rdata.Reading.{ReadsAs}
use Rattle.zst_record.specs.drd_rdata.Types.{is_update0, type_of}
use Rattle.zst_record.specs.declared.records.Record.{Record}
use Rattle.zst_record.specs.Records.{RecordAt}
use Rattle.zsv_sections.specs.declared.placing.Placing.{Placing}
use Rattle.zsv_sections.specs.Sections.{PlacedRecords, RefusesPlaced, RefusesSection, SectionAt, is_opt, is_root, is_signature, is_tsig, misplaced, past, past_all}
use Rattle.zsv_sections.proofs.Alike.{are_alike, bare_alike}

-- What tells whether a record is misplaced, and where the next one stands: its type, its owner, and whether it has data.
type_opt : RecordType → Bool
type_opt t = same_record_type t kind.OPT

type_tsig : RecordType → Bool
type_tsig t = same_record_type t kind.TSIG

type_signature : RecordType → Bool
type_signature t = type_tsig t || same_record_type t kind.SIG

told : Placing → RecordType → DomainName → Bool → Option DecodeError
told at t name bare =
    cond at.is_signed (Some RecordAfterSig)
    (cond (not at.is_additional && (type_opt t || type_signature t)) (Some (RecordNotInAdditionalSection t))
    (cond (type_opt t && not (is_root name)) (Some EdnsNameNotRoot)
    (cond (type_opt t && at.has_options) (Some DuplicateEdns)
    (cond (bare && (not at.is_update || type_tsig t)) (Some InvalidEmptyRecord) None))))

behind : Placing → RecordType → Placing
behind at t = record at { is_signed = at.is_signed || type_signature t; has_options = at.has_options || type_opt t }

-- Records that stand at one place may stand there alike, and leave the same behind them.
pub misplaced_alike : (at : Placing) (message : List ℕ) (place : ℕ) (a b : Record) (e f : ℕ) → RecordAt message place a e → RecordAt message place b f → misplaced at a ≡ misplaced at b
unfolding told type_opt type_signature type_tsig
misplaced_alike at message place a b e f p q =
    let same = are_alike message place a b e f p q in
    let other : ReadsAs (type_of b.rdata) message q.first q.len a.rdata =
    subst (λ (n : ℕ). ReadsAs (type_of b.rdata) message q.first n a.rdata) same.len
    (subst (λ (n : ℕ). ReadsAs (type_of b.rdata) message n p.len a.rdata) same.first
    (subst (λ (t : RecordType). ReadsAs t message p.first p.len a.rdata) same.kind p.rdata)) in
    let bare : is_update0 a.rdata ≡ is_update0 b.rdata = bare_alike (type_of b.rdata) message q.first q.len a.rdata b.rdata other q.rdata in
    λ i. told at (same.kind i) (same.owner i) (bare i)

pub past_alike : (at : Placing) (message : List ℕ) (place : ℕ) (a b : Record) (e f : ℕ) → RecordAt message place a e → RecordAt message place b f → past at a ≡ past at b
unfolding behind type_signature type_opt type_tsig
past_alike at message place a b e f p q =
    let same = are_alike message place a b e f p q in
    λ i. behind at (same.kind i)

-- One record more.
pub placed_more : (at : Placing) (message : List ℕ) (place : ℕ) (before : List Record) (next : ℕ) (r : Record) (end : ℕ) → PlacedRecords at message place before next → RecordAt message next r end → misplaced (past_all at before) r ≡ None → PlacedRecords at message place (before ++ r ∷ []) end
placed_more at message place [] next r end there here may = (end, subst (λ (n : ℕ). RecordAt message n r end) there here, may, refl)
placed_more at message place (x ∷ xs) next r end there here may =
    (there.0, there.1, there.2, placed_more (past at x) message there.0 xs next r end there.3 here may)

pub past_more : (at : Placing) (before : List Record) (r : Record) → past_all at (before ++ r ∷ []) ≡ past (past_all at before) r
past_more at [] r = refl
past_more at (x ∷ xs) r = past_more (past at x) xs r

-- A list that stands from the same place on, and is as long at least, goes through the place behind the other one.
pub record Continues (at : Placing) (message : List ℕ) (before : List Record) (next : ℕ) (all : List Record) (end : ℕ) : Type 0 where
  pub front : List Record
  pub rest : List Record
  pub whole : all ≡ front ++ rest
  pub long : length front ≡ length before
  pub same : past_all at front ≡ past_all at before
  pub there : PlacedRecords (past_all at before) message next rest end

pub continues : (at : Placing) (message : List ℕ) (place : ℕ) (before : List Record) (next : ℕ) (all : List Record) (end : ℕ) → PlacedRecords at message place before next → PlacedRecords at message place all end → length before ≤ length all → Continues at message before next all end
continues at message place [] next all end here there long = record {
  front = [];
  rest = all;
  whole = refl;
  long = refl;
  same = refl;
  there = subst (λ (n : ℕ). PlacedRecords at message n all end) (sym here) there;
}
continues at message place (x ∷ xs) next [] end here there long = absurd (omega arith)
continues at message place (x ∷ xs) next (y ∷ ys) end here there long =
    let alike = are_alike message place y x there.0 here.0 there.1 here.1 in
    let same = past_alike at message place y x there.0 here.0 there.1 here.1 in
    let moved : PlacedRecords (past at x) message here.0 ys end =
    subst (λ (n : ℕ). PlacedRecords (past at x) message n ys end) alike.end (subst (λ (p : Placing). PlacedRecords p message there.0 ys end) same there.3) in
    let later = continues (past at x) message here.0 xs next ys end here.3 moved (omega arith) in
    record {
      front = y ∷ later.front;
      rest = later.rest;
      whole = ap (λ (rs : List Record). y ∷ rs) later.whole;
      long = omega (arith, later.long);
      same = ap (λ (p : Placing). past_all p later.front) same ∙ later.same;
      there = later.there;
    }

-- As many records end at one place.
no_rest : (at : Placing) (message : List ℕ) (next : ℕ) (rest : List Record) (end : ℕ) → length rest ≡ 0 → PlacedRecords at message next rest end → end ≡ next
no_rest at message next [] end none there = there
no_rest at message next (r ∷ rs) end none there = absurd (omega (arith, none))

pub section_end : (at : Placing) (message : List ℕ) (place n : ℕ) (a b : List Record) (e f : ℕ) → SectionAt at message place n a e → SectionAt at message place n b f → e ≡ f
section_end at message place n a b e f p q =
    let c = continues at message place b f a e q.0 p.0 (omega (arith, p.1, q.1)) in
    no_rest (past_all at b) message f c.rest e (omega (arith, p.1, q.1, c.long, ap length c.whole, length-append c.front c.rest)) c.there

-- The record that a longer list has at that place.
pub record GoesOn (at : Placing) (message : List ℕ) (before : List Record) (next : ℕ) (all : List Record) (end : ℕ) : Type 0 where
  pub front : List Record
  pub one : Record
  pub rest : List Record
  pub after : ℕ
  pub whole : all ≡ front ++ one ∷ rest
  pub same : past_all at front ≡ past_all at before
  pub here : RecordAt message next one after
  pub may : misplaced (past_all at before) one ≡ None
  pub there : PlacedRecords (past (past_all at before) one) message after rest end

one_more : (at : Placing) (message : List ℕ) (before : List Record) (next : ℕ) (all front rest : List Record) (end : ℕ) → all ≡ front ++ rest → length front ≡ length before → past_all at front ≡ past_all at before → PlacedRecords (past_all at before) message next rest end → length before < length all → GoesOn at message before next all end
one_more at message before next all front [] end whole long same there more = absurd (omega (arith, ap length whole, length-append front [], long))
one_more at message before next all front (y ∷ ys) end whole long same there more = record {
  front = front;
  one = y;
  rest = ys;
  after = there.0;
  whole = whole;
  same = same;
  here = there.1;
  may = there.2;
  there = there.3;
}

pub goes_on : (at : Placing) (message : List ℕ) (place : ℕ) (before : List Record) (next : ℕ) (all : List Record) (end : ℕ) → PlacedRecords at message place before next → PlacedRecords at message place all end → length before < length all → GoesOn at message before next all end
goes_on at message place before next all end here there more =
    let c = continues at message place before next all end here there (omega (arith, more)) in
    one_more at message before next all c.front c.rest end c.whole c.long c.same c.there more

-- Where no record may stand, no longer list does.
pub placed_none : (at : Placing) (message : List ℕ) (place : ℕ) (before : List Record) (next : ℕ) → PlacedRecords at message place before next → ((r : Record) (end : ℕ) → RecordAt message next r end → misplaced (past_all at before) r ≡ None → ⊥) → (all : List Record) (end : ℕ) → PlacedRecords at message place all end → length before < length all → ⊥
placed_none at message place before next here none all end there more =
    let g = goes_on at message place before next all end here there more in
    none g.one g.after g.here g.may

pub section_none : (at : Placing) (message : List ℕ) (place count : ℕ) (before : List Record) (next : ℕ) (e : DecodeError) → PlacedRecords at message place before next → length before < count → IsWantOfMemory e ⊎ ((r : Record) (end : ℕ) → RecordAt message next r end → misplaced (past_all at before) r ≡ None → ⊥) → IsWantOfMemory e ⊎ ((records : List Record) (end : ℕ) → SectionAt at message place count records end → ⊥)
section_none at message place count before next e here more (inl memory) = inl memory
section_none at message place count before next e here more (inr none) = inr (λ records end there.
    placed_none at message place before next here none records end there.0 (omega (arith, there.1)))

pub section_refused : (at : Placing) (message : List ℕ) (place count : ℕ) (before : List Record) (next : ℕ) (e : DecodeError) → PlacedRecords at message place before next → length before < count → RefusesPlaced (past_all at before) message next e → RefusesSection at message place count e
section_refused at message place count before next e here more cause = record {
  before = before;
  next = next;
  there = here;
  fewer = more;
  cause = cause;
}

-- What isn't misplaced: nothing was signed before; before the additional section it is no options and no signature; options
-- stand once.
pub record MayStand (at : Placing) (r : Record) : Type 0 where
  pub unsigned : at.is_signed ≡ false
  pub ordinary : at.is_additional ≡ false → (is_opt r ≡ false) × (is_signature r ≡ false)
  pub once : is_opt r ≡ true → at.has_options ≡ false
  pub some : is_tsig r ≡ true → is_update0 r.rdata ≡ false

no_cause : (e : DecodeError) → Some e ≡ None → ⊥
no_cause e same = cc

or_false : (b : Bool) → (b || false) ≡ b
or_false true = refl
or_false false = refl

may : (signed additional opt tsig sig root had update bare : Bool) (a b c d e : DecodeError)
    → cond signed (Some a)
    (cond (not additional && (opt || (tsig || sig))) (Some b)
    (cond (opt && not root) (Some c)
    (cond (opt && had) (Some d)
    (cond (bare && (not update || tsig)) (Some e) None)))) ≡ None
    → (signed ≡ false) × (additional ≡ false → (opt ≡ false) × ((tsig || sig) ≡ false)) × (opt ≡ true → had ≡ false) × (tsig ≡ true → bare ≡ false)
may true additional opt tsig sig root had update bare a b c d e none = absurd (no_cause a none)
may false false true tsig sig root had update bare a b c d e none = absurd (no_cause b none)
may false false false true sig root had update bare a b c d e none = absurd (no_cause b none)
may false false false false true root had update bare a b c d e none = absurd (no_cause b none)
may false false false false false root had update bare a b c d e none = (refl, λ e. (refl, refl), λ e. absurd (true≢false (sym e)), λ e. absurd (true≢false (sym e)))
may false true true tsig sig false had update bare a b c d e none = absurd (no_cause c none)
may false true true tsig sig true true update bare a b c d e none = absurd (no_cause d none)
may false true true false sig true false update bare a b c d e none = (refl, λ e. absurd (true≢false e), λ e. refl, λ e. absurd (true≢false (sym e)))
may false true true true sig true false true true a b c d e none = absurd (no_cause e none)
may false true true true sig true false false true a b c d e none = absurd (no_cause e none)
may false true true true sig true false update false a b c d e none = (refl, λ e. absurd (true≢false e), λ e. refl, λ e. refl)
may false true false false sig root had update bare a b c d e none = (refl, λ e. absurd (true≢false e), λ e. absurd (true≢false (sym e)), λ e. absurd (true≢false (sym e)))
may false true false true sig root had true true a b c d e none = absurd (no_cause e none)
may false true false true sig root had false true a b c d e none = absurd (no_cause e none)
may false true false true sig root had update false a b c d e none = (refl, λ e. absurd (true≢false e), λ e. absurd (true≢false (sym e)), λ e. refl)

pub may_stand : (at : Placing) (r : Record) → misplaced at r ≡ None → MayStand at r
may_stand at r none =
    let m = may at.is_signed at.is_additional (is_opt r) (is_tsig r) (same_record_type (type_of r.rdata) kind.SIG) (is_root r.name) at.has_options at.is_update (is_update0 r.rdata)
    RecordAfterSig (RecordNotInAdditionalSection (type_of r.rdata)) EdnsNameNotRoot DuplicateEdns InvalidEmptyRecord none in
    record { unsigned = m.0; ordinary = m.1; once = m.2; some = m.3 }

-- Before the additional section nothing changes where records stand.
stays : (at : Placing) (signature opt : Bool) → signature ≡ false → opt ≡ false → record at { is_signed = at.is_signed || signature; has_options = at.has_options || opt } ≡ at
stays at signature opt unsigned none = λ i. record at { is_signed = (ap (λ (b : Bool). at.is_signed || b) unsigned ∙ or_false at.is_signed) i; has_options = (ap (λ (b : Bool). at.has_options || b) none ∙ or_false at.has_options) i }

pub past_ordinary : (at : Placing) (r : Record) → at.is_additional ≡ false → misplaced at r ≡ None → past at r ≡ at
past_ordinary at r before none =
    let m = (may_stand at r none).ordinary before in
    stays at (is_signature r) (is_opt r) m.1 m.0

pub past_all_ordinary : (at : Placing) (message : List ℕ) (place : ℕ) (rs : List Record) (end : ℕ) → at.is_additional ≡ false → PlacedRecords at message place rs end → past_all at rs ≡ at
past_all_ordinary at message place [] end before there = refl
past_all_ordinary at message place (r ∷ rs) end before there =
    let same = past_ordinary at r before there.2 in
    ap (λ (p : Placing). past_all p rs) same
    ∙ past_all_ordinary at message there.0 rs end before (subst (λ (p : Placing). PlacedRecords p message there.0 rs end) same there.3)

-- Where no record stands, none may; and where one stands that may not, no other one may.
pub none_may : (at : Placing) (message : List ℕ) (place : ℕ) (e : DecodeError) → IsWantOfMemory e ⊎ ((r : Record) (end : ℕ) → RecordAt message place r end → ⊥) → IsWantOfMemory e ⊎ ((r : Record) (end : ℕ) → RecordAt message place r end → misplaced at r ≡ None → ⊥)
none_may at message place e (inl memory) = inl memory
none_may at message place e (inr none) = inr (λ r end here may. none r end here)

pub no_other_may : (at : Placing) (message : List ℕ) (place : ℕ) (standing : Record) (end : ℕ) (e : DecodeError) → RecordAt message place standing end → misplaced at standing ≡ Some e → IsWantOfMemory e ⊎ ((r : Record) (end : ℕ) → RecordAt message place r end → misplaced at r ≡ None → ⊥)
no_other_may at message place standing end e here cause = inr (λ r behind other may.
    no_cause e (sym cause ∙ misplaced_alike at message place standing r end behind here other ∙ may))

-- One record more before the additional section, where nothing changes.
pub ordinary_more : (at : Placing) (message : List ℕ) (place : ℕ) (before : List Record) (next : ℕ) (r : Record) (end : ℕ) → at.is_additional ≡ false → PlacedRecords at message place before next → RecordAt message next r end → misplaced at r ≡ None → PlacedRecords at message place (before ++ r ∷ []) end
ordinary_more at message place before next r end ordinary there here may =
    placed_more at message place before next r end there here (subst (λ (p : Placing). misplaced p r ≡ None) (sym (past_all_ordinary at message place before next ordinary there)) may)

pub ordinary_refused : (at : Placing) (message : List ℕ) (place count : ℕ) (before : List Record) (next : ℕ) (e : DecodeError) → at.is_additional ≡ false → PlacedRecords at message place before next → length before < count → RefusesPlaced at message next e → RefusesSection at message place count e
ordinary_refused at message place count before next e ordinary there more cause =
    section_refused at message place count before next e there more (subst (λ (p : Placing). RefusesPlaced p message next e) (sym (past_all_ordinary at message place before next ordinary there)) cause)

pub ordinary_none : (at : Placing) (message : List ℕ) (place count : ℕ) (before : List Record) (next : ℕ) (e : DecodeError) → at.is_additional ≡ false → PlacedRecords at message place before next → length before < count → IsWantOfMemory e ⊎ ((r : Record) (end : ℕ) → RecordAt message next r end → misplaced at r ≡ None → ⊥) → IsWantOfMemory e ⊎ ((records : List Record) (end : ℕ) → SectionAt at message place count records end → ⊥)
ordinary_none at message place count before next e ordinary there more none =
    section_none at message place count before next e there more
    (subst (λ (p : Placing). IsWantOfMemory e ⊎ ((r : Record) (end : ℕ) → RecordAt message next r end → misplaced p r ≡ None → ⊥)) (sym (past_all_ordinary at message place before next ordinary there)) none)
