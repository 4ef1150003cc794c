-- Questions, one behind the other: one place holds one of them, and what is read is what stands there.
use Rattle.std.proofs.Common.{◌≡◌, ℕ, ◌+◌, ◌/◌, ◌%◌, ◌<◌, ◌≤◌, List, [], ◌∷◌, ◌++◌, length, get_or, refl, sym, ap, subst, inl, inr, ◌∙◌, arith, append_assoc, append-nil, length-append}
use Rattle.std.specs.Prelude.{◌⊎◌}
use Rattle.dnw_codes.specs.DNSClass.{class_of}
use Rattle.dnw_codes.specs.RecordType.{record_type_of}
use Rattle.dnw_codes.specs.declared.dns_class.DNSClass.{DNSClass}
use Rattle.dnw_codes.specs.declared.error.DecodeError.{DecodeError}
use Rattle.dnw_codes.specs.declared.record_type.RecordType.{RecordType}
use Rattle.dnw_encoder.specs.dnw_name.DomainName.{DomainName}
use Rattle.dnw_encoder.specs.dnw_decoder.Codes.{RecordTypeAt, ClassAt}
use Rattle.dnw_encoder.specs.dnw_decoder.Octets.{octets_16}
use Rattle.dnw_encoder.specs.dnw_decoder.Reading.{IsCut, IsWantOfMemory}
use Rattle.dnw_encoder.specs.dnw_decoder.Spelling.{NameAt}
use Rattle.dnw_encoder.proofs.dnw_decoder_lemmas.SpellingLaws.{name_once}
use Rattle.dnw_encoder.proofs.dnw_decoder_lemmas.Standing.{stands_same}
use Rattle.zsv_parts.specs.declared.question.Query.{Query}
use Rattle.zsv_parts.specs.Questions.{Asked, AskedAt, QuestionAt, QuestionsAt, RefusesQuestion, RefusesQuestions}
use Rattle.zsv_parts.specs.Wire.{Entries}

-- Two numbers of 16 bits in the same octets are the same.
pub number_once : (a b : ℕ) → a < 65536 → b < 65536 → octets_16 a ≡ octets_16 b → a ≡ b
number_once a b few less same =
    let high : a / 256 % 256 ≡ b / 256 % 256 = ap (λ (octets : List ℕ). get_or octets 0 0) same in
    let low : a % 256 ≡ b % 256 = ap (λ (octets : List ℕ). get_or octets 1 0) same in
    omega arith

-- One place holds one type, and one class.
pub type_once : (message : List ℕ) (place : ℕ) (a b : RecordType) (e f : ℕ) → RecordTypeAt message place a e → RecordTypeAt message place b f → (a ≡ b) × (e ≡ f)
type_once message place a b e f p q =
    let same = stands_same message place (octets_16 p.number) (octets_16 q.number) e f refl p.there q.there in
    (p.means ∙ ap record_type_of (number_once p.number q.number p.small q.small same.0) ∙ sym q.means, same.1)

pub class_once : (message : List ℕ) (place : ℕ) (a b : DNSClass) (e f : ℕ) → ClassAt message place a e → ClassAt message place b f → (a ≡ b) × (e ≡ f)
class_once message place a b e f p q =
    let same = stands_same message place (octets_16 p.number) (octets_16 q.number) e f refl p.there q.there in
    (p.means ∙ ap class_of (number_once p.number q.number p.small q.small same.0) ∙ sym q.means, same.1)

abbrev query_of : DomainName → RecordType → DNSClass → Query
query_of name t c = record { name = name; query_type = t; query_class = c }

-- One place holds one question.
pub question_once : (message : List ℕ) (place : ℕ) (a b : Query) (e f : ℕ) → QuestionAt message place a e → QuestionAt message place b f → (a ≡ b) × (e ≡ f)
question_once message place a b e f p q =
    let names = name_once message place a.name b.name p.middle q.middle p.name q.name in
    let types = type_once message q.middle a.query_type b.query_type p.last q.last (subst (λ (m : ℕ). RecordTypeAt message m a.query_type p.last) names.1 p.query_type) q.query_type in
    let classes = class_once message q.last a.query_class b.query_class e f (subst (λ (m : ℕ). ClassAt message m a.query_class e) types.1 p.query_class) q.query_class in (
      ap (λ (n : DomainName). query_of n a.query_type a.query_class) names.0
          ∙ ap (λ (t : RecordType). query_of b.name t a.query_class) types.0
          ∙ ap (λ (c : DNSClass). query_of b.name b.query_type c) classes.0,
      classes.1,
    )

-- Where no name stands, or memory ran out for one, so it is with a question; and so on with type and class.
pub name_none : (message : List ℕ) (place : ℕ) (e : DecodeError) → IsWantOfMemory e ⊎ ((name : DomainName) (behind : ℕ) → NameAt message place name behind → ⊥) → IsWantOfMemory e ⊎ ((q : Query) (end : ℕ) → QuestionAt message place q end → ⊥)
name_none message place e (inl memory) = inl memory
name_none message place e (inr none) = inr (λ q end at. none q.name at.middle at.name)

pub type_none : (message : List ℕ) (place middle : ℕ) (name : DomainName) (e : DecodeError) → NameAt message place name middle → IsWantOfMemory e ⊎ ((t : RecordType) (behind : ℕ) → RecordTypeAt message middle t behind → ⊥) → IsWantOfMemory e ⊎ ((q : Query) (end : ℕ) → QuestionAt message place q end → ⊥)
type_none message place middle name e here (inl memory) = inl memory
type_none message place middle name e here (inr none) = inr (λ q end at.
    let same = name_once message place q.name name at.middle middle at.name here in
    none q.query_type at.last (subst (λ (m : ℕ). RecordTypeAt message m q.query_type at.last) same.1 at.query_type))

pub class_none : (message : List ℕ) (place middle last : ℕ) (name : DomainName) (t : RecordType) (e : DecodeError) → NameAt message place name middle → RecordTypeAt message middle t last → IsWantOfMemory e ⊎ ((c : DNSClass) (behind : ℕ) → ClassAt message last c behind → ⊥) → IsWantOfMemory e ⊎ ((q : Query) (end : ℕ) → QuestionAt message place q end → ⊥)
class_none message place middle last name t e here typed (inl memory) = inl memory
class_none message place middle last name t e here typed (inr none) = inr (λ q end at.
    let same = name_once message place q.name name at.middle middle at.name here in
    let types = type_once message middle q.query_type t at.last last (subst (λ (m : ℕ). RecordTypeAt message m q.query_type at.last) same.1 at.query_type) typed in
    none q.query_class end (subst (λ (m : ℕ). ClassAt message m q.query_class end) types.1 at.query_class))

-- A name is there, and the type or the class behind it is cut.
pub lacks_type : (message : List ℕ) (place middle : ℕ) (name : DomainName) (e : DecodeError) → NameAt message place name middle → IsCut 2 message middle e → RefusesQuestion message place e
lacks_type message place middle name e here cut = inr (record { name = name; behind = middle; there = here; cut = (cut.0, omega (arith, cut.1)) })

pub lacks_class : (message : List ℕ) (place middle last : ℕ) (name : DomainName) (t : RecordType) (e : DecodeError) → NameAt message place name middle → RecordTypeAt message middle t last → IsCut 2 message last e → RefusesQuestion message place e
lacks_class message place middle last name t e here typed cut = inr (record { name = name; behind = middle; there = here; cut = (cut.0, omega (arith, cut.1, typed.there.behind)) })

-- What was read, and what is still ahead.
pub record EntriesAhead {X : Type 0} (At : ℕ → X → ℕ → Type 0) (place : ℕ) (before : List X) (at : ℕ) : Type 0 where
  pub sound : (rest : List X) (end : ℕ) → Entries At at rest end → Entries At place (before ++ rest) end
  pub only : (all : List X) (end : ℕ) → Entries At place all end → length before ≤ length all → (rest : List X) × (all ≡ before ++ rest) × Entries At at rest end

pub entries_start : {X : Type 0} (At : ℕ → X → ℕ → Type 0) (place : ℕ) → EntriesAhead At place [] place
entries_start At place = record { sound = λ rest end e. e; only = λ all end e long. (all, refl, e) }

-- An entry at a place is the first of those from there on.
entry_first : {X : Type 0} (At : ℕ → X → ℕ → Type 0) → ((place : ℕ) (a b : X) (e f : ℕ) → At place a e → At place b f → (a ≡ b) × (e ≡ f)) → (at : ℕ) (x : X) (behind : ℕ) (all : List X) (end : ℕ) → At at x behind → Entries At at all end → 0 < length all → (rest : List X) × (all ≡ x ∷ rest) × Entries At behind rest end
entry_first At once at x behind [] end here e some = absurd (omega arith)
entry_first {X} At once at x behind (y ∷ ys) end here e some =
    let same = once at y x e.0 behind e.1 here in
    (ys, ap (λ (z : X). z ∷ ys) same.0, subst (λ (p : ℕ). Entries At p ys end) same.1 e.2)

longer : {X : Type 0} (before rest all : List X) → all ≡ before ++ rest → length before + 1 ≤ length all → 0 < length rest
longer before rest all e long = omega (arith, length-append before rest, ap length e)

pub entries_more : {X : Type 0} (At : ℕ → X → ℕ → Type 0) → ((place : ℕ) (a b : X) (e f : ℕ) → At place a e → At place b f → (a ≡ b) × (e ≡ f)) → (place : ℕ) (before : List X) (at : ℕ) (x : X) (behind : ℕ) → EntriesAhead At place before at → At at x behind → EntriesAhead At place (before ++ x ∷ []) behind
entries_more {X} At once place before at x behind a here = record {
  sound = λ rest end e. subst (λ (all : List X). Entries At place all end) (sym (append_assoc before (x ∷ []) rest)) (a.sound (x ∷ rest) end (behind, here, e));
  only = λ all end e long.
      let pushed : length (before ++ x ∷ []) ≡ length before + 1 = length-append before (x ∷ []) in
      let found = a.only all end e (omega (arith, pushed)) in
      let next = entry_first At once at x behind found.0 end here found.2 (longer before found.0 all found.1 (omega (arith, pushed))) in
      (next.0, found.1 ∙ ap (λ (xs : List X). before ++ xs) next.1 ∙ sym (append_assoc before (x ∷ []) next.0), next.2);
}

pub entries_all : {X : Type 0} (At : ℕ → X → ℕ → Type 0) (place : ℕ) (before : List X) (at : ℕ) → EntriesAhead At place before at → Entries At place before at
entries_all {X} At place before at a = subst (λ (all : List X). Entries At place all at) (append-nil before) (a.sound [] at refl)

none_first : {X : Type 0} (At : ℕ → X → ℕ → Type 0) (at end : ℕ) → ((x : X) (end : ℕ) → At at x end → ⊥) → (rest : List X) → Entries At at rest end → 0 < length rest → ⊥
none_first At at end none [] e some = absurd (omega arith)
none_first At at end none (y ∷ ys) e some = none y e.0 e.1

-- No entry here, so not as many as one more.
pub entries_none : {X : Type 0} (At : ℕ → X → ℕ → Type 0) (place : ℕ) (before : List X) (at : ℕ) → EntriesAhead At place before at → ((x : X) (end : ℕ) → At at x end → ⊥) → (all : List X) (end : ℕ) → Entries At place all end → length before + 1 ≤ length all → ⊥
entries_none At place before at a none all end e long =
    let found = a.only all end e (omega arith) in
    none_first At at end none found.0 found.2 (longer before found.0 all found.1 long)

-- Where no further question stands, no more do.
pub questions_none : (message : List ℕ) (place count : ℕ) (before : List Query) (at : ℕ) (e : DecodeError) → EntriesAhead (QuestionAt message) place before at → length before < count → IsWantOfMemory e ⊎ ((q : Query) (end : ℕ) → QuestionAt message at q end → ⊥) → IsWantOfMemory e ⊎ ((qs : List Query) (end : ℕ) → QuestionsAt message place count qs end → ⊥)
questions_none message place count before at e a more (inl memory) = inl memory
questions_none message place count before at e a more (inr none) = inr (λ qs end there.
    entries_none (QuestionAt message) place before at a none qs end there.0 (omega (arith, there.1)))

-- The next question is refused.
pub questions_refused : (message : List ℕ) (place count : ℕ) (before : List Query) (at : ℕ) (e : DecodeError) → EntriesAhead (QuestionAt message) place before at → length before < count → RefusesQuestion message at e → RefusesQuestions message place count e
questions_refused message place count before at e a more cause = record {
  before = before;
  at = at;
  there = entries_all (QuestionAt message) place before at a;
  fewer = more;
  cause = cause;
}

-- Where no questions stand, no question section does.
pub asked_none : (message : List ℕ) (place count : ℕ) (e : DecodeError) → IsWantOfMemory e ⊎ ((qs : List Query) (end : ℕ) → QuestionsAt message place count qs end → ⊥) → IsWantOfMemory e ⊎ ((asked : Asked) (end : ℕ) → AskedAt message place count asked end → ⊥)
asked_none message place count e (inl memory) = inl memory
asked_none message place count e (inr none) = inr (λ asked end at. none asked.questions end at.questions)
