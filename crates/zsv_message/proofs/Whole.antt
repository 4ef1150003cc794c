-- A message is read, or refused by what stands first that can't be read.
use Rattle.std.proofs.Common.{◌≡◌, ℕ, ◌≤◌, Bool, true, false, List, [], ◌∷◌, length, Option, None, Err, refl, sym, ap, subst, inl, inr, ◌∙◌, ◌⊎◌, arith}
use Rattle.std.proofs.lemmas.Bool.{and_parts, eqb-true}
use Rattle.std.specs.Prelude.{◌==◌, ◌&&◌}
use Rattle.zst_edns.specs.declared.edns.Edns.{Edns}
use Rattle.zsv_sections.specs.zst_record.dnw_codes.declared.error.DecodeError.{DecodeError}
use Rattle.zsv_sections.specs.zst_record.dnw_decoder.Reading.{IsCut, IsWantOfMemory, Reading, reading}
use Rattle.zsv_sections.specs.zst_record.declared.records.Record.{Record}
use Rattle.zsv_sections.specs.zsv_parts.declared.header.Header.{Header}
use Rattle.zsv_sections.specs.zsv_parts.declared.header.HeaderCounts.{HeaderCounts}
use Rattle.zsv_sections.specs.zsv_parts.declared.header.Metadata.{Metadata}
use Rattle.zsv_sections.specs.zsv_parts.declared.header.OpCode.{OpCode}
use Rattle.zsv_sections.specs.zsv_parts.declared.question.Query.{Query}
use Rattle.zsv_sections.specs.zsv_parts.declared.tsig.TsigRecord.{TsigRecord}
use Rattle.zsv_sections.specs.zsv_parts.Headers.{HeaderAt, header_of}
use Rattle.zsv_sections.specs.zsv_parts.Questions.{Asked, AskedAt, QuestionAt, RefusesQuestions}
use Rattle.zsv_sections.specs.zsv_parts.Wire.{Entries}
use Rattle.zsv_sections.proofs.zsv_parts_lemmas.Questions.{question_once}
use Rattle.zsv_message.specs.declared.records.HeldRecords.{HeldRecords}
use Rattle.zsv_message.specs.Holding.{additionals_held, answers_held, authorities_held, message_of, signature_held}
use Rattle.zsv_message.specs.Messages.{AdditionalsAt, IsMessage, Message, ReadsMessage, RefusesAdditionals, RefusesMessage, bare_message, before_additionals, counts_no_records, in_additionals, is_update, joined_metadata, no_additionals, no_answers, no_authorities, no_header, no_questions}
use Rattle.zsv_sections.specs.declared.placing.Placing.{Placing}
use Rattle.zsv_sections.specs.Sections.{RefusesSection, SectionAt}
use Rattle.zsv_sections.proofs.Sectioning.{section_end}

-- As many questions from one place end at one place, and as many records.
questions_end : (message : List ℕ) (place : ℕ) (a b : List Query) (e f : ℕ) → length a ≡ length b → Entries (QuestionAt message) place a e → Entries (QuestionAt message) place b f → e ≡ f
questions_end message place [] [] e f long p q = p ∙ sym q
questions_end message place [] (y ∷ ys) e f long p q = absurd (omega (arith, long))
questions_end message place (x ∷ xs) [] e f long p q = absurd (omega (arith, long))
questions_end message place (x ∷ xs) (y ∷ ys) e f long p q =
    let same = question_once message place x y p.0 q.0 p.1 q.1 in
    questions_end message q.0 xs ys e f (omega (arith, long)) (subst (λ (n : ℕ). Entries (QuestionAt message) n xs e) same.1 p.2) q.2

asked_end : (message : List ℕ) (place n : ℕ) (a b : Asked) (e f : ℕ) → AskedAt message place n a e → AskedAt message place n b f → e ≡ f
asked_end message place n a b e f p q = questions_end message place a.questions b.questions e f (p.questions.1 ∙ sym q.questions.1) p.questions.0 q.questions.0

or_map : {A B C : Type 0} → (B → C) → A ⊎ B → A ⊎ C
or_map f (inl a) = inl a
or_map f (inr b) = inr (f b)

behind_header : (octets : List ℕ) (e : DecodeError) → 12 ≤ length octets → IsWantOfMemory e ⊎ RefusesMessage octets e → ((IsWantOfMemory e × (12 ≤ length octets)) ⊎ RefusesMessage octets e)
behind_header octets e long (inl memory) = inl (memory, long)
behind_header octets e long (inr refused) = inr refused

pub before_of : (b : Bool) (op : OpCode) → b ≡ is_update op → record { is_update = b; is_additional = false; is_signed = false; has_options = false } ≡ before_additionals op
before_of b op e = λ i. record { is_update = e i; is_additional = false; is_signed = false; has_options = false }

pub header_err : (octets : List ℕ) (e : DecodeError) → IsCut 12 octets 0 e → ReadsMessage octets (Err e)
header_err octets e cut = (inr (no_header cut), inr (λ m is. omega (arith, cut.1, is.long)))

pub questions_err : (octets : List ℕ) (h : Header) (e : DecodeError) → h ≡ header_of octets → 12 ≤ length octets → IsWantOfMemory e ⊎ RefusesQuestions octets 12 h.counts.queries e → IsWantOfMemory e ⊎ ((asked : Asked) (end : ℕ) → AskedAt octets 12 h.counts.queries asked end → ⊥) → ReadsMessage octets (Err e)
questions_err octets h e means long refused none =
    let refused = subst (λ (h : Header). IsWantOfMemory e ⊎ RefusesQuestions octets 12 h.counts.queries e) means refused in
    let none = subst (λ (h : Header). IsWantOfMemory e ⊎ ((asked : Asked) (end : ℕ) → AskedAt octets 12 h.counts.queries asked end → ⊥)) means none in (
      behind_header octets e long (or_map (λ r. no_questions long r) refused),
      or_map (λ (none : (asked : Asked) (end : ℕ) → AskedAt octets 12 (header_of octets).counts.queries asked end → ⊥) (m : Message) (is : IsMessage octets m). none m.asked is.questions_end is.questions) none,
    )

-- What stands before a section.
pub record Asks (octets : List ℕ) (h : Header) (asked : Asked) (place : ℕ) : Type 0 where
  pub means : h ≡ header_of octets
  pub long : 12 ≤ length octets
  pub there : AskedAt octets 12 h.counts.queries asked place

asked_there : (octets : List ℕ) (h : Header) (asked : Asked) (place : ℕ) → Asks octets h asked place → AskedAt octets 12 (header_of octets).counts.queries asked place
asked_there octets h asked place a = subst (λ (h : Header). AskedAt octets 12 h.counts.queries asked place) a.means a.there

pub answers_err : (octets : List ℕ) (h : Header) (asked : Asked) (place : ℕ) (e : DecodeError) → Asks octets h asked place → IsWantOfMemory e ⊎ RefusesSection (before_additionals h.metadata.op_code) octets place h.counts.answers e → IsWantOfMemory e ⊎ ((records : List Record) (end : ℕ) → SectionAt (before_additionals h.metadata.op_code) octets place h.counts.answers records end → ⊥) → ReadsMessage octets (Err e)
answers_err octets h asked place e a refused none =
    let there = asked_there octets h asked place a in
    let refused = subst (λ (h : Header). IsWantOfMemory e ⊎ RefusesSection (before_additionals h.metadata.op_code) octets place h.counts.answers e) a.means refused in
    let none = subst (λ (h : Header). IsWantOfMemory e ⊎ ((records : List Record) (end : ℕ) → SectionAt (before_additionals h.metadata.op_code) octets place h.counts.answers records end → ⊥)) a.means none in (
      behind_header octets e a.long (or_map (λ r. no_answers a.long asked place there r) refused),
      or_map (λ (none : (records : List Record) (end : ℕ) → SectionAt (before_additionals (header_of octets).metadata.op_code) octets place (header_of octets).counts.answers records end → ⊥) (m : Message) (is : IsMessage octets m).
          none m.answers is.answers_end (subst (λ (p : ℕ). SectionAt (before_additionals (header_of octets).metadata.op_code) octets p (header_of octets).counts.answers m.answers is.answers_end)
          (asked_end octets 12 (header_of octets).counts.queries m.asked asked is.questions_end place is.questions there) is.answers)) none,
    )

pub authorities_err : (octets : List ℕ) (h : Header) (asked : Asked) (answers : List Record) (first place : ℕ) (e : DecodeError) → Asks octets h asked first → SectionAt (before_additionals h.metadata.op_code) octets first h.counts.answers answers place → IsWantOfMemory e ⊎ RefusesSection (before_additionals h.metadata.op_code) octets place h.counts.authorities e → IsWantOfMemory e ⊎ ((records : List Record) (end : ℕ) → SectionAt (before_additionals h.metadata.op_code) octets place h.counts.authorities records end → ⊥) → ReadsMessage octets (Err e)
authorities_err octets h asked answers first place e a found refused none =
    let there = asked_there octets h asked first a in
    let found = subst (λ (h : Header). SectionAt (before_additionals h.metadata.op_code) octets first h.counts.answers answers place) a.means found in
    let refused = subst (λ (h : Header). IsWantOfMemory e ⊎ RefusesSection (before_additionals h.metadata.op_code) octets place h.counts.authorities e) a.means refused in
    let none = subst (λ (h : Header). IsWantOfMemory e ⊎ ((records : List Record) (end : ℕ) → SectionAt (before_additionals h.metadata.op_code) octets place h.counts.authorities records end → ⊥)) a.means none in (
      behind_header octets e a.long (or_map (λ r. no_authorities a.long asked answers first place there found r) refused),
      or_map (λ (none : (records : List Record) (end : ℕ) → SectionAt (before_additionals (header_of octets).metadata.op_code) octets place (header_of octets).counts.authorities records end → ⊥) (m : Message) (is : IsMessage octets m).
          let questions = asked_end octets 12 (header_of octets).counts.queries m.asked asked is.questions_end first is.questions there in
          let answers_end = section_end (before_additionals (header_of octets).metadata.op_code) octets first (header_of octets).counts.answers m.answers answers is.answers_end place
          (subst (λ (p : ℕ). SectionAt (before_additionals (header_of octets).metadata.op_code) octets p (header_of octets).counts.answers m.answers is.answers_end) questions is.answers) found in
          none m.authorities is.authorities_end (subst (λ (p : ℕ). SectionAt (before_additionals (header_of octets).metadata.op_code) octets p (header_of octets).counts.authorities m.authorities is.authorities_end) answers_end is.authorities)) none,
    )

pub additionals_err : (octets : List ℕ) (h : Header) (asked : Asked) (answers authorities : List Record) (first second place : ℕ) (e : DecodeError) → Asks octets h asked first → SectionAt (before_additionals h.metadata.op_code) octets first h.counts.answers answers second → SectionAt (before_additionals h.metadata.op_code) octets second h.counts.authorities authorities place → IsWantOfMemory e ⊎ RefusesAdditionals h.metadata.op_code octets place h.counts.additionals e → IsWantOfMemory e ⊎ ((rs : List Record) (o : Option Edns) (t : Option TsigRecord) (end : ℕ) → AdditionalsAt octets h.metadata.op_code place h.counts.additionals rs o t end → ⊥) → ReadsMessage octets (Err e)
additionals_err octets h asked answers authorities first second place e a found more refused none =
    let there = asked_there octets h asked first a in
    let found = subst (λ (h : Header). SectionAt (before_additionals h.metadata.op_code) octets first h.counts.answers answers second) a.means found in
    let more = subst (λ (h : Header). SectionAt (before_additionals h.metadata.op_code) octets second h.counts.authorities authorities place) a.means more in
    let refused = subst (λ (h : Header). IsWantOfMemory e ⊎ RefusesAdditionals h.metadata.op_code octets place h.counts.additionals e) a.means refused in
    let none = subst (λ (h : Header). IsWantOfMemory e ⊎ ((rs : List Record) (o : Option Edns) (t : Option TsigRecord) (end : ℕ) → AdditionalsAt octets h.metadata.op_code place h.counts.additionals rs o t end → ⊥)) a.means none in (
      behind_header octets e a.long (or_map (λ r. no_additionals a.long asked answers authorities first second place there found more r) refused),
      or_map (λ (none : (rs : List Record) (o : Option Edns) (t : Option TsigRecord) (end : ℕ) → AdditionalsAt octets (header_of octets).metadata.op_code place (header_of octets).counts.additionals rs o t end → ⊥) (m : Message) (is : IsMessage octets m).
          let questions = asked_end octets 12 (header_of octets).counts.queries m.asked asked is.questions_end first is.questions there in
          let answers_end = section_end (before_additionals (header_of octets).metadata.op_code) octets first (header_of octets).counts.answers m.answers answers is.answers_end second
          (subst (λ (p : ℕ). SectionAt (before_additionals (header_of octets).metadata.op_code) octets p (header_of octets).counts.answers m.answers is.answers_end) questions is.answers) found in
          let authorities_end = section_end (before_additionals (header_of octets).metadata.op_code) octets second (header_of octets).counts.authorities m.authorities authorities is.authorities_end place
          (subst (λ (p : ℕ). SectionAt (before_additionals (header_of octets).metadata.op_code) octets p (header_of octets).counts.authorities m.authorities is.authorities_end) answers_end is.authorities) more in
          none m.additionals m.edns m.signature is.end (subst (λ (p : ℕ). AdditionalsAt octets (header_of octets).metadata.op_code p (header_of octets).counts.additionals m.additionals m.edns m.signature is.end) authorities_end is.additionals)) none,
    )

-- All of it was read.
pub is_message : (octets : List ℕ) (h : Header) (asked : Asked) (answers authorities additionals : List Record) (edns : Option Edns) (signature : Option TsigRecord) (metadata : Metadata) (first second third end : ℕ) → Asks octets h asked first → SectionAt (before_additionals h.metadata.op_code) octets first h.counts.answers answers second → SectionAt (before_additionals h.metadata.op_code) octets second h.counts.authorities authorities third → AdditionalsAt octets h.metadata.op_code third h.counts.additionals additionals edns signature end → metadata ≡ joined_metadata h.metadata edns → IsMessage octets (record { metadata = metadata; asked = asked; answers = answers; authorities = authorities; additionals = additionals; edns = edns; signature = signature })
is_message octets h asked answers authorities additionals edns signature metadata first second third end a found more last joined = record {
  long = a.long;
  questions_end = first;
  answers_end = second;
  authorities_end = third;
  end = end;
  questions = asked_there octets h asked first a;
  answers = subst (λ (h : Header). SectionAt (before_additionals h.metadata.op_code) octets first h.counts.answers answers second) a.means found;
  authorities = subst (λ (h : Header). SectionAt (before_additionals h.metadata.op_code) octets second h.counts.authorities authorities third) a.means more;
  additionals = subst (λ (h : Header). AdditionalsAt octets h.metadata.op_code third h.counts.additionals additionals edns signature end) a.means last;
  metadata = joined ∙ ap (λ (h : Header). joined_metadata h.metadata edns) a.means;
}

-- It is held in a list.
pub is_held : (octets : List ℕ) (metadata : Metadata) (asked : Asked) (answers authorities additionals : List Record) (edns : Option Edns) (signature : Option TsigRecord) (held : Option HeldRecords) → answers_held held ≡ answers → authorities_held held ≡ authorities → additionals_held held ≡ additionals → signature_held held ≡ signature
    → IsMessage octets (record { metadata = metadata; asked = asked; answers = answers; authorities = authorities; additionals = additionals; edns = edns; signature = signature }) → IsMessage octets (message_of metadata asked edns held)
is_held octets metadata asked answers authorities additionals edns signature held first second third last is =
    let same : record { metadata = metadata; asked = asked; answers = answers; authorities = authorities; additionals = additionals; edns = edns; signature = signature } ≡ message_of metadata asked edns held =
    λ i. record { metadata = metadata; asked = asked; answers = sym first i; authorities = sym second i; additionals = sym third i; edns = edns; signature = sym last i } in
    subst (λ (m : Message). IsMessage octets m) same is

-- Where memory is wanted behind the last record.
pub memory_err : (octets : List ℕ) (e : DecodeError) → 12 ≤ length octets → IsWantOfMemory e → ReadsMessage octets (Err e)
memory_err octets e long memory = (inl (memory, long), inl memory)

-- The questions behind a header that was read.
pub asks_of : (octets : List ℕ) (begin read asked_reader : Reading) (h : Header) (asked : Asked) → begin ≡ reading octets 0 → HeaderAt begin.octets begin.index h read.index → read.octets ≡ begin.octets → AskedAt read.octets read.index h.counts.queries asked asked_reader.index → Asks octets h asked asked_reader.index
asks_of octets begin read asked_reader h asked start at same there =
    let octets_are : read.octets ≡ octets = same ∙ ap (λ (r : Reading). r.octets) start in
    let at_start : HeaderAt octets 0 h read.index = subst (λ (r : Reading). HeaderAt r.octets r.index h read.index) start at in
    record {
      means = at_start.means;
      long = omega (arith, at_start.within, at_start.behind);
      there = subst (λ (p : ℕ). AskedAt octets p h.counts.queries asked asked_reader.index) at_start.behind (subst (λ (o : List ℕ). AskedAt o read.index h.counts.queries asked asked_reader.index) octets_are there);
    }

-- ---- no records
-- Where none are counted, none stand.
none_stand : (at : Placing) (message : List ℕ) (place count : ℕ) → count ≡ 0 → SectionAt at message place count [] place
none_stand at message place count none = (refl, sym none)

none_added : (op : OpCode) (message : List ℕ) (place count : ℕ) → count ≡ 0 → AdditionalsAt message op place count [] None None place
none_added op message place count none = record {
  standing = [];
  there = none_stand (in_additionals op) message place count none;
  rest = refl;
  options = tt;
  signs = tt;
}

none_counted : (counts : HeaderCounts) → counts_no_records counts ≡ true → (counts.answers ≡ 0) × (counts.authorities ≡ 0) × (counts.additionals ≡ 0)
none_counted counts e =
    let first = and_parts (counts.answers == 0 && counts.authorities == 0) (counts.additionals == 0) e in
    let second = and_parts (counts.answers == 0) (counts.authorities == 0) first.0 in
    (eqb-true counts.answers 0 second.0, eqb-true counts.authorities 0 second.1, eqb-true counts.additionals 0 first.1)

-- All of it was read where questions alone are counted.
pub is_bare_message : (octets : List ℕ) (h : Header) (asked : Asked) (place : ℕ) → Asks octets h asked place → counts_no_records h.counts ≡ true → IsMessage octets (bare_message h.metadata asked)
is_bare_message octets h asked place asks none =
    let op = h.metadata.op_code in
    let counts = none_counted h.counts none in
    is_message octets h asked [] [] [] None None h.metadata place place place place asks (none_stand (before_additionals op) octets place h.counts.answers counts.0)
    (none_stand (before_additionals op) octets place h.counts.authorities counts.1) (none_added op octets place h.counts.additionals counts.2) refl
