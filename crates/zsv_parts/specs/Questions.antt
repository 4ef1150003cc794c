-- Questions: RFC 1035, section 4.1.2.
use Rattle.std.specs.Prelude.{◌≡◌, ℕ, ◌<◌, ◌^◌, ◌++◌, ◌⊎◌, Bool, List, [], ◌∷◌, length, nat_eq}
use Rattle.std.specs.Cmp.Lexicographic.{pointwise}
use Rattle.std.specs.Ordering.{eq_of_both, on}
use Rattle.dnw_codes.specs.DNSClass.{same_class}
use Rattle.dnw_codes.specs.RecordType.{same_record_type}
use Rattle.dnw_codes.specs.declared.error.DecodeError.{DecodeError}
use Rattle.dnw_encoder.specs.dnw_name.DomainName.{DomainName, name_eq, name_octets}
use Rattle.dnw_encoder.specs.dnw_decoder.Codes.{RecordTypeAt, ClassAt}
use Rattle.dnw_encoder.specs.dnw_decoder.Octets.{Stands}
use Rattle.dnw_encoder.specs.dnw_decoder.Reading.{IsCut}
use Rattle.dnw_encoder.specs.dnw_decoder.Refusals.{Refuses}
use Rattle.dnw_encoder.specs.dnw_decoder.Spelling.{NameAt}
use Rattle.zsv_parts.specs.declared.question.Query.{Query}
use Rattle.zsv_parts.specs.Wire.{Entries, PointsFrom}

-- A question at a place: a name, a type, a class.
pub record QuestionAt (message : List ℕ) (place : ℕ) (question : Query) (end : ℕ) : Type 0 where
  pub middle : ℕ
  pub last : ℕ
  pub name : NameAt message place question.name middle
  pub query_type : RecordTypeAt message middle question.query_type last
  pub query_class : ClassAt message last question.query_class end

-- Two questions are equal where name, type and class are, the name up to the case of its ASCII
-- letters (RFC 4343).
abbrev pub question_eq : Query → Query → Bool
question_eq =
    eq_of_both (on (λ q. q.name) name_eq)
    (eq_of_both (on (λ q. q.query_type) same_record_type) (on (λ q. q.query_class) same_class))

-- So many questions from a place on.
abbrev pub QuestionsAt : List ℕ → ℕ → ℕ → List Query → ℕ → Type 0
QuestionsAt message place count questions end =
    Entries (QuestionAt message) place questions end × (length questions ≡ count)

-- A question section: the questions, and the octets in which they stand.
pub record Asked : Type 0 where
  pub questions : List Query
  pub octets : List ℕ

-- Two question sections are equal where their questions and their octets are.
abbrev pub asked_eq : Asked → Asked → Bool
asked_eq =
    eq_of_both (on (λ a. a.questions) (pointwise question_eq))
    (on (λ a. a.octets) (pointwise nat_eq))

pub record AskedAt (message : List ℕ) (place count : ℕ) (asked : Asked) (end : ℕ) : Type 0 where
  pub questions : QuestionsAt message place count asked.questions end
  pub octets : Stands message place asked.octets end

-- They were read, at a place of some message; 16 bits count them.
pub record IsSection (asked : Asked) : Type 0 where
  pub few : length asked.questions < 2 ^ 16
  pub message : List ℕ
  pub place : ℕ
  pub end : ℕ
  pub there : AskedAt message place (length asked.questions) asked end

-- There is one question, whose octets begin with its name in full, spelled as it is.
pub record HasWholeName (asked : Asked) (name : DomainName) : Type 0 where
  pub question : Query
  pub only : asked.questions ≡ question ∷ []
  pub is : question.name ≡ name
  pub rest : List ℕ
  pub whole : asked.octets ≡ name_octets name ++ rest

-- A name is spelled at a place, and the type and the class behind it are cut.
pub record LacksCodes (message : List ℕ) (place : ℕ) (e : DecodeError) : Type 0 where
  pub name : DomainName
  pub behind : ℕ
  pub there : NameAt message place name behind
  pub cut : IsCut 4 message behind e

-- No question is read at a place: its name can't be read, or its type and class are cut.
abbrev pub RefusesQuestion : List ℕ → ℕ → DecodeError → Type 0
RefusesQuestion message place e = Refuses message place e ⊎ LacksCodes message place e

-- Fewer questions than counted stand from a place on, and the next one is refused.
pub record RefusesQuestions (message : List ℕ) (place count : ℕ) (e : DecodeError) : Type 0 where
  pub before : List Query
  pub at : ℕ
  pub there : Entries (QuestionAt message) place before at
  pub fewer : length before < count
  pub cause : RefusesQuestion message at e

-- No pointer that the questions follow has its target in the header.
abbrev pub AvoidsHeader : (message : List ℕ) (place : ℕ) (questions : List Query) (end : ℕ)
    → Entries (QuestionAt message) place questions end → Type 0
AvoidsHeader message place [] end there = Unit {0}
AvoidsHeader message place (q ∷ qs) end (behind, at, more) =
    PointsFrom 12 at.name.spelled × AvoidsHeader message behind qs end more
