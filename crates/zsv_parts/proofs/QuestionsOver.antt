-- Questions of one message that stand in another.
use Rattle.std.proofs.Common.{◌≡◌, ℕ, ◌+◌, ◌<◌, ◌≤◌, List, [], ◌∷◌, length, arith}
use Rattle.dnw_encoder.proofs.dnw_decoder_lemmas.SpellingLaws.{spelled_within}
use Rattle.zsv_parts.specs.declared.question.Query.{Query}
use Rattle.zsv_parts.specs.Questions.{QuestionAt, AvoidsHeader}
use Rattle.zsv_parts.specs.Wire.{Entries, PointsFrom}
use Rattle.zsv_parts.proofs.Pieces.{SameThere, stands_over, spelled_over}

-- Questions whose pointers don't go before some octets stand wherever these octets do.
question_over : (m n : List ℕ) (to : ℕ) → SameThere m n 12 to → to ≤ length n → (place : ℕ) (q : Query) (end : ℕ) → 12 ≤ place → end ≤ to → (at : QuestionAt m place q end) → PointsFrom 12 at.name.spelled → QuestionAt n place q end
question_over m n to same long place q end low high at far =
    let name = spelled_within m place (length m) place q.name.labels at.middle at.name.spelled in
    let typed : at.last ≡ at.middle + 2 = at.query_type.there.behind in
    let classed : end ≡ at.last + 2 = at.query_class.there.behind in
    record {
      middle = at.middle;
      last = at.last;
      name = record {
        full = at.name.full;
        spelled = spelled_over m n 12 to same long place (length m) place q.name.labels at.middle low (omega (arith, name.0, typed, classed, high)) (omega (arith, typed, classed, high)) at.name.spelled far;
        size = at.name.size;
      };
      query_type = record { number = at.query_type.number; small = at.query_type.small; means = at.query_type.means; there = stands_over m n 12 to same at.middle _ at.last (omega (arith, low, name.0)) (omega (arith, classed, high)) at.query_type.there };
      query_class = record { number = at.query_class.number; small = at.query_class.small; means = at.query_class.means; there = stands_over m n 12 to same at.last _ end (omega (arith, low, name.0, typed)) high at.query_class.there };
    }

question_after : (m : List ℕ) (place : ℕ) (q : Query) (end : ℕ) → QuestionAt m place q end → place < end
question_after m place q end at =
    omega (arith, (spelled_within m place (length m) place q.name.labels at.middle at.name.spelled).0, at.query_type.there.behind, at.query_class.there.behind)

questions_after : (m : List ℕ) (place : ℕ) (qs : List Query) (end : ℕ) → Entries (QuestionAt m) place qs end → place ≤ end
questions_after m place [] end e = omega (arith, e)
questions_after m place (q ∷ qs) end (behind, at, more) =
    omega (arith, question_after m place q behind at, questions_after m behind qs end more)

pub questions_over : (m n : List ℕ) (to : ℕ) → SameThere m n 12 to → to ≤ length n → (place : ℕ) (qs : List Query) (end : ℕ) → 12 ≤ place → end ≤ to → (there : Entries (QuestionAt m) place qs end) → AvoidsHeader m place qs end there → Entries (QuestionAt n) place qs end
questions_over m n to same long place [] end low high e far = e
questions_over m n to same long place (q ∷ qs) end low high (behind, at, more) far =
    let after = questions_after m behind qs end more in
    let before = question_after m place q behind at in (
      behind,
      question_over m n to same long place q behind low (omega (arith, after, high)) at far.0,
      questions_over m n to same long behind qs end (omega (arith, low, before)) high more far.1,
    )
