use Rattle.std.proofs.Common.{◌≡◌, ◌≤◌, length}
use Rattle.zsv_parts.specs.Questions.{QuestionAt}
use Rattle.zsv_parts.proofs.Questions.{EntriesAhead}
use Rattle.zsv_parts.proofs.question.read_questions.Given as goal

abbrev pub invariant-questions : goal.invariant-questions
invariant-questions l = record {
  ahead : EntriesAhead (QuestionAt l.initial.decoder.octets) l.initial.decoder.index l.questions.items l.decoder.index;
  counted : length l.questions.items ≡ l.counter;
  same : l.decoder.octets ≡ l.initial.decoder.octets;
  forward : l.initial.decoder.index ≤ l.decoder.index;
  within : l.initial.decoder.index ≤ length l.initial.decoder.octets → l.decoder.index ≤ length l.decoder.octets;
}
