-- A reply of a header and its questions, with nothing behind.
use Rattle.std.proofs.Common.{◌≡◌, ℕ, ◌+◌, ◌<◌, ◌≤◌, ◌∙◌, false, List, [], ◌++◌, length, length-append, drop, refl, sym, ap, arith}
use Rattle.std.proofs.lemmas.List.{append-nil, drop_all, drop_at}
use Rattle.zsv_request.specs.zsv_message.zst_record.dnw_decoder.Octets.{Stands}
use Rattle.zsv_request.specs.zsv_message.zsv_parts.Headers.{FitsOpCode, header_of, header_octets, reserved_bit}
use Rattle.zsv_request.specs.zsv_message.zsv_parts.Questions.{Asked}
use Rattle.zsv_request.specs.zsv_message.zsv_parts.declared.header.Header.{Header}
use Rattle.zsv_request.specs.zsv_message.zsv_parts.declared.header.Metadata.{Metadata}
use Rattle.zsv_request.proofs.zsv_message_lemmas.zsv_parts_lemmas.Flags.{reserved_zero}
use Rattle.zsv_reply.specs.Replies.{header_of_reply}
use Rattle.zsv_reply.specs.Writing.{IsBare, IsEncoded, bare_parts}

-- The questions of such a reply stand behind its header, and nothing behind them.
questions_stand : (h : Header) (octets reply : List ℕ) → reply ≡ header_octets h ++ octets → Stands reply 12 octets (12 + length octets)
questions_stand h octets reply same =
    let long : length reply ≡ 12 + length octets = ap length same ∙ length-append (header_octets h) octets in
    let none : drop (12 + length octets) reply ≡ [] = drop_all (12 + length octets) reply (omega (arith, long)) in
    record {
      there = ap (λ (o : List ℕ). drop 12 o) same ∙ drop_at (header_octets h) octets 12 refl
          ∙ sym (ap (λ (rest : List ℕ). octets ++ rest) none ∙ append-nil octets);
      behind = refl;
    }

pub bare_encoded : (m : Metadata) (h : Header) (asked : Asked) (limit : ℕ) (reply : List ℕ) → h ≡ header_of_reply m false (length asked.questions) 0 0 0 → (FitsOpCode m → (rest : List ℕ) → header_of (header_octets h ++ rest) ≡ h) → reply ≡ header_octets h ++ asked.octets → 12 + length asked.octets ≤ limit → IsEncoded h reply (bare_parts m) asked limit
bare_encoded m h asked limit reply is back same room =
    let first = 12 + length asked.octets in
    let long : length reply ≡ first = ap length same ∙ length-append (header_octets h) asked.octets in
    let read : FitsOpCode m → header_of reply ≡ h = λ fits. ap header_of same ∙ back fits asked.octets in
    let clear : reserved_bit reply ≡ false = ap reserved_bit same ∙ reserved_zero h asked.octets in
    let within : length reply ≤ limit = omega (arith, long, room) in
    record {
      within = within;
      reserved = clear;
      whole = λ fits. record {
        written = record {
          kept = record { answers = []; authorities = []; additionals = []; edns = []; signature = [] };
          asked = questions_stand h asked.octets reply same;
          fronts = record {
            answers_end = first;
            authorities_end = first;
            additionals_end = first;
            edns_end = first;
            answers = refl;
            authorities = refl;
            additionals = refl;
            edns = refl;
            signature = long;
          };
          header = λ fits. read fits ∙ is;
          reserved = clear;
          within = within;
        };
        header = is;
      };
      bare = λ less. absurd (omega (arith, less, room));
    }

-- A header alone, where the questions don't fit.
pub bare_failed : (m : Metadata) (h : Header) (asked : Asked) (limit : ℕ) (reply : List ℕ) → IsBare h reply m.id → 12 ≤ limit → limit < 12 + length asked.octets → IsEncoded h reply (bare_parts m) asked limit
bare_failed m h asked limit reply told least passes = record {
  within = omega (arith, told.long, least);
  reserved = told.reserved;
  whole = λ fits. absurd (omega (arith, fits, passes));
  bare = λ less. told;
}
