-- Why octets that a server is sent are refused.
use Rattle.std.proofs.Common.{◌≤◌, ℕ, List, length, ◌⊎◌, inl, inr, subst}
use Rattle.zsv_answer.specs.zsv_reply.zsv_message.Messages.{RefusesMessage, no_additionals, no_answers, no_authorities, no_header, no_questions}
use Rattle.zsv_answer.specs.zsv_reply.zsv_message.zsv_parts.dnw_decoder.Reading.{IsWantOfMemory}
use Rattle.zsv_answer.specs.zst_request.dnw_codes.declared.error.DecodeError.{DecodeError}

-- Memory is wanted only behind a whole header.
pub memory_behind_header : (octets : List ℕ) (e : DecodeError) → IsWantOfMemory e → (IsWantOfMemory e × (12 ≤ length octets)) ⊎ RefusesMessage octets e → 12 ≤ length octets
memory_behind_header octets e wanted (inl (memory, long)) = long
memory_behind_header octets e wanted (inr (no_header (is, cut))) = absurd (subst IsWantOfMemory is wanted)
memory_behind_header octets e wanted (inr (no_questions long refused)) = long
memory_behind_header octets e wanted (inr (no_answers long asked place there refused)) = long
memory_behind_header octets e wanted (inr (no_authorities long asked answers first place there found refused)) = long
memory_behind_header octets e wanted (inr (no_additionals long asked answers authorities first second place there found more refused)) = long
