-- Where reading a name is refused, none is spelled.
use Rattle.std.proofs.Common.{◌≡◌, ℕ, ◌+◌, ◌/◌, ◌%◌, ◌<◌, ◌≤◌, ◌⊎◌, inl, inr, List, [], ◌∷◌, ◌++◌, length, get_or, arith}
use Rattle.std.proofs.lemmas.Bool.Decides.{nat_tests}
use Rattle.std.proofs.lemmas.List.Sums.{sum_by-append, sum_by-cons}
use Rattle.dnw_name.specs.dnw_codes.declared.error.DecodeError.{DecodeError}
use Rattle.dnw_name.specs.dnw_codes.declared.error.DecodeError.TheVariants.{InsufficientBytes, LabelOverlapsWithOther, UnrecognizedLabelCode, PointerNotPriorToLabel, DomainNameTooLong, Memory}
use Rattle.dnw_name.specs.DomainName.{DomainName, labels_len}
use Rattle.dnw_decoder.specs.Reading.{IsWantOfMemory}
use Rattle.dnw_decoder.specs.Spelling.{pointer_octets, Spelled, at_end, at_label, at_pointer, NameAt}
use Rattle.dnw_decoder.specs.Refusals.{Refuses, IsCause, element_len, pointer_target}
use Rattle.dnw_decoder.proofs.Standing.{stands_head, stands_second, stands_within}
use Rattle.dnw_decoder.proofs.Reached.{reached_only}

pub element_short : (first : ℕ) → first < 64 → element_len first ≡ first + 1
element_short first few = grind (arith, nat_tests)

pub element_long : (first : ℕ) → 64 ≤ first → element_len first ≡ 2
element_long first many = grind (arith, nat_tests)

labels_len-append : (found rest : List (List ℕ)) → labels_len (found ++ rest) ≡ labels_len found + labels_len rest
labels_len-append = sum_by-append (λ label. length label + 1)

labels_len-cons : (label : List ℕ) (labels : List (List ℕ)) → labels_len (label ∷ labels) ≡ length label + 1 + labels_len labels
labels_len-cons = sum_by-cons (λ label. length label + 1)

-- What begins at a place where a name is spelled.
record Begins (message : List ℕ) (segment bound place : ℕ) (rest : List (List ℕ)) : Type 0 where
  inside : place < bound
  whole : place + element_len (get_or message place 0) ≤ length message
  kind : (get_or message place 0 < 64) ⊎ ((192 ≤ get_or message place 0) × (pointer_target message place < segment))
  long : 0 < get_or message place 0 → get_or message place 0 < 64 → get_or message place 0 + 1 ≤ labels_len rest

begins : (message : List ℕ) (segment bound place : ℕ) (rest : List (List ℕ)) (end : ℕ) → Spelled message segment bound place rest end → Begins message segment bound place rest
begins message segment bound place _ end (at_end inside there) =
    let head : get_or message place 0 ≡ 0 = stands_head message place _ _ _ there in
    record {
      inside = inside;
      whole = omega (arith, element_short (get_or message place 0) (omega arith), stands_within message place (0 ∷ []) _ (omega arith) there, there.behind);
      kind = inl (omega arith);
      long = λ some few. absurd (omega arith);
    }
begins message segment bound place _ end (at_label {behind = behind} {first = first} {rest = rest} inside is_label there later) =
    let head : get_or message place 0 ≡ length first = stands_head message place _ _ _ there in
    record {
      inside = inside;
      whole = omega (arith, element_short (get_or message place 0) (omega (arith, is_label.few)), stands_within message place (length first ∷ first) behind (omega arith) there, there.behind);
      kind = inl (omega (arith, is_label.few));
      long = λ some few. omega (arith, labels_len-cons first rest);
    }
begins message segment bound place rest end (at_pointer {target = target} {behind = behind} inside backward small there later) =
    let head : get_or message place 0 ≡ 192 + target / 256 = stands_head message place _ _ _ there in
    let second : get_or message (place + 1) 0 ≡ target % 256 = stands_second message place _ _ _ _ there in
    record {
      inside = inside;
      whole = omega (arith, element_long (get_or message place 0) (omega arith), stands_within message place (pointer_octets target) behind (omega arith) there, there.behind);
      kind = inr (omega arith, omega arith);
      long = λ some few. absurd (omega arith);
    }

-- No name goes on where a cause stands, but want of memory.
cause_none : (message : List ℕ) (found : List (List ℕ)) (segment bound place : ℕ) (e : DecodeError) → IsCause message found segment bound place e → IsWantOfMemory e ⊎ ((rest : List (List ℕ)) → Begins message segment bound place rest → labels_len (found ++ rest) + 1 ≤ 255 → ⊥)
cause_none message found segment bound place (LabelOverlapsWithOther label other) h = inr (λ rest b size. omega (arith, h, b.inside))
cause_none message found segment bound place InsufficientBytes h = inr (λ rest b size. omega (arith, h.2, b.whole))
cause_none message found segment bound place (UnrecognizedLabelCode first) h =
    inr (λ rest b size. elim b.kind [ inl few ↦ omega (arith, h, few) | inr many ↦ omega (arith, h, many) ])
cause_none message found segment bound place (PointerNotPriorToLabel index target) h =
    inr (λ rest b size. elim b.kind [ inl few ↦ omega (arith, h, few) | inr many ↦ omega (arith, h, many) ])
cause_none message found segment bound place (DomainNameTooLong octets) h =
    inr (λ rest b size. omega (arith, h, b.long h.1 h.2, labels_len-append found rest, size))
cause_none message found segment bound place Memory h = inl tt
cause_none message found segment bound place other h = absurd h

pub refuses_none : (message : List ℕ) (start : ℕ) (e : DecodeError) → Refuses message start e → IsWantOfMemory e ⊎ ((name : DomainName) (end : ℕ) → NameAt message start name end → ⊥)
refuses_none message start e r =
    elim (cause_none message r.found r.segment r.bound r.place e r.cause) [
      | inl memory ↦ inl memory
      | inr none ↦ inr (λ name end there.
          let only = reached_only message start r.found r.segment r.bound r.place r.resume r.reached name.labels end there.spelled in
          none only.0 (begins message r.segment r.bound r.place only.0 only.1 only.4) (rw only.2 at there.size))
    ]
