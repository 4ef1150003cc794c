-- Messages of one question, whose name stands in full, and no records.
use Rattle.std.proofs.Common.{◌≡◌, ℕ, ◌≤◌, true, false, List, length, sym, ap, subst, ◌∙◌}
use Rattle.std.proofs.lemmas.Bool.{and_parts, eqb-true, true≢false}
use Rattle.std.specs.Prelude.{◌==◌}
use Rattle.zsv_sections.specs.zsv_parts.declared.header.Header.{Header}
use Rattle.zsv_sections.specs.zsv_parts.Headers.{header_of}
use Rattle.zsv_sections.specs.zsv_parts.Questions.{Asked, AskedAt}
use Rattle.zsv_message.specs.Messages.{AsksWhole, IsMessage, asks_alone, bare_message, counts_no_records}
use Rattle.zsv_message.proofs.Whole.{Asks, is_bare_message}

-- The message is there.
pub bare_there : (octets : List ℕ) (h : Header) (asked : Asked) (end : ℕ) → h ≡ header_of octets → 12 ≤ length octets → asks_alone h.counts ≡ true → AskedAt octets 12 1 asked end → IsMessage octets (bare_message h.metadata asked)
bare_there octets h asked end means long alone there =
    let both = and_parts (h.counts.queries == 1) (counts_no_records h.counts) alone in
    let asks : Asks octets h asked end = record {
      means = means;
      long = long;
      there = subst (λ (n : ℕ). AskedAt octets 12 n asked end) (sym (eqb-true h.counts.queries 1 both.0)) there;
    } in
    is_bare_message octets h asked end asks both.1

-- Its header counts something else.
pub not_alone : (octets : List ℕ) (h : Header) (asked : Asked) → h ≡ header_of octets → asks_alone h.counts ≡ false → AsksWhole octets asked → ⊥
not_alone octets h asked means other asks =
    true≢false (sym asks.alone ∙ ap (λ (h : Header). asks_alone h.counts) (sym means) ∙ other)
