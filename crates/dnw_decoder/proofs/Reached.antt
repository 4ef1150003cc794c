-- From what was read to the whole name and back.
use Rattle.std.proofs.Common.{◌≡◌, ℕ, List, [], ◌∷◌, ◌++◌, Option, unwrap_or, refl, sym, ap, subst, ◌∙◌, append_assoc}
use Rattle.dnw_decoder.specs.Spelling.{Spelled, Spells, at_label, at_pointer}
use Rattle.dnw_decoder.specs.Refusals.{Reaches, at_start, behind_label, at_target}
use Rattle.dnw_decoder.proofs.SpellingLaws.{label_first, pointer_first}

-- Whatever is spelled from here on completes the whole.
pub reached_whole : (message : List ℕ) (start : ℕ) (found : List (List ℕ)) (segment bound place : ℕ) (resume : Option ℕ) → Reaches message start found segment bound place resume → (rest : List (List ℕ)) (end : ℕ) → Spelled message segment bound place rest end → Spells message start (found ++ rest) (unwrap_or resume end)
reached_whole message start _ _ _ _ _ at_start rest end s = s
reached_whole message start _ _ _ _ _ (behind_label {found = found} {resume = resume} {next = next} before inside is_label there) rest end s =
    subst (λ (all : List (List ℕ)). Spells message start all (unwrap_or resume end)) (sym (append_assoc found (next ∷ []) rest))
    (reached_whole message start _ _ _ _ _ before (next ∷ rest) end (at_label inside is_label there s))
reached_whole message start _ _ _ _ _ (at_target {behind = behind} before inside backward small there) rest end s =
    reached_whole message start _ _ _ _ _ before rest behind (at_pointer inside backward small there s)

-- Every whole begins with what was read.
pub reached_only : (message : List ℕ) (start : ℕ) (found : List (List ℕ)) (segment bound place : ℕ) (resume : Option ℕ) → Reaches message start found segment bound place resume → (all : List (List ℕ)) (end : ℕ) → Spells message start all end → (rest : List (List ℕ)) × (later : ℕ) × (all ≡ found ++ rest) × (end ≡ unwrap_or resume later) × Spelled message segment bound place rest later
reached_only message start _ _ _ _ _ at_start all end s = (all, end, refl, refl, s)
reached_only message start _ _ _ _ _ (behind_label {found = found} {segment = segment} {bound = bound} {place = place} {behind = behind} {next = next} before inside is_label there) all end s =
    let earlier = reached_only message start _ _ _ _ _ before all end s in
    let first = label_first message segment bound place behind next earlier.0 earlier.1 is_label there earlier.4 in
    (first.0, earlier.1, earlier.2 ∙ ap (λ (ls : List (List ℕ)). found ++ ls) first.1 ∙ sym (append_assoc found (next ∷ []) first.0), earlier.3, first.2)
reached_only message start _ _ _ _ _ (at_target {segment = segment} {bound = bound} {place = place} {target = target} {behind = behind} {resume = resume} before inside backward small there) all end s =
    let earlier = reached_only message start _ _ _ _ _ before all end s in
    let first = pointer_first message segment bound place target behind earlier.0 earlier.1 small there earlier.4 in
    (earlier.0, first.0, earlier.2, earlier.3 ∙ ap (λ (e : ℕ). unwrap_or resume e) first.1, first.2)
