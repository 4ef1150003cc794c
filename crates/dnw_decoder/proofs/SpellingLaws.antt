-- One place spells one name, within the message, by few pointers.
use Rattle.std.proofs.Common.{◌≡◌, ℕ, ◌<◌, ◌≤◌, Bool, List, [], ◌∷◌, length, drop, min, refl, sym, ap, subst, ◌∙◌, arith}
use Rattle.dnw_name.specs.DomainName.{DomainName, domain_name}
use Rattle.dnw_name.specs.dnw_label.Label.{IsLabel}
use Rattle.dnw_decoder.specs.Octets.{Stands}
use Rattle.dnw_decoder.specs.Spelling.{pointer_octets, Spelled, at_end, at_label, at_pointer, NameAt, pointers}
use Rattle.dnw_decoder.proofs.Standing.{stands_head, stands_within, stands_same, pointer_once}

-- Where a label stands, what is spelled begins with it.
pub label_first : (message : List ℕ) (segment bound place behind : ℕ) (one : List ℕ) (all : List (List ℕ)) (end : ℕ) → IsLabel one → Stands message place (length one ∷ one) behind → Spelled message segment bound place all end → (rest : List (List ℕ)) × (all ≡ one ∷ rest) × Spelled message segment bound behind rest end
label_first message segment bound place behind one _ end is there (at_end inside s) =
    absurd (omega (arith, stands_head message place _ _ _ there, stands_head message place _ _ _ s, is.some))
label_first message segment bound place behind one _ end is there (at_label {behind = other} {first = first} {rest = rest} inside is_label s later) =
    let head : length first ≡ length one = sym (stands_head message place _ _ _ s) ∙ stands_head message place _ _ _ there in
    let same = stands_same message place (length first ∷ first) (length one ∷ one) other behind (omega arith) s there in
    let label : first ≡ one = ap (λ (octets : List ℕ). drop 1 octets) same.0 in
    (rest, ap (λ (l : List ℕ). l ∷ rest) label, subst (λ (p : ℕ). Spelled message segment bound p rest end) same.1 later)
label_first message segment bound place behind one all end is there (at_pointer {target = target} inside backward small s later) =
    absurd (omega (arith, stands_head message place _ _ _ there, stands_head message place _ _ _ s, is.few))

-- Where a pointer stands, what is spelled is at its target.
pub pointer_first : (message : List ℕ) (segment bound place target behind : ℕ) (all : List (List ℕ)) (end : ℕ) → target < 16384 → Stands message place (pointer_octets target) behind → Spelled message segment bound place all end → (later : ℕ) × (end ≡ behind) × Spelled message target segment target all later
pointer_first message segment bound place target behind _ end small there (at_end inside s) =
    absurd (omega (arith, stands_head message place _ _ _ there, stands_head message place _ _ _ s))
pointer_first message segment bound place target behind _ end small there (at_label {first = first} inside is_label s later) =
    absurd (omega (arith, stands_head message place _ _ _ there, stands_head message place _ _ _ s, is_label.few))
pointer_first message segment bound place target behind all end small there (at_pointer {target = other} {end = last} inside backward few s later) =
    let same = pointer_once message place other target end behind s there in
    (last, same.1, subst (λ (t : ℕ). Spelled message t segment t all last) same.0 later)

-- Where an end stands, nothing more is spelled.
pub end_first : (message : List ℕ) (segment bound place behind : ℕ) (all : List (List ℕ)) (end : ℕ) → Stands message place (0 ∷ []) behind → Spelled message segment bound place all end → (all ≡ []) × (end ≡ behind)
end_first message segment bound place behind _ end there (at_end inside s) = (refl, s.behind ∙ sym there.behind)
end_first message segment bound place behind _ end there (at_label {first = first} inside is_label s later) =
    absurd (omega (arith, stands_head message place _ _ _ there, stands_head message place _ _ _ s, is_label.some))
end_first message segment bound place behind all end there (at_pointer {target = target} inside backward small s later) =
    absurd (omega (arith, stands_head message place _ _ _ there, stands_head message place _ _ _ s))

-- One place spells one name, and its octets end at one place.
pub spelled_once : (message : List ℕ) (segment bound place : ℕ) (a b : List (List ℕ)) (e f : ℕ) → Spelled message segment bound place a e → Spelled message segment bound place b f → (a ≡ b) × (e ≡ f)
spelled_once message segment bound place _ b e f (at_end inside s) other =
    let found = end_first message segment bound place _ b f s other in (sym found.0, sym found.1)
spelled_once message segment bound place _ b e f (at_label {behind = behind} {first = first} {rest = rest} inside is_label s later) other =
    let found = label_first message segment bound place behind first b f is_label s other in
    let again = spelled_once message segment bound behind rest found.0 e f later found.2 in
    (ap (λ (ls : List (List ℕ)). first ∷ ls) again.0 ∙ sym found.1, again.1)
spelled_once message segment bound place a b e f (at_pointer {target = target} {behind = behind} {end = last} inside backward small s later) other =
    let found = pointer_first message segment bound place target behind b f small s other in
    let again = spelled_once message target segment target a b last found.0 later found.2 in
    (again.0, sym found.1)

-- One place holds one name.
pub name_once : (message : List ℕ) (place : ℕ) (a b : DomainName) (e f : ℕ) → NameAt message place a e → NameAt message place b f → (a ≡ b) × (e ≡ f)
name_once message place a b e f s t =
    let found = spelled_once message place (length message) place a.labels b.labels e f s.spelled t.spelled in
    (ap (λ (full : Bool). domain_name full a.labels) (s.full ∙ sym t.full) ∙ ap (λ (ls : List (List ℕ)). domain_name b.fqdn ls) found.0, found.1)

-- What is spelled ends within the message, behind its place.
pub spelled_within : (message : List ℕ) (segment bound place : ℕ) (found : List (List ℕ)) (end : ℕ) → Spelled message segment bound place found end → (place < end) × (end ≤ length message)
spelled_within message segment bound place _ end (at_end inside s) =
    (omega (arith, s.behind), stands_within message place (0 ∷ []) end (omega arith) s)
spelled_within message segment bound place _ end (at_label {behind = behind} {rest = rest} inside is_label s later) =
    let more = spelled_within message segment bound behind rest end later in
    (omega (arith, s.behind, more.0), more.1)
spelled_within message segment bound place found end (at_pointer {target = target} inside backward small s later) =
    (omega (arith, s.behind), stands_within message place (pointer_octets target) end (omega arith) s)

-- Each pointer goes strictly backward, and below 16,384.
pub pointers_few : (message : List ℕ) (segment bound place : ℕ) (found : List (List ℕ)) (end : ℕ) (s : Spelled message segment bound place found end) → pointers s ≤ min segment 16384
pointers_few message segment bound place _ end (at_end inside there) = omega arith
pointers_few message segment bound place _ end (at_label inside is_label there rest) = pointers_few message segment bound _ _ end rest
pointers_few message segment bound place found end (at_pointer {target = target} inside backward small there rest) =
    omega (arith, pointers_few message target segment target found _ rest)
