-- Laws of fields: they go forward, those of one kind end at one place, and where reading stops none
-- stand.
use Rattle.std.proofs.Common.{◌≡◌, ℕ, ◌+◌, ◌<◌, ◌≤◌, ◌⊎◌, inl, inr, ◌||◌, Bool, true, false, List, [], ◌∷◌, ◌++◌, map, length, get_or, refl, sym, ap, subst, ◌∙◌, arith}
use Rattle.std.proofs.lemmas.List.{map-append}
use Rattle.dnw_encoder.specs.dnw_codes.declared.error.DecodeError.{DecodeError}
use Rattle.dnw_encoder.specs.dnw_decoder.Octets.{octets_16, octets_32, Stands}
use Rattle.dnw_encoder.specs.dnw_decoder.Reading.{IsWantOfMemory}
use Rattle.dnw_encoder.proofs.dnw_decoder_lemmas.SpellingLaws.{name_once, spelled_within}
use Rattle.dnw_encoder.proofs.dnw_decoder_lemmas.Standing.{stands_head, stands_within, stands_same, cut_none, length-octets_32}
use Rattle.drd_fields.specs.Fields.{AreOrdered, Field, octet, short, long, name, string, strings, rest, Kind, kind_of, kinds_of, is_open, are_open, StringAt, StringsAt, FieldAt, FieldsAt}
use Rattle.drd_fields.specs.Reading.{RefusesKind, StopsReading}

pub strings_forward : (message : List ℕ) (place : ℕ) (ss : List (List ℕ)) (end : ℕ)
    → StringsAt message place ss end → place ≤ end
strings_forward message place [] end there = omega (arith, there)
strings_forward message place (s ∷ ss) end there =
    omega (arith, there.1.there.behind, strings_forward message there.0 ss end there.2)

field_forward : (message : List ℕ) (place : ℕ) (f : Field) (end : ℕ) → FieldAt message place f end
    → place ≤ end
field_forward message place (octet n) end there = omega (arith, there.behind)
field_forward message place (short n) end there = omega (arith, there.behind)
field_forward message place (long n) end there = omega (arith, there.behind)
field_forward message place (name n) end there =
    omega
    (arith, (spelled_within message place (length message) place n.labels end there.spelled).0)
field_forward message place (string s) end there = omega (arith, there.there.behind)
field_forward message place (strings ss) end there = strings_forward message place ss end there
field_forward message place (rest octets) end there = omega (arith, there.behind)

pub fields_forward : (message : List ℕ) (place : ℕ) (fs : List Field) (end : ℕ)
    → FieldsAt message place fs end → place ≤ end
fields_forward message place [] end there = omega (arith, there)
fields_forward message place (f ∷ fs) end there =
    omega (
      arith,
      field_forward message place f there.0 there.1,
      fields_forward message there.0 fs end
          there.2,
    )

-- One place holds one string.
pub string_once : (message : List ℕ) (place : ℕ) (s t : List ℕ) (e f : ℕ)
    → StringAt message place s e → StringAt message place t f → (s ≡ t) × (e ≡ f)
string_once message place s t e f a b =
    let head : length s ≡ length t =
    sym (stands_head message place (length s) s e a.there)
    ∙ stands_head message place (length t) t f b.there in
    let same =
    stands_same message place (length s ∷ s) (length t ∷ t) e f (omega (arith, head))
    a.there b.there in
    (cc same.0, same.1)

-- Fields of one kind, which don't go to the end of the data, end at one place.
pub field_end : (message : List ℕ) (place : ℕ) (f g : Field) (a b : ℕ) → kind_of f ≡ kind_of g
    → is_open (kind_of f) ≡ false → FieldAt message place f a → FieldAt message place g b → a ≡ b
field_end message place (octet n) (octet m) a b same closed s t = omega (arith, s.behind, t.behind)
field_end message place (short n) (short m) a b same closed s t = omega (arith, s.behind, t.behind)
field_end message place (long n) (long m) a b same closed s t =
    omega (arith, s.behind, t.behind, length-octets_32 n, length-octets_32 m)
field_end message place (name n) (name m) a b same closed s t =
    (name_once message place n m a b s t).1
field_end message place (string x) (string y) a b same closed s t =
    (string_once message place x y a b s t).1
field_end message place f g a b same closed s t = absurd (grind (arith, same, closed))

strings_within : (message : List ℕ) (place : ℕ) (ss : List (List ℕ)) (end : ℕ)
    → place ≤ length message → StringsAt message place ss end → end ≤ length message
strings_within message place [] end le there = omega (arith, there, le)
strings_within message place (s ∷ ss) end le there =
    strings_within message there.0 ss end
    (stands_within message place (length s ∷ s) there.0 (omega arith) there.1.there) there.2

rest_within : (message : List ℕ) (place : ℕ) (octets : List ℕ) (end : ℕ) → place ≤ length message
    → Stands message place octets end → end ≤ length message
rest_within message place [] end le there = omega (arith, there.behind, le)
rest_within message place (o ∷ os) end le there =
    stands_within message place (o ∷ os) end (omega arith) there

field_within : (message : List ℕ) (place : ℕ) (f : Field) (end : ℕ) → place ≤ length message
    → FieldAt message place f end → end ≤ length message
field_within message place (octet n) end le there = rest_within message place (n ∷ []) end le there
field_within message place (short n) end le there =
    rest_within message place (octets_16 n) end le there
field_within message place (long n) end le there =
    rest_within message place (octets_32 n) end le there
field_within message place (name n) end le there =
    (spelled_within message place (length message) place n.labels end there.spelled).1
field_within message place (string s) end le there =
    rest_within message place (length s ∷ s) end le there.there
field_within message place (strings ss) end le there = strings_within message place ss end le there
field_within message place (rest octets) end le there =
    rest_within message place octets end le there

pub fields_within : (message : List ℕ) (place : ℕ) (fs : List Field) (end : ℕ)
    → place ≤ length message → FieldsAt message place fs end → end ≤ length message
fields_within message place [] end le there = omega (arith, there, le)
fields_within message place (f ∷ fs) end le there =
    fields_within message there.0 fs end (field_within message place f there.0 le there.1) there.2

-- Where the string at the end of a front goes past the end, no strings fill the data.
strings_none : (message : List ℕ) (end place : ℕ) (front : List (List ℕ)) (at : ℕ)
    → StringsAt message place front at → at < end
    → (end < at + (1 + get_or message at 0)) ⊎ (length message < at + (1 + get_or message at 0))
    → (ss : List (List ℕ)) → StringsAt message place ss end → ⊥
strings_none message end place [] at there lt past [] all = omega (arith, there, lt, all)
strings_none message end place (f ∷ fs) at there lt past [] all =
    omega (arith, strings_forward message place (f ∷ fs) at there, lt, all)
strings_none message end place [] at there lt past (s ∷ ss) all =
    let head : get_or message place 0 ≡ length s =
    stands_head message place (length s) s all.0 all.1.there in
    let same : get_or message at 0 ≡ length s = ap (λ (p : ℕ). get_or message p 0) there ∙ head in
    let whole = stands_within message place (length s ∷ s) all.0 (omega arith) all.1.there in
    let later = strings_forward message all.0 ss end all.2 in
    elim past [
      | inl far ↦ omega (arith, far, same, there, all.1.there.behind, later)
      | inr cut ↦ omega (arith, cut, same, there, all.1.there.behind, whole)
    ]
strings_none message end place (f ∷ fs) at there lt past (s ∷ ss) all =
    let same = (string_once message place f s there.0 all.0 there.1 all.1).1 in
    strings_none message end there.0 fs at there.2 lt past ss
    (subst (λ (p : ℕ). StringsAt message p ss end) (sym same) all.2)

-- Where a field of a kind can't be read, none stands; one that goes to the end of the data is to
-- end there.
kind_none : (message : List ℕ) (end place : ℕ) (f : Field) (e : DecodeError) (stop : ℕ)
    → place ≤ length message → RefusesKind message end (kind_of f) place e
    → (is_open (kind_of f) ≡ true → stop ≡ end) → FieldAt message place f stop → ⊥
kind_none message end place (octet n) e stop le refused to_end there =
    cut_none message place 1 (n ∷ []) stop refl (omega arith) refused.1 there
kind_none message end place (short n) e stop le refused to_end there =
    cut_none message place 2 (octets_16 n) stop refl (omega arith) refused.1 there
kind_none message end place (long n) e stop le refused to_end there =
    cut_none message place 4 (octets_32 n) stop (length-octets_32 n) (omega arith) refused.1 there
kind_none message end place (name n) e stop le refused to_end there =
    refused.none n stop there
kind_none message end place (string s) e stop le refused to_end there =
    let head : get_or message place 0 ≡ length s =
    stands_head message place (length s) s stop there.there in
    omega (
      arith,
      head,
      refused.1,
      there.there.behind,
      stands_within message place (length s ∷ s) stop
          (omega arith) there.there,
    )
kind_none message end place (strings ss) e stop le refused to_end there =
    let filled : StringsAt message place ss end =
    subst (λ (p : ℕ). StringsAt message place ss p) (to_end refl) there in
    elim refused.short [
      | inl behind ↦ omega (
        arith,
        behind.1,
        strings_forward message place ss end filled,
        (subst (λ (front : List (List ℕ)). StringsAt message place front refused.at) behind.0
            refused.there),
      )
      | inr past ↦ strings_none message end place refused.front refused.at refused.there past.0
          past.1 ss filled
    ]
kind_none message end place (rest octets) e stop le refused to_end there =
    elim refused.short [
      | inl behind ↦ omega (arith, behind, to_end refl, there.behind)
      | inr cut ↦ omega (arith, cut, to_end refl, rest_within message place octets stop le there)
    ]

pub no_fields : (message : List ℕ) (place : ℕ) (fs : List Field) (stop : ℕ) → kinds_of fs ≡ []
    → FieldsAt message place fs stop → stop ≡ place
no_fields message place [] stop e there = there
no_fields message place (f ∷ fs) stop e there = absurd (cc e)

open_first : (k : Kind) (ks : List Kind) → is_open k ≡ true → are_open (k ∷ ks) ≡ true
open_first k ks e = ap (λ (b : Bool). b || are_open ks) e

open_later : (b c : Bool) → c ≡ true → (b || c) ≡ true
open_later true c e = refl
open_later false c e = e

-- Where the first field can't be read.
no_first : (message : List ℕ) (end : ℕ) (k : Kind) (ks : List Kind) (place : ℕ) (e : DecodeError)
    → place ≤ length message → AreOrdered (k ∷ ks) → RefusesKind message end k place e
    → (fs : List Field) (stop : ℕ) → kinds_of fs ≡ k ∷ ks → (are_open (k ∷ ks) ≡ true → stop ≡ end)
    → FieldsAt message place fs stop → ⊥
no_first message end k ks place e le ordered refused [] stop same to_end there = absurd (cc same)
no_first message end k ks place e le ordered refused (f ∷ fs) stop same to_end there =
    let first : kind_of f ≡ k = cc same in
    let later : kinds_of fs ≡ ks = cc same in
    let ends : is_open (kind_of f) ≡ true → there.0 ≡ end = λ is.
    let is_k : is_open k ≡ true = ap is_open (sym first) ∙ is in
    let here : stop ≡ there.0 =
    no_fields message there.0 fs stop (later ∙ ordered.0 is_k) there.2 in
    sym here ∙ to_end (open_first k ks is_k) in
    kind_none message end place f e there.0 le
    (subst (λ (x : Kind). RefusesKind message end x place e) (sym first) refused) ends there.1

-- Where the first field stands, and none of the later ones.
no_later : (message : List ℕ) (end : ℕ) (k : Kind) (ks : List Kind) (place : ℕ) (f : Field)
    (behind : ℕ) → kind_of f ≡ k → FieldAt message place f behind → AreOrdered (k ∷ ks)
    → ((fs : List Field) (stop : ℕ) → kinds_of fs ≡ ks → (are_open ks ≡ true → stop ≡ end)
    → FieldsAt message behind fs stop → ⊥) → (b : Bool) → is_open k ≡ b
    → (fs : List Field) (stop : ℕ) → kinds_of fs ≡ k ∷ ks → (are_open (k ∷ ks) ≡ true → stop ≡ end)
    → FieldsAt message place fs stop → ⊥
no_later message end k ks place f behind is there ordered none true b fs stop same to_end all =
    let nil = ordered.0 b in
    none [] behind (sym nil) (λ o. absurd (cc (sym o ∙ ap are_open nil))) refl
no_later message end k ks place f behind is there ordered none false b [] stop same to_end all =
    absurd (cc same)
no_later message end k ks place f behind is there ordered none false b (g ∷ gs) stop same to_end
    all =
    let first : kind_of g ≡ k = cc same in
    let ends : behind ≡ all.0 =
    field_end message place f g behind all.0 (is ∙ sym first) (ap is_open is ∙ b) there
    all.1 in
    none gs stop (cc same) (λ o. to_end (open_later (is_open k) (are_open ks) o))
    (subst (λ (p : ℕ). FieldsAt message p gs stop) (sym ends) all.2)

-- Where reading stops, no fields of these kinds stand; those that go to the end of the data are to
-- end there.
pub stops_none : (message : List ℕ) (end : ℕ) (ks : List Kind) (place : ℕ) (e : DecodeError)
    (at : ℕ) → place ≤ length message → AreOrdered ks → StopsReading message end ks place e at
    → IsWantOfMemory e
    ⊎ ((fs : List Field) (stop : ℕ) → kinds_of fs ≡ ks → (are_open ks ≡ true → stop ≡ end)
    → FieldsAt message place fs stop → ⊥)
stops_none message end [] place e at le ordered s = absurd s
stops_none message end (k ∷ ks) place e at le ordered (inl (inl memory, here)) = inl memory.0
stops_none message end (k ∷ ks) place e at le ordered (inl (inr refused, here)) =
    inr (no_first message end k ks place e le ordered refused)
stops_none message end (k ∷ ks) place e at le ordered (inr (f, behind, same, there, later)) =
    elim
    (stops_none message end ks behind e at (field_within message place f behind le there) ordered.1
    later) [
      | inl memory ↦ inl memory
      | inr none ↦ inr
          (no_later message end k ks place f behind same there ordered none (is_open k) refl)
    ]

pub ordered_more : (k : Kind) (ks : List Kind) → is_open k ≡ false → AreOrdered ks
    → AreOrdered (k ∷ ks)
ordered_more k ks closed later = (λ to_end. absurd (cc (sym to_end ∙ closed)), later)

pub kinds_more : (f : Field) (fs : List Field) (k : Kind) (ks : List Kind) → kind_of f ≡ k
    → kinds_of fs ≡ ks → kinds_of (f ∷ fs) ≡ k ∷ ks
kinds_more f fs k ks e d = ap (λ (x : Kind). x ∷ kinds_of fs) e ∙ ap (λ (xs : List Kind). k ∷ xs) d

pub strings_joined : (message : List ℕ) (place : ℕ) (ss : List (List ℕ)) (at : ℕ) (s : List ℕ)
    (end : ℕ) → StringsAt message place ss at → StringAt message at s end
    → StringsAt message place (ss ++ s ∷ []) end
strings_joined message place [] at s end there last =
    (end, subst (λ (p : ℕ). StringAt message p s end) there last, refl)
strings_joined message place (t ∷ ts) at s end there last =
    (there.0, there.1, strings_joined message there.0 ts at s end there.2 last)

-- One string more.
pub strings_more : {X : Type 0} (octets : X → List ℕ) (message : List ℕ) (place : ℕ) (xs : List X)
    (at : ℕ) (x : X) (ys : List X) (end : ℕ) → StringsAt message place (map octets xs) at
    → StringAt message at (octets x) end → ys ≡ xs ++ x ∷ []
    → StringsAt message place (map octets ys) end
strings_more {X = X} octets message place xs at x ys end there last e =
    subst (λ (ss : List (List ℕ)). StringsAt message place ss end)
    (sym (ap (λ (zs : List X). map octets zs) e ∙ map-append octets xs (x ∷ [])))
    (strings_joined message place (map octets xs) at (octets x) end there last)

-- Reading stops where it began, or behind.
pub stops_forward : (message : List ℕ) (end : ℕ) (ks : List Kind) (place : ℕ) (e : DecodeError)
    (at : ℕ) → StopsReading message end ks place e at → place ≤ at
stops_forward message end [] place e at s = absurd s
stops_forward message end (k ∷ ks) place e at (inl (why, here)) = omega (arith, here)
stops_forward message end (k ∷ ks) place e at (inr (f, behind, same, there, later)) =
    omega (
      arith,
      field_forward message place f behind there,
      stops_forward message end ks behind e at
          later,
    )

pub closed_first : (b c : Bool) → (b || c) ≡ false → b ≡ false
closed_first false c e = refl
closed_first true c e = absurd (cc e)

pub closed_later : (b c : Bool) → (b || c) ≡ false → c ≡ false
closed_later false c e = e
closed_later true c e = absurd (cc e)

-- Fields of the same kinds, none of which goes to the end of the data, end at one place.
pub fields_end : (message : List ℕ) (place : ℕ) (fs gs : List Field) (a b : ℕ)
    → kinds_of fs ≡ kinds_of gs → are_open (kinds_of fs) ≡ false → FieldsAt message place fs a
    → FieldsAt message place gs b → a ≡ b
fields_end message place [] [] a b same closed s t = s ∙ sym t
fields_end message place [] (g ∷ gs) a b same closed s t = absurd (cc same)
fields_end message place (f ∷ fs) [] a b same closed s t = absurd (cc same)
fields_end message place (f ∷ fs) (g ∷ gs) a b same closed s t =
    let first =
    field_end message place f g s.0 t.0 (cc same)
    (closed_first (is_open (kind_of f)) (are_open (kinds_of fs)) closed) s.1 t.1 in
    fields_end message s.0 fs gs a b (cc same)
    (closed_later (is_open (kind_of f)) (are_open (kinds_of fs)) closed) s.2
    (subst (λ (p : ℕ). FieldsAt message p gs b) (sym first) t.2)

-- Data that end elsewhere don't fill the octets.
pub elsewhere_none : (message : List ℕ) (place end : ℕ) (fs : List Field) (at : ℕ)
    → are_open (kinds_of fs) ≡ false → FieldsAt message place fs at → (at ≡ end → ⊥)
    → (gs : List Field) → kinds_of gs ≡ kinds_of fs → FieldsAt message place gs end → ⊥
elsewhere_none message place end fs at closed there other gs same filled =
    other (fields_end message place fs gs at end (sym same) closed there filled)
