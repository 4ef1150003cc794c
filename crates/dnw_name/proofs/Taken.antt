-- Labels that were taken from an iterator.
use Rattle.std.proofs.Common.{◌≡◌, ◌∙◌, ℕ, ◌+◌, ◌*◌, ◌≤◌, suc, ◌++◌, List, [], ◌∷◌, length, length-append, map, refl, ap, sym, subst, arith, true, ◌⊎◌, inl, inr, All}
use Rattle.std.specs.Prelude.{Option, Some, None}
use Rattle.std.specs.Iterator.{Yields, Drains}
use Rattle.std.proofs.lemmas.List.{map-append}
use Rattle.std.proofs.lemmas.List.Elements.{All-nil, All-push, All-head, All-tail}
use Rattle.dnw_net.specs.dnw_codes.declared.error.ProtoError.{ProtoError}
use Rattle.dnw_net.specs.dnw_codes.declared.error.ProtoError.TheVariants.{CharacterDataTooLong, Decode, FormError, MaxBufferSizeExceeded, Message, Msg, NotAllRecordsWritten, NotAResponse, Utf8, FromUtf8, ParseInt, Memory}
use Rattle.dnw_net.specs.dnw_codes.ProtoError.{IsMemory}
use Rattle.dnw_net.specs.dnw_label.Label.{IsLabel}
use Rattle.dnw_name.specs.DomainName.{DomainName, IsDomainName, domain_name, labels_len}
use Rattle.dnw_name.specs.NameRefusals.{RefusesOctets}
use Rattle.dnw_name.proofs.Lengths.{labels_len-cons}

pub record Taken {S A : Type 0} (steps : S → Option A → S → Type 0) (can : S → Type 0) (octets : A → List ℕ) (accepts : A → Type 0) (from left : S) (name : DomainName) (count : ℕ) : Type 0 where
  pub items : List A
  pub yields : Yields steps from items left
  pub is : name ≡ domain_name true (map octets items)
  pub accepted : All accepts items
  pub many : length items ≡ count
  pub ready : can left
  pub short : labels_len name.labels + 1 ≤ 255

twice-length : (labels : List (List ℕ)) → All IsLabel labels → 2 * length labels ≤ labels_len labels
twice-length [] all = omega arith
twice-length (label ∷ labels) all =
    let first = All-head IsLabel label labels all in
    omega (arith, first.some, labels_len-cons label labels, twice-length labels (All-tail IsLabel label labels all))

-- A name has at most 127 labels.
pub few-labels : (name : DomainName) → IsDomainName name → length name.labels ≤ 127
few-labels name is = omega (arith, twice-length name.labels is.each, is.short)

memory-or_not : (e : ProtoError) → IsMemory e ⊎ (IsMemory e → ⊥)
memory-or_not (Memory cause) = inl tt
memory-or_not (CharacterDataTooLong max len) = inr (λ m. m)
memory-or_not (Decode cause) = inr (λ m. m)
memory-or_not FormError = inr (λ m. m)
memory-or_not (MaxBufferSizeExceeded n) = inr (λ m. m)
memory-or_not (Message words) = inr (λ m. m)
memory-or_not (Msg words) = inr (λ m. m)
memory-or_not (NotAllRecordsWritten n) = inr (λ m. m)
memory-or_not NotAResponse = inr (λ m. m)
memory-or_not Utf8 = inr (λ m. m)
memory-or_not FromUtf8 = inr (λ m. m)
memory-or_not ParseInt = inr (λ m. m)

module _ {S A : Type 0} (steps : S → Option A → S → Type 0) (can : S → Type 0) (octets : A → List ℕ) (accepts : A → Type 0) where
  yields-more : (xs : List A) (s t u : S) (x : A) → Yields steps s xs t → steps t (Some x) u → Yields steps s (xs ++ x ∷ []) u
  yields-more [] s t u x e step = (u, subst (λ (a : S). steps a (Some x) u) (sym e) step, refl)
  yields-more (y ∷ ys) s t u x h step = (h.0, h.1, yields-more ys h.0 t u x h.2 step)

  pub taken-start : (from : S) (name : DomainName) → can from → name ≡ domain_name true [] → Taken steps can octets accepts from from name 0
  taken-start from name ready e =
      record { items = []; yields = refl; is = e; accepted = All-nil accepts; many = refl; ready = ready; short = subst (λ (m : DomainName). labels_len m.labels + 1 ≤ 255) (sym e) (omega arith) }

  pub taken-more : (from left next : S) (name longer : DomainName) (n : ℕ) (x : A) → Taken steps can octets accepts from left name n → steps left (Some x) next → can next → longer ≡ domain_name name.fqdn (name.labels ++ octets x ∷ []) → accepts x → IsDomainName longer → Taken steps can octets accepts from next longer (n + 1)
  taken-more from left next name longer n x h step ready e good fits =
      record {
        items = h.items ++ x ∷ [];
        yields = yields-more h.items from left next x h.yields step;
        is = e ∙ ap (λ (m : DomainName). domain_name m.fqdn (m.labels ++ octets x ∷ [])) h.is ∙ ap (domain_name true) (sym (map-append octets h.items (x ∷ [])));
        accepted = All-push accepts h.items x h.accepted good;
        many = length-append h.items (x ∷ []) ∙ ap (λ k. k + 1) h.many;
        ready = ready;
        short = fits.short;
      }

  pub taken-done : (from left next : S) (name : DomainName) (n : ℕ) → Taken steps can octets accepts from left name n → steps left None next → (items : List A) × Drains steps from items × (name ≡ domain_name true (map octets items)) × All accepts items
  taken-done from left next name n h step = (h.items, (next, (left, h.yields, step)), h.is, h.accepted)

  pub taken-refused : (from left next : S) (name : DomainName) (n : ℕ) (x : A) (e : ProtoError) → Taken steps can octets accepts from left name n → steps left (Some x) next → (accepts x → IsDomainName (domain_name name.fqdn (name.labels ++ octets x ∷ [])) → IsMemory e) → IsMemory e ⊎ ((items : List A) × (rest : S) × Yields steps from items rest × (All accepts items → IsDomainName (domain_name true (map octets items)) → ⊥))
  taken-refused from left next name n x e h step bad = by_test (memory-or_not e)
    where
      last : (xs : List A) (y : A) → All accepts (xs ++ y ∷ []) → accepts y
      last [] y all = All-head accepts y [] all
      last (z ∷ xs) y all = last xs y (All-tail accepts z (xs ++ y ∷ []) all)

      by_test : IsMemory e ⊎ (IsMemory e → ⊥) → IsMemory e ⊎ ((items : List A) × (rest : S) × Yields steps from items rest × (All accepts items → IsDomainName (domain_name true (map octets items)) → ⊥))
      by_test (inl m) = inl m
      by_test (inr other) =
          inr (
            h.items ++ x ∷ [],
            next,
            yields-more h.items from left next x h.yields step,
            λ all name-is. other (bad (last h.items x all)
                (subst IsDomainName (ap (domain_name true) (map-append octets h.items (x ∷ [])) ∙ ap (λ (m : DomainName). domain_name m.fqdn (m.labels ++ octets x ∷ [])) (sym h.is)) name-is)),
          )

  few : {from left : S} {name : DomainName} {n : ℕ} (h : Taken steps can octets accepts from left name n) → labels_len (map octets h.items) + 1 ≤ 255
  few h = subst (λ (m : DomainName). labels_len m.labels + 1 ≤ 255) h.is h.short

  -- Behind the labels that were taken the next one is refused.
  pub taken-cause : (refuses : A → ProtoError → Type 0) (from left next : S) (name : DomainName) (n : ℕ) (x : A) (e : ProtoError) → Taken steps can octets accepts from left name n → steps left (Some x) next → IsMemory e ⊎ (refuses x e ⊎ (accepts x × RefusesOctets (labels_len name.labels + length (octets x) + 2) e)) → IsMemory e ⊎ ((items : List A) × (y : A) × (rest : S) × Yields steps from (items ++ y ∷ []) rest × All accepts items × (labels_len (map octets items) + 1 ≤ 255) × (refuses y e ⊎ (accepts y × RefusesOctets (labels_len (map octets items) + length (octets y) + 2) e)))
  taken-cause refuses from left next name n x e h step (inl m) = inl m
  taken-cause refuses from left next name n x e h step (inr (inl r)) =
      inr (h.items, x, next, yields-more h.items from left next x h.yields step, h.accepted, few h, inl r)
  taken-cause refuses from left next name n x e h step (inr (inr (good, long))) =
      inr (
        h.items,
        x,
        next,
        yields-more h.items from left next x h.yields step,
        h.accepted,
        few h,
        inr (good, subst (λ (m : DomainName). RefusesOctets (labels_len m.labels + length (octets x) + 2) e) h.is long),
      )

  -- So many labels are none of a name.
  pub taken-too_many : (from left : S) (name : DomainName) (n : ℕ) → Taken steps can octets accepts from left name n → IsDomainName name → 128 ≤ n → ⊥
  taken-too_many from left name n h is many =
      omega (arith, few-labels name is, ap (λ (m : DomainName). length m.labels) h.is, length-map-same h.items, h.many, many)
    where
      length-map-same : (xs : List A) → length (map octets xs) ≡ length xs
      length-map-same [] = refl
      length-map-same (x ∷ xs) = ap suc (length-map-same xs)
