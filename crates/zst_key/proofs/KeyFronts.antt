-- A name at or below another: its key, behind the flag, begins with the other's.
use Rattle.std.proofs.Common.{◌≡◌, ℕ, ◌++◌, false, ◌&&◌, List, [], ◌∷◌, reverse, nat_eq, refl, ap, sym, ◌∙◌, arith}
use Rattle.std.specs.Char.{to_ascii_lowercase}
use Rattle.std.specs.List.{flat_map, starts_with}
use Rattle.std.proofs.lemmas.Bool.Decides.{nat_tests}
use Rattle.dnw_name.specs.dnw_label.Label.{label_eq}
use Rattle.dnw_name.specs.DomainName.{DomainName, is_at_or_below}
use Rattle.dnw_name.specs.NameOrderLaws.{and-assoc}
use Rattle.dnw_name.proofs.Fronts.{is_front, starts_with-front, at_or_below-front}
use Rattle.zst_key.specs.NameKeys.{rank, label_key, labels_key}

-- Ranks are the same where the octets in lower case are.
pub rank-same : (a b : ℕ) → nat_eq (rank a) (rank b) ≡ nat_eq (to_ascii_lowercase a) (to_ascii_lowercase b)
unfolding rank
rank-same a b = grind (arith, nat_tests)

pub rank_is_no_end : (a : ℕ) → nat_eq (rank a) 0 ≡ false
unfolding rank
rank_is_no_end a = grind (arith, nat_tests)

pub end_is_no_rank : (a : ℕ) → nat_eq 0 (rank a) ≡ false
unfolding rank
end_is_no_rank a = grind (arith, nat_tests)

pub label_key-front : (z x s t : List ℕ) → is_front nat_eq (label_key z ++ s) (label_key x ++ t) ≡ (label_eq z x && is_front nat_eq s t)
label_key-front [] [] s t = refl
label_key-front [] (b ∷ x) s t = ap (λ e. e && is_front nat_eq s (label_key x ++ t)) (end_is_no_rank b)
label_key-front (a ∷ z) [] s t = ap (λ e. e && is_front nat_eq (label_key z ++ s) t) (rank_is_no_end a)
label_key-front (a ∷ z) (b ∷ x) s t =
    ap (λ e. e && is_front nat_eq (label_key z ++ s) (label_key x ++ t)) (rank-same a b)
    ∙ ap (λ e. nat_eq (to_ascii_lowercase a) (to_ascii_lowercase b) && e) (label_key-front z x s t)
    ∙ and-assoc (nat_eq (to_ascii_lowercase a) (to_ascii_lowercase b)) (label_eq z x) (is_front nat_eq s t)

pub no_label_in_nothing : (z s : List ℕ) → is_front nat_eq (label_key z ++ s) [] ≡ false
no_label_in_nothing [] s = refl
no_label_in_nothing (a ∷ z) s = refl

pub labels-front : (zs xs : List (List ℕ)) → is_front nat_eq (flat_map label_key zs) (flat_map label_key xs) ≡ is_front label_eq zs xs
labels-front [] xs = refl
labels-front (z ∷ zs) [] = no_label_in_nothing z (flat_map label_key zs)
labels-front (z ∷ zs) (x ∷ xs) =
    label_key-front z x (flat_map label_key zs) (flat_map label_key xs) ∙ ap (λ b. label_eq z x && b) (labels-front zs xs)

-- A name is at or below another where its key, behind the flag, begins with the other's.
pub key-front : (name ancestor : DomainName) → starts_with nat_eq (labels_key name.labels) (labels_key ancestor.labels) ≡ is_at_or_below name ancestor
key-front name ancestor =
    starts_with-front nat_eq (labels_key name.labels) (labels_key ancestor.labels)
    ∙ labels-front (reverse ancestor.labels) (reverse name.labels)
    ∙ sym (at_or_below-front name ancestor)
