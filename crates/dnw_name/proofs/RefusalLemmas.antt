-- Why texts are no names.
use Rattle.std.proofs.Common.{◌≡◌, ◌≢◌, ◌<◌, ◌≤◌, ◌+◌, ◌++◌, ◌==◌, ◌⊎◌, inl, inr, ℕ, true, false, List, [], ◌∷◌, refl, ap, sym, ◌∙◌, subst, arith, length}
use Rattle.std.specs.Prelude.{Result, Ok, Err, IfErr, Some, nat_eq}
use Rattle.std.specs.Cmp.Lexicographic.{pointwise}
use Rattle.std.proofs.lemmas.List.Sums.{sum_by-append}
use Rattle.dnw_net.specs.dnw_codes.ProtoError.{IsMemory}
use Rattle.dnw_net.specs.dnw_codes.declared.error.ProtoError.{ProtoError}
use Rattle.dnw_net.specs.dnw_label.LabelRefusals.{RefusesLabelText}
use Rattle.dnw_net.specs.dnw_label.LabelText.{LabelText, IsTextLabel}
use Rattle.dnw_name.specs.DomainName.{DomainName, domain_name, labels_len, too_long}
use Rattle.dnw_name.specs.NameText.{NameText, complete_name}
use Rattle.dnw_name.specs.NameRefusals.{RefusesOctets, LabelsFront, none, more, RefusesLabels, RefusesNameText, RefusesCompleted}
use Rattle.dnw_name.proofs.TextLemmas.{LabelsSoFar, labels-start, completed-is}

front-more : (text : List ℕ) (read : List (List ℕ)) (rest label : List ℕ) (c d : ℕ) (behind : List ℕ) → LabelsFront text read rest → LabelText rest label (c ∷ d ∷ behind) → IsTextLabel label → LabelsFront text (read ++ label ∷ []) (d ∷ behind)
front-more text read rest label c d behind (none _) t is =
    more rest label c d behind [] (d ∷ behind) t is (none (d ∷ behind))
front-more text read rest label c d behind (more _ l c' d' later ls _ u good front) t is =
    more text l c' d' later (ls ++ label ∷ []) (d ∷ behind) u good (front-more (d' ∷ later) ls rest label c d behind front t is)

pub front-start : (text : List ℕ) (name : DomainName) → name ≡ domain_name false [] → (LabelsSoFar text name.labels text × (name.fqdn ≡ false)) × LabelsFront text name.labels text × (labels_len name.labels + 1 ≤ 255)
front-start text name e =
    subst (λ (n : DomainName). (LabelsSoFar text n.labels text × (n.fqdn ≡ false)) × LabelsFront text n.labels text × (labels_len n.labels + 1 ≤ 255)) (sym e)
    ((labels-start text, refl), none text, omega arith)

pub front-name : (text : List ℕ) (name longer : DomainName) (rest label behind : List ℕ) (c : ℕ) (later : List ℕ) → LabelsFront text name.labels rest → LabelText rest label behind × IsTextLabel label → longer ≡ domain_name name.fqdn (name.labels ++ label ∷ []) → behind ≡ c ∷ later → (length later == 0) ≡ false → LabelsFront text longer.labels later
front-name text name longer rest label behind c [] h t e parts some = absurd (cc)
front-name text name longer rest label behind c (d ∷ later) h t e parts some =
    let labels-are : longer.labels ≡ name.labels ++ label ∷ [] = ap (λ (n : DomainName). n.labels) e in
    rw labels-are (front-more text name.labels rest label c d later h (subst (λ (b : List ℕ). LabelText rest label b) parts t.0) t.1)

pub next-refused : (e : ProtoError) (text : List ℕ) (read : List (List ℕ)) (rest : List ℕ) → LabelsFront text read rest → labels_len read + 1 ≤ 255 → IsMemory e ⊎ RefusesLabelText rest e → IsMemory e ⊎ RefusesLabels text e
next-refused e text read rest front short (inl m) = inl m
next-refused e text read rest front short (inr h) =
    inr (record { front = read; rest = rest; begins = front; short = short; next = inl h })

pub longer-refused : (e : ProtoError) (text : List ℕ) (read : List (List ℕ)) (rest label behind : List ℕ) → LabelsFront text read rest → labels_len read + 1 ≤ 255 → LabelText rest label behind × IsTextLabel label → IsMemory e ⊎ RefusesOctets (labels_len read + length label + 2) e → IsMemory e ⊎ RefusesLabels text e
longer-refused e text read rest label behind front short t (inl m) = inl m
longer-refused e text read rest label behind front short t (inr h) =
    inr (record { front = read; rest = rest; begins = front; short = short; next = inr (label, behind, t.0, t.1, h) })

some-text : (text : List ℕ) → (length text == 0) ≡ false → text ≢ []
some-text text some e =
    let zero : (length text == 0) ≡ true = ap (λ (t : List ℕ). length t == 0) e in
    absurd (cc)

no-dot : (text : List ℕ) → pointwise nat_eq text (46 ∷ []) ≡ false → text ≢ 46 ∷ []
no-dot text other e =
    let same : pointwise nat_eq text (46 ∷ []) ≡ true = ap (λ (t : List ℕ). pointwise nat_eq t (46 ∷ [])) e in
    absurd (cc)

pub text-refused : (r : Result DomainName ProtoError) (text : List ℕ) → (length text == 0) ≡ false → pointwise nat_eq text (46 ∷ []) ≡ false → IfErr r (λ e. IsMemory e ⊎ RefusesLabels text e) → IfErr r (λ e. IsMemory e ⊎ RefusesNameText text e)
text-refused (Ok name) text some other h = tt
text-refused (Err e) text some other (inl m) = inl m
text-refused (Err e) text some other (inr h) = inr (some-text text some, no-dot text other, h)

err-same : (e f : ProtoError) (r s : Result DomainName ProtoError) → r ≡ Err e → s ≡ Err f → r ≡ s → e ≡ f
err-same e f r s p q same = cc

-- The completed name is too long.
pub completed-refused : (r : Result DomainName ProtoError) (text : List ℕ) (name origin : DomainName) → NameText text name → name.fqdn ≡ false → 0 < length name.labels → IfErr r (λ e. IsMemory e ⊎ (255 < labels_len name.labels + labels_len origin.labels + 1)) → (255 < labels_len name.labels + labels_len origin.labels + 1 → r ≡ Err (too_long (labels_len name.labels + labels_len origin.labels + 1))) → IfErr r (λ e. IsMemory e ⊎ RefusesCompleted (Some origin) text e)
completed-refused (Ok done) text name origin t flag some h says = tt
completed-refused (Err e) text name origin t flag some (inl m) says = inl m
completed-refused (Err e) text name origin t flag some (inr long) says =
    let whole : labels_len (complete_name name (Some origin)).labels ≡ labels_len name.labels + labels_len origin.labels =
    ap (λ (n : DomainName). labels_len n.labels) (completed-is name origin flag some) ∙ sum_by-append (λ l. length l + 1) name.labels origin.labels in
    inr (inr (name, t, subst (λ (n : ℕ). RefusesOctets (n + 1) e) (sym whole) (long, err-same e (too_long (labels_len name.labels + labels_len origin.labels + 1)) (Err e) (Err (too_long (labels_len name.labels + labels_len origin.labels + 1))) refl refl (says long))))
