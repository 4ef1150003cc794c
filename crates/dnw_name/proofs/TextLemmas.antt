-- What texts of names begin with.
use Rattle.std.proofs.Common.{◌≡◌, ◌<◌, ◌++◌, ℕ, Bool, true, false, List, [], ◌∷◌, refl, ap, sym, ◌∙◌, subst, arith, length, ◌⊎◌, inl, inr, All, ◌+◌, ◌==◌}
use Rattle.std.proofs.lemmas.List.Elements.{All-nil, All-cons, All-head, All-tail}
use Rattle.std.proofs.lemmas.List.Sums.{sum_by-append, sum_by_push}
use Rattle.dnw_net.specs.dnw_codes.declared.error.ProtoError.{ProtoError}
use Rattle.dnw_net.specs.dnw_label.Label.{IsLabel}
use Rattle.dnw_name.specs.DomainName.{DomainName, IsDomainName, domain_name, labels_len}
use Rattle.std.specs.Prelude.{Result, Ok, Err, IfOk, IfErr, Some, cond, ◌||◌, nat_eq}
use Rattle.std.specs.Cmp.Lexicographic.{pointwise, same_text}
use Rattle.std.proofs.lemmas.Bool.Decides.{nat_tests}
use Rattle.std.proofs.lemmas.List.{append_assoc}
use Rattle.dnw_net.specs.dnw_label.LabelText.{OctetText, LabelText, ends, dot, octet, IsTextLabel}
use Rattle.dnw_net.proofs.dnw_label_lemmas.EscapeLaws.{no_octet_in_nothing}
use Rattle.dnw_net.proofs.dnw_label_lemmas.LabelTextLemmas.{no_dot, label-same}
use Rattle.dnw_name.specs.NameRefusals.{RefusesOctets}
use Rattle.dnw_name.specs.NameText.{LabelsText, last, closed, more, NameText, empty, root, labels as labels_text, complete_name}

-- What was read of a name's labels, and what is left of its text.
pub record LabelsSoFar (text : List ℕ) (read : List (List ℕ)) (rest : List ℕ) : Type 0 where
  pub sound : (fqdn : Bool) (labels : List (List ℕ)) → LabelsText rest fqdn labels → LabelsText text fqdn (read ++ labels)
  pub only : (fqdn : Bool) (labels : List (List ℕ)) → LabelsText text fqdn labels → (later : List (List ℕ)) × (labels ≡ read ++ later) × LabelsText rest fqdn later

pub labels-start : (text : List ℕ) → LabelsSoFar text [] text
labels-start text = record { sound = λ f ls h. h; only = λ f ls h. (ls, refl, h) }

-- The labels behind the first one.
pub labels-step : (text label : List ℕ) (c d : ℕ) (rest : List ℕ) (fqdn : Bool) (labels : List (List ℕ)) → LabelText text label (c ∷ d ∷ rest) → LabelsText text fqdn labels → (later : List (List ℕ)) × (labels ≡ label ∷ later) × LabelsText (d ∷ rest) fqdn later
labels-step text label c d rest fqdn labels h (last _ l t is) = let same = (label-same text l label [] (c ∷ d ∷ rest) t h).1 in absurd (cc)
labels-step text label c d rest fqdn labels h (closed _ l e t is) = let same = (label-same text l label (e ∷ []) (c ∷ d ∷ rest) t h).1 in absurd (cc)
labels-step text label c d rest fqdn labels h (more _ l e r _ ls t is later) =
    let same = label-same text l label (e ∷ r) (c ∷ d ∷ rest) t h in
    let behind : r ≡ d ∷ rest = cc in
    (ls, ap (λ x. x ∷ ls) same.0, subst (λ (s : List ℕ). LabelsText s fqdn ls) behind later)

pub labels-more : (text : List ℕ) (read : List (List ℕ)) (rest label : List ℕ) (c d : ℕ) (behind : List ℕ) → LabelsSoFar text read rest → LabelText rest label (c ∷ d ∷ behind) → IsTextLabel label → LabelsSoFar text (read ++ label ∷ []) (d ∷ behind)
labels-more text read rest label c d behind h t is =
    record {
      sound = λ f ls later. subst (λ (all : List (List ℕ)). LabelsText text f all) (sym (append_assoc read (label ∷ []) ls)) (h.sound f (label ∷ ls) (more rest label c (d ∷ behind) f ls t is later));
      only = λ f ls all.
          let old = h.only f ls all in
          let new = labels-step rest label c d behind f old.0 t old.2 in
          (new.0, old.1 ∙ ap (λ m. read ++ m) new.1 ∙ sym (append_assoc read (label ∷ []) new.0), new.2);
    }

pub labels-last : (text : List ℕ) (read : List (List ℕ)) (rest label : List ℕ) → LabelsSoFar text read rest → LabelText rest label [] → IsTextLabel label → LabelsText text false (read ++ label ∷ [])
labels-last text read rest label h t is = h.sound false (label ∷ []) (last rest label t is)

pub labels-closed : (text : List ℕ) (read : List (List ℕ)) (rest label : List ℕ) (c : ℕ) → LabelsSoFar text read rest → LabelText rest label (c ∷ []) → IsTextLabel label → LabelsText text true (read ++ label ∷ [])
labels-closed text read rest label c h t is = h.sound true (label ∷ []) (closed rest label c t is)

none_inside : (rest : List ℕ) → ((label behind : List ℕ) → LabelText rest label behind → IsTextLabel label → ⊥) → (fqdn : Bool) (labels : List (List ℕ)) → LabelsText rest fqdn labels → ⊥
none_inside rest none fqdn labels (last _ l t is) = none l [] t is
none_inside rest none fqdn labels (closed _ l c t is) = none l (c ∷ []) t is
none_inside rest none fqdn labels (more _ l c r _ _ t is _) = none l (c ∷ r) t is

-- Where the text left begins with no label, the text has none.
pub labels-none : (text : List ℕ) (read : List (List ℕ)) (rest : List ℕ) → LabelsSoFar text read rest → ((label behind : List ℕ) → LabelText rest label behind → IsTextLabel label → ⊥) → (fqdn : Bool) (labels : List (List ℕ)) → LabelsText text fqdn labels → ⊥
labels-none text read rest h none fqdn labels t =
    let found = h.only fqdn labels t in
    none_inside rest none fqdn found.0 found.2

first_inside : (rest label behind : List ℕ) → LabelText rest label behind → (fqdn : Bool) (labels : List (List ℕ)) → LabelsText rest fqdn labels → (later : List (List ℕ)) × (labels ≡ label ∷ later)
first_inside rest label behind t fqdn labels (last _ l u is) = ([], ap (λ x. x ∷ []) (label-same rest l label [] behind u t).0)
first_inside rest label behind t fqdn labels (closed _ l c u is) = ([], ap (λ x. x ∷ []) (label-same rest l label (c ∷ []) behind u t).0)
first_inside rest label behind t fqdn labels (more _ l c r _ ms u is _) = (ms, ap (λ x. x ∷ ms) (label-same rest l label (c ∷ r) behind u t).0)

-- Each name of the text begins with the labels that were read and the next one.
pub labels-begin : (text : List ℕ) (read : List (List ℕ)) (rest label behind : List ℕ) → LabelsSoFar text read rest → LabelText rest label behind → (fqdn : Bool) (labels : List (List ℕ)) → LabelsText text fqdn labels → (later : List (List ℕ)) × (labels ≡ (read ++ label ∷ []) ++ later)
labels-begin text read rest label behind h t fqdn labels all =
    let found = h.only fqdn labels all in
    let first = first_inside rest label behind t fqdn found.0 found.2 in
    (first.0, found.1 ∙ ap (λ m. read ++ m) first.1 ∙ sym (append_assoc read (label ∷ []) first.0))

-- A name whose first labels take too much is none.
pub labels-too_long : (f g : Bool) (front labels later : List (List ℕ)) → labels ≡ front ++ later → (IsDomainName (domain_name g front) → ⊥) → IsDomainName (domain_name f labels) → ⊥
labels-too_long f g front labels later e none name =
    let whole : IsDomainName (domain_name f (front ++ later)) = subst (λ (ls : List (List ℕ)). IsDomainName (domain_name f ls)) e name in
    none (record { each = All-front front later whole.each; short = omega (arith, sum_by-append (λ l. length l + 1) front later, whole.short) })
  where
    All-front : (xs ys : List (List ℕ)) → All IsLabel (xs ++ ys) → All IsLabel xs
    All-front [] ys all = All-nil IsLabel
    All-front (x ∷ xs) ys all = All-cons IsLabel x xs (All-head IsLabel x (xs ++ ys) all) (All-front xs ys (All-tail IsLabel x (xs ++ ys) all))

-- The next label makes a name that is too long, or memory was refused.
pub labels-refused : (M : ProtoError → Type 0) (e : ProtoError) (text : List ℕ) (read : List (List ℕ)) (rest label behind : List ℕ) → LabelsSoFar text read rest → LabelText rest label behind → M e ⊎ RefusesOctets (labels_len read + length label + 2) e → M e ⊎ ((fqdn : Bool) (labels : List (List ℕ)) → LabelsText text fqdn labels → IsDomainName (domain_name fqdn labels) → ⊥)
labels-refused M e text read rest label behind h t (inl m) = inl m
labels-refused M e text read rest label behind h t (inr long) =
    inr (λ fqdn labels all name.
    let begun = labels-begin text read rest label behind h t fqdn labels all in
    labels-too_long fqdn true (read ++ label ∷ []) labels begun.0 begun.1
    (λ front. omega (arith, front.short, sum_by_push (λ l. length l + 1) read label, long.0)) name)

-- No label stands next, or memory was refused.
pub labels-no_next : {E : Type 0} (M : E → Type 0) (e : E) (text : List ℕ) (read : List (List ℕ)) (rest : List ℕ) → LabelsSoFar text read rest → M e ⊎ ((label behind : List ℕ) → LabelText rest label behind → IsTextLabel label → ⊥) → M e ⊎ ((fqdn : Bool) (labels : List (List ℕ)) → LabelsText text fqdn labels → IsDomainName (domain_name fqdn labels) → ⊥)
labels-no_next M e text read rest h (inl m) = inl m
labels-no_next M e text read rest h (inr none) = inr (λ fqdn labels t name. labels-none text read rest h none fqdn labels t)

is_zero : (n : ℕ) → true ≡ (n == 0) → n ≡ 0
is_zero n e = grind (arith, nat_tests)

nothing : (xs : List ℕ) → length xs ≡ 0 → xs ≡ []
nothing [] e = refl
nothing (x ∷ xs) e = absurd (omega arith)

module _ (text : List ℕ) (name longer : DomainName) (rest label behind : List ℕ) (h : LabelsSoFar text name.labels rest × (name.fqdn ≡ false)) (t : LabelText rest label behind × IsTextLabel label) (e : longer ≡ domain_name name.fqdn (name.labels ++ label ∷ [])) where
  labels-are : longer.labels ≡ name.labels ++ label ∷ []
  labels-are = ap (λ (n : DomainName). n.labels) e

  flag-is : longer.fqdn ≡ false
  flag-is = ap (λ (n : DomainName). n.fqdn) e ∙ h.1

  pub name-last : length behind ≡ 0 → LabelsText text longer.fqdn longer.labels
  name-last none =
      rw (flag-is, labels-are) (labels-last text name.labels rest label h.0 (subst (λ (b : List ℕ). LabelText rest label b) (nothing behind none) t.0) t.1)

  pub name-closed : (c : ℕ) (later : List ℕ) → behind ≡ c ∷ later → true ≡ (length later == 0) → LabelsText text true longer.labels
  name-closed c (d ∷ later) parts none = absurd (omega (arith, is_zero (length (d ∷ later)) none))
  name-closed c [] parts none =
      rw labels-are (labels-closed text name.labels rest label c h.0 (subst (λ (b : List ℕ). LabelText rest label b) parts t.0) t.1)

  pub name-more : (c : ℕ) (later : List ℕ) → behind ≡ c ∷ later → (length later == 0) ≡ false → LabelsSoFar text longer.labels later × (longer.fqdn ≡ false)
  name-more c [] parts some = absurd (cc)
  name-more c (d ∷ later) parts some =
      (rw labels-are (labels-more text name.labels rest label c d later h.0 (subst (λ (b : List ℕ). LabelText rest label b) parts t.0) t.1), flag-is)

pub text-empty : (text : List ℕ) (name : DomainName) → true ≡ (length text == 0) → name ≡ domain_name false [] → NameText text name
text-empty text name none e = rw (nothing text (is_zero (length text) none), e) empty

pub text-root : (text : List ℕ) (name : DomainName) → true ≡ pointwise nat_eq text (46 ∷ []) → name ≡ domain_name true [] → NameText text name
text-root text name same e = rw (same_text text (46 ∷ []) same, e) (root 46 refl)

pub text-labels : {E : Type 0} (text : List ℕ) (r : Result DomainName E) → IfOk r (λ name. LabelsText text name.fqdn name.labels × IsDomainName name) → IfOk r (λ name. NameText text name)
text-labels text (Ok name) h = labels_text text name.fqdn name.labels h.0 h.1
text-labels text (Err e) h = tt

no_empty_label : IsTextLabel [] → ⊥
no_empty_label is = absurd (omega (arith, is.few.some))

nothing_is_empty : (text label behind : List ℕ) → text ≡ [] → LabelText text label behind → label ≡ []
nothing_is_empty text label behind e ends = refl
nothing_is_empty text label behind e (dot c r d) = refl
nothing_is_empty text label behind e (octet _ c r l b _ first later) =
    absurd (no_octet_in_nothing c r (subst (λ (x : List ℕ). OctetText x c r) e first))

no_labels_in_nothing : (text : List ℕ) (f : Bool) (ls : List (List ℕ)) → text ≡ [] → LabelsText text f ls → ⊥
no_labels_in_nothing text f ls e (last _ l t is) = no_empty_label (subst IsTextLabel (nothing_is_empty text l [] e t) is)
no_labels_in_nothing text f ls e (closed _ l c t is) = no_empty_label (subst IsTextLabel (nothing_is_empty text l (c ∷ []) e t) is)
no_labels_in_nothing text f ls e (more _ l c r _ ms t is later) = no_empty_label (subst IsTextLabel (nothing_is_empty text l (c ∷ r) e t) is)

dot_is_empty : (c : ℕ) (rest label behind : List ℕ) → c ≡ 46 → LabelText (c ∷ rest) label behind → label ≡ []
dot_is_empty c rest label behind e (dot _ _ d) = refl
dot_is_empty c rest label behind e (octet _ o r l b here first later) = absurd (no_dot c rest here e)

no_labels_in_dot : (c : ℕ) (f : Bool) (ls : List (List ℕ)) → c ≡ 46 → LabelsText (c ∷ []) f ls → ⊥
no_labels_in_dot c f ls e (last _ l t is) = no_empty_label (subst IsTextLabel (dot_is_empty c [] l [] e t) is)
no_labels_in_dot c f ls e (closed _ l d t is) = no_empty_label (subst IsTextLabel (dot_is_empty c [] l (d ∷ []) e t) is)
no_labels_in_dot c f ls e (more _ l d r _ ms t is later) = no_empty_label (subst IsTextLabel (dot_is_empty c [] l (d ∷ r) e t) is)

-- A text has one list of labels only.
labels-same : (text : List ℕ) (f f' : Bool) (ls ls' : List (List ℕ)) → LabelsText text f ls → LabelsText text f' ls' → (f ≡ f') × (ls ≡ ls')
labels-same text f f' ls ls' (last _ l t is) (last _ l' t' is') = (refl, ap (λ x. x ∷ []) (label-same text l l' [] [] t t').0)
labels-same text f f' ls ls' (last _ l t is) (closed _ l' c t' is') = let b = (label-same text l l' [] (c ∷ []) t t').1 in absurd (cc)
labels-same text f f' ls ls' (last _ l t is) (more _ l' c r _ ms t' is' _) = let b = (label-same text l l' [] (c ∷ r) t t').1 in absurd (cc)
labels-same text f f' ls ls' (closed _ l c t is) (last _ l' t' is') = let b = (label-same text l l' (c ∷ []) [] t t').1 in absurd (cc)
labels-same text f f' ls ls' (closed _ l c t is) (closed _ l' c' t' is') = (refl, ap (λ x. x ∷ []) (label-same text l l' (c ∷ []) (c' ∷ []) t t').0)
labels-same text f f' ls ls' (closed _ l c t is) (more _ l' c' r _ ms t' is' later) =
    let b = (label-same text l l' (c ∷ []) (c' ∷ r) t t').1 in
    let none : r ≡ [] = cc in
    absurd (no_labels_in_nothing r f' ms none later)
labels-same text f f' ls ls' (more _ l c r _ ms t is later) (last _ l' t' is') = let b = (label-same text l l' (c ∷ r) [] t t').1 in absurd (cc)
labels-same text f f' ls ls' (more _ l c r _ ms t is later) (closed _ l' c' t' is') =
    let b = (label-same text l l' (c ∷ r) (c' ∷ []) t t').1 in
    let none : r ≡ [] = cc in
    absurd (no_labels_in_nothing r f ms none later)
labels-same text f f' ls ls' (more _ l c r _ ms t is later) (more _ l' c' r' _ ms' t' is' later') =
    let b = label-same text l l' (c ∷ r) (c' ∷ r') t t' in
    let same_rest : r' ≡ r = cc in
    let rest = labels-same r f f' ms ms' later (subst (λ (x : List ℕ). LabelsText x f' ms') same_rest later') in
    (rest.0, ap (λ x. x ∷ ms) b.0 ∙ ap (λ xs. l' ∷ xs) rest.1)

-- A text is that of one name only.
pub name-same : (text : List ℕ) (n n' : DomainName) → NameText text n → NameText text n' → n ≡ n'
name-same text n n' empty empty = refl
name-same text n n' empty (labels_text _ f ls t is) = absurd (no_labels_in_nothing [] f ls refl t)
name-same text n n' (root c e) (root _ _) = refl
name-same text n n' (root c e) (labels_text _ f ls t is) = absurd (no_labels_in_dot c f ls e t)
name-same text n n' (labels_text _ f ls t is) empty = absurd (no_labels_in_nothing [] f ls refl t)
name-same text n n' (labels_text _ f ls t is) (root c e) = absurd (no_labels_in_dot c f ls e t)
name-same text n n' (labels_text _ f ls t is) (labels_text _ f' ls' t' is') =
    let same = labels-same text f f' ls ls' t t' in
    ap (λ x. domain_name x ls) same.0 ∙ ap (domain_name f') same.1

some_length : (n : ℕ) → 0 < n → (n == 0) ≡ false
some_length n h = grind (arith, nat_tests)

pub completed-is : (name origin : DomainName) → name.fqdn ≡ false → 0 < length name.labels → complete_name name (Some origin) ≡ domain_name true (name.labels ++ origin.labels)
completed-is name origin flag more_labels =
    let tested = some_length (length name.labels) more_labels in
    ap (λ f. cond (f || (length name.labels == 0)) name (domain_name true (name.labels ++ origin.labels))) flag
    ∙ ap (λ b. cond b name (domain_name true (name.labels ++ origin.labels))) tested

completed-long : (name origin : DomainName) → name.fqdn ≡ false → 0 < length name.labels → 255 < labels_len name.labels + labels_len origin.labels + 1 → IsDomainName (complete_name name (Some origin)) → ⊥
completed-long name origin flag more_labels long is =
    let whole : IsDomainName (domain_name true (name.labels ++ origin.labels)) = subst IsDomainName (completed-is name origin flag more_labels) is in
    omega (arith, whole.short, sum_by-append (λ l. length l + 1) name.labels origin.labels, long)

-- Where the completed name is too long, the text is none of a name.
pub parse-refused : {E : Type 0} (M : E → Type 0) (r : Result DomainName E) (text : List ℕ) (name origin : DomainName) → NameText text name → name.fqdn ≡ false → 0 < length name.labels → IfErr r (λ e. M e ⊎ (255 < labels_len name.labels + labels_len origin.labels + 1)) → IfErr r (λ e. M e ⊎ ((read : DomainName) → NameText text read → IsDomainName (complete_name read (Some origin)) → ⊥))
parse-refused M (Ok n) text name origin t flag more_labels h = tt
parse-refused M (Err e) text name origin t flag more_labels (inl m) = inl m
parse-refused M (Err e) text name origin t flag more_labels (inr long) =
    inr (λ read u is. completed-long name origin flag more_labels long
    (subst (λ (n : DomainName). IsDomainName (complete_name n (Some origin))) (name-same text read name u t) is))
