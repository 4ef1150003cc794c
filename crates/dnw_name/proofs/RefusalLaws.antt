-- A text is refused by one cause, and only where it is that of no name.
use Rattle.std.proofs.Common.{◌≡◌, ◌<◌, ◌≤◌, ◌+◌, ◌++◌, ◌⊎◌, inl, inr, ℕ, Bool, true, false, List, [], ◌∷◌, refl, ap, sym, ◌∙◌, subst, arith, length}
use Rattle.std.specs.Prelude.{Option, Some, Result, Ok, Err, IfOk, IfErr, MatchResult}
use Rattle.std.proofs.lemmas.List.Sums.{sum_by_push}
use Rattle.std.proofs.lemmas.List.Elements.{All-nil}
use Rattle.dnw_net.specs.dnw_label.Label.{IsLabel}
use Rattle.dnw_net.specs.dnw_codes.ProtoError.{IsMemory}
use Rattle.dnw_net.specs.dnw_codes.declared.error.ProtoError.{ProtoError}
use Rattle.dnw_net.specs.dnw_label.LabelRefusals.{AreAlike, AreCauses}
use Rattle.dnw_net.specs.dnw_label.LabelText.{LabelText, IsTextLabel}
use Rattle.dnw_net.proofs.dnw_label_lemmas.LabelTextLemmas.{label-same}
use Rattle.dnw_net.proofs.dnw_label_lemmas.LabelRefusalLemmas.{label_text_causes}
use Rattle.dnw_name.specs.DomainName.{DomainName, IsDomainName, domain_name, labels_len, too_long}
use Rattle.dnw_name.specs.NameText.{LabelsText, more as more_labels, NameText, empty, root, labels as labels_text, complete_name}
use Rattle.dnw_name.specs.NameRefusals.{LabelsFront, none, more, RefusesNextLabel, RefusesLabels, RefusesNameText, RefusesCompleted}
use Rattle.dnw_name.proofs.Lengths.{labels_len-cons}
use Rattle.dnw_name.proofs.TextLemmas.{LabelsSoFar, labels-start, labels-step, labels-none, labels-begin, labels-too_long, name-same, completed-is}

-- What stands at a text's front has been read of it.
front-so_far : (text : List ℕ) (read : List (List ℕ)) (rest : List ℕ) → LabelsFront text read rest → LabelsSoFar text read rest
front-so_far text read rest (none _) = labels-start text
front-so_far text read rest (more _ l c d later ls _ t is front) =
    let behind = front-so_far (d ∷ later) ls rest front in
    record {
      sound = λ f ms h. more_labels text l c (d ∷ later) f (ls ++ ms) t is (behind.sound f ms h);
      only = λ f ms h.
          let first = labels-step text l c d later f ms t h in
          let next = behind.only f first.0 first.2 in
          (next.0, first.1 ∙ ap (λ m. l ∷ m) next.1, next.2);
    }

module _ (text : List ℕ) (e : ProtoError) (h : RefusesLabels text e) (f : Bool) (ls : List (List ℕ)) (t : LabelsText text f ls) (is : IsDomainName (domain_name f ls)) where
  so_far : LabelsSoFar text h.front h.rest
  so_far = front-so_far text h.front h.rest h.begins

  no_next : RefusesNextLabel (labels_len h.front) h.rest e → ⊥
  no_next (inl r) =
      labels-none text h.front h.rest so_far (λ label behind u good. (label_text_causes h.rest).none e r (label, behind, u, good)) f ls t
  no_next (inr (label, behind, u, good, long)) =
      let begun = labels-begin text h.front h.rest label behind so_far u f ls t in
      labels-too_long f true (h.front ++ label ∷ []) ls begun.0 begun.1
      (λ front. omega (arith, front.short, sum_by_push (λ l. length l + 1) h.front label, long.0)) is

  no_labels : ⊥
  no_labels = no_next h.next

name-none : (text : List ℕ) (e : ProtoError) (name : DomainName) → RefusesNameText text e → NameText text name → ⊥
name-none text e name h empty = h.0 refl
name-none text e name h (root c dot) = h.1 (ap (λ x. x ∷ []) dot)
name-none text e name h (labels_text _ f ls t is) = no_labels text e h.2 f ls t is

long-alike : (n : ℕ) (e f : ProtoError) → e ≡ too_long n → f ≡ too_long n → AreAlike e f
long-alike n e f h k = subst (λ (x : ProtoError). AreAlike x f) (sym h) (sym k)

long-memory : (n : ℕ) (e : ProtoError) → e ≡ too_long n → IsMemory e → ⊥
long-memory n e h = subst (λ (x : ProtoError). IsMemory x → ⊥) (sym h) (λ m. m)

next-one : (n : ℕ) (text : List ℕ) (e f : ProtoError) → RefusesNextLabel n text e → RefusesNextLabel n text f → AreAlike e f
next-one n text e f (inl h) (inl k) = (label_text_causes text).one e f h k
next-one n text e f (inl h) (inr (l, b, t, is, long)) = absurd ((label_text_causes text).none e h (l, b, t, is))
next-one n text e f (inr (l, b, t, is, long)) (inl k) = absurd ((label_text_causes text).none f k (l, b, t, is))
next-one n text e f (inr (l, b, t, is, long)) (inr (l', b', t', is', long')) =
    long-alike (n + length l + 2) e f long.1
    (subst (λ (x : List ℕ). f ≡ too_long (n + length x + 2)) (label-same text l' l b' b t' t).0 long'.1)

-- Where a label of a name stands next, it isn't refused.
no_refusal : (n a : ℕ) (text : List ℕ) (e : ProtoError) (l behind : List ℕ) (ls : List (List ℕ)) → LabelText text l behind → IsTextLabel l → a ≡ n + labels_len [] → n + labels_len (l ∷ ls) + 1 ≤ 255 → RefusesNextLabel a text e → ⊥
no_refusal n a text e l behind ls t is same short (inl r) = (label_text_causes text).none e r (l, behind, t, is)
no_refusal n a text e l behind ls t is same short (inr (l', b', t', is', long)) =
    absurd (omega (arith, long.0, same, short, ap length (label-same text l' l b' behind t' t).0, labels_len-cons l ls))

fronts-one : (n a b : ℕ) (text : List ℕ) (read other : List (List ℕ)) (rest behind : List ℕ) (e f : ProtoError) → LabelsFront text read rest → LabelsFront text other behind → a ≡ n + labels_len read → b ≡ n + labels_len other → n + labels_len read + 1 ≤ 255 → n + labels_len other + 1 ≤ 255 → RefusesNextLabel a rest e → RefusesNextLabel b behind f → AreAlike e f
fronts-one n a b text read other rest behind e f (none _) (none _) p q s u h k =
    next-one a text e f h (subst (λ (x : ℕ). RefusesNextLabel x text f) (q ∙ sym p) k)
fronts-one n a b text read other rest behind e f (none _) (more _ l c d later ls _ t is front) p q s u h k =
    absurd (no_refusal n a text e l (c ∷ d ∷ later) ls t is p u h)
fronts-one n a b text read other rest behind e f (more _ l c d later ls _ t is front) (none _) p q s u h k =
    absurd (no_refusal n b text f l (c ∷ d ∷ later) ls t is q s k)
fronts-one n a b text read other rest behind e f (more _ l c d later ls _ t is front) (more _ l' c' d' later' ls' _ t' is' front') p q s u h k =
    let same = label-same text l l' (c ∷ d ∷ later) (c' ∷ d' ∷ later') t t' in
    let left : d' ∷ later' ≡ d ∷ later = cc in
    let long : length l ≡ length l' = ap length same.0 in
    fronts-one (n + (length l + 1)) a b (d ∷ later) ls ls' rest behind e f front (subst (λ (x : List ℕ). LabelsFront x ls' behind) left front')
    (omega (arith, p, labels_len-cons l ls)) (omega (arith, q, labels_len-cons l' ls', long))
    (omega (arith, s, labels_len-cons l ls)) (omega (arith, u, labels_len-cons l' ls', long)) h k

name-one : (text : List ℕ) (e f : ProtoError) → RefusesNameText text e → RefusesNameText text f → AreAlike e f
name-one text e f h k =
    let one = h.2 in
    let two = k.2 in
    fronts-one 0 (labels_len one.front) (labels_len two.front) text one.front two.front one.rest two.rest e f one.begins two.begins
    (omega arith) (omega arith) (omega (arith, one.short)) (omega (arith, two.short)) one.next two.next

next-memory : (n : ℕ) (text : List ℕ) (e : ProtoError) → RefusesNextLabel n text e → IsMemory e → ⊥
next-memory n text e (inl h) = (label_text_causes text).memory e h
next-memory n text e (inr (l, b, t, is, long)) = long-memory (n + length l + 2) e long.1

pub name_text_causes : (text : List ℕ) → AreCauses ((name : DomainName) × NameText text name) (RefusesNameText text)
name_text_causes text = record {
  none = λ e h named. name-none text e named.0 h named.1;
  one = name-one text;
  memory = λ e h. next-memory (labels_len h.2.front) h.2.rest e h.2.next;
}

-- Where a cause stands, the call is refused by it, or for want of memory.
pub refused-by : (r : Result DomainName ProtoError) (text : List ℕ) → IfOk r (λ name. NameText text name) → IfErr r (λ e. IsMemory e ⊎ RefusesNameText text e) → (e : ProtoError) → RefusesNameText text e → MatchResult r (λ name. ⊥) (λ given. IsMemory given ⊎ AreAlike e given)
refused-by (Ok name) text ok cause e h = name-none text e name h ok
refused-by (Err given) text ok (inl m) e h = inl m
refused-by (Err given) text ok (inr k) e h = inr (name-one text e given h k)

module _ (origin : Option DomainName) (text : List ℕ) where
  completed-none : (e : ProtoError) (read : DomainName) → RefusesCompleted origin text e → NameText text read → IsDomainName (complete_name read origin) → ⊥
  completed-none e read (inl h) t is = name-none text e read h t
  completed-none e read (inr (other, u, long)) t is =
      let whole : IsDomainName (complete_name other origin) = subst (λ (n : DomainName). IsDomainName (complete_name n origin)) (name-same text read other t u) is in
      absurd (omega (arith, long.0, whole.short))

  completed-one : (e f : ProtoError) → RefusesCompleted origin text e → RefusesCompleted origin text f → AreAlike e f
  completed-one e f (inl h) (inl k) = name-one text e f h k
  completed-one e f (inl h) (inr (read, t, long)) = absurd (name-none text e read h t)
  completed-one e f (inr (read, t, long)) (inl k) = absurd (name-none text f read k t)
  completed-one e f (inr (read, t, long)) (inr (other, u, more_long)) =
      long-alike (labels_len (complete_name read origin).labels + 1) e f long.1
      (subst (λ (n : DomainName). f ≡ too_long (labels_len (complete_name n origin).labels + 1)) (name-same text other read u t) more_long.1)

  completed-memory : (e : ProtoError) → RefusesCompleted origin text e → IsMemory e → ⊥
  completed-memory e (inl h) = (name_text_causes text).memory e h
  completed-memory e (inr (read, t, long)) = long-memory (labels_len (complete_name read origin).labels + 1) e long.1

  pub completed_causes : AreCauses ((read : DomainName) × NameText text read × IsDomainName (complete_name read origin)) (RefusesCompleted origin text)
  completed_causes = record {
    none = λ e h named. completed-none e named.0 h named.1 named.2;
    one = completed-one;
    memory = completed-memory;
  }

-- Where a cause stands, no name is completed.
pub completed-some : (o : DomainName) (text : List ℕ) (r : Result DomainName ProtoError) (name : DomainName) → NameText text name → name.fqdn ≡ false → 0 < length name.labels → IfOk r (λ d. (d ≡ domain_name true (name.labels ++ o.labels)) × IsDomainName d) → IfErr r (λ e. IsMemory e ⊎ RefusesCompleted (Some o) text e) → (e : ProtoError) → RefusesCompleted (Some o) text e → MatchResult r (λ name. ⊥) (λ given. IsMemory given ⊎ AreAlike e given)
completed-some o text (Ok d) name t flag some h cause e k =
    completed-none (Some o) text e name k t (subst IsDomainName (h.0 ∙ sym (completed-is name o flag some)) h.1)
completed-some o text (Err given) name t flag some h (inl m) e k = inl m
completed-some o text (Err given) name t flag some h (inr j) e k = inr (completed-one (Some o) text e given k j)

text-name : (text : List ℕ) (name : DomainName) → NameText text name → IsDomainName name
text-name text name empty = record { each = All-nil IsLabel; short = omega arith }
text-name text name (root c dot) = record { each = All-nil IsLabel; short = omega arith }
text-name text name (labels_text _ f ls t is) = is

-- A name that isn't completed.
pub completed-not : (origin : Option DomainName) (text : List ℕ) (name : DomainName) → NameText text name → name ≡ complete_name name origin → (e : ProtoError) → RefusesCompleted origin text e → ⊥
completed-not origin text name t same e h =
    completed-none origin text e name h t (subst IsDomainName same (text-name text name t))
