-- Names that are equal, and their keys.
use Rattle.std.proofs.Common.{◌≡◌, refl, ap, sym, ◌∙◌}
use Rattle.std.specs.Prelude.{ℕ, Bool, true, false, List, [], ◌∷◌, cond, map}
use Rattle.std.specs.Bool.{beq}
use Rattle.std.specs.Cmp.Lexicographic.{pointwise}
use Rattle.std.specs.Str.{bytes_eq, str_to_ascii_lowercase}
use Rattle.std.proofs.lemmas.Bool.{and_parts}
use Rattle.std.proofs.lemmas.Slice.Eq.{bytes_eq-Decides}
use Rattle.zst_map.specs.dnw_codes.declared.record_type.RecordType.{RecordType}
use Rattle.zst_map.specs.dnw_name.DomainName.{DomainName, domain_name, lowercase_name, name_eq}
use Rattle.zst_map.specs.zst_handler.Lookups.{sets_of_name}
use Rattle.zst_map.specs.zst_record.RecordSets.{RRset, empty_set}
use Rattle.zst_map.specs.zst_record.RecordLaws.{name_eq_equiv}
use Rattle.zst_map.proofs.Upserted.{sets_named}

-- A name has the sets of another one exactly if they are equal.
abbrev has_one : List RRset → Bool
has_one [] = false
has_one (set ∷ sets) = true

one_of : (b : Bool) (set : RRset) → has_one (cond b (set ∷ []) []) ≡ b
one_of true set = refl
one_of false set = refl

pub eq_lower : (t : RecordType) (a b : DomainName) → name_eq (lowercase_name a) b ≡ name_eq a b
eq_lower t a b =
    sym (one_of (name_eq (lowercase_name a) b) (empty_set b t)) ∙ ap has_one (sets_named (empty_set b t ∷ []) a) ∙ one_of (name_eq a b) (empty_set b t)

-- A key is found by names that are equal to its name.
pub key_is : (t : RecordType) (key owner name : DomainName) → key ≡ lowercase_name owner → name_eq key name ≡ name_eq owner name
key_is t key owner name is = ap (λ (n : DomainName). name_eq n name) is ∙ eq_lower t owner name

pub sets_same : (sets : List RRset) (a b : DomainName) → name_eq a b ≡ true → sets_of_name sets a ≡ sets_of_name sets b
sets_same [] a b same = refl
sets_same (set ∷ sets) a b same =
    ap (λ (c : Bool). cond c (set ∷ sets_of_name sets a) (sets_of_name sets a)) (name_eq_equiv.congr a b set.name same)
    ∙ ap (λ (l : List RRset). cond (name_eq b set.name) (set ∷ l) l) (sets_same sets a b same)

pub flipped : (a b : DomainName) → name_eq a b ≡ true → name_eq b a ≡ true
flipped a b same = name_eq_equiv.symm b a ∙ same

pub chained : (a b c : DomainName) → name_eq a b ≡ true → name_eq b c ≡ true → name_eq a c ≡ true
chained a b c first second = name_eq_equiv.congr a b c first ∙ second

-- ---- names in lower case
abbrev pub IsLower : DomainName → Type 0
IsLower name = lowercase_name name ≡ name

abbrev lowered : List (List ℕ) → List (List ℕ)
lowered labels = map str_to_ascii_lowercase labels

abbrev same_lowered : List ℕ → List ℕ → Bool
same_lowered x y = bytes_eq (str_to_ascii_lowercase x) (str_to_ascii_lowercase y)

labels_lower : (xs ys : List (List ℕ)) → pointwise same_lowered xs ys ≡ true → lowered xs ≡ lowered ys
labels_lower [] [] e = refl
labels_lower [] (y ∷ ys) e = let h : ⊥ = cc in absurd h
labels_lower (x ∷ xs) [] e = let h : ⊥ = cc in absurd h
labels_lower (x ∷ xs) (y ∷ ys) e =
    let parts = and_parts (same_lowered x y) (pointwise same_lowered xs ys) e in
    ap (λ (l : List ℕ). l ∷ lowered xs) ((bytes_eq-Decides (str_to_ascii_lowercase x) (str_to_ascii_lowercase y)).0 parts.0)
    ∙ ap (λ (ls : List (List ℕ)). str_to_ascii_lowercase y ∷ ls) (labels_lower xs ys parts.1)

same_flag : (f g : Bool) → beq f g ≡ true → f ≡ g
same_flag true true e = refl
same_flag true false e = let h : ⊥ = cc in absurd h
same_flag false true e = let h : ⊥ = cc in absurd h
same_flag false false e = refl

pub one_lower : (a b : DomainName) → name_eq a b ≡ true → lowercase_name a ≡ lowercase_name b
one_lower a b e =
    let parts = and_parts (beq a.fqdn b.fqdn) (pointwise same_lowered a.labels b.labels) e in
    ap (λ (f : Bool). domain_name f (lowered a.labels)) (same_flag a.fqdn b.fqdn parts.0)
    ∙ ap (domain_name b.fqdn) (labels_lower a.labels b.labels parts.1)

pub lower_key : (t : RecordType) (key owner : DomainName) → key ≡ lowercase_name owner → IsLower key
lower_key t key owner keyed = ap lowercase_name keyed ∙ one_lower (lowercase_name owner) owner (eq_lower t owner owner ∙ name_eq_equiv.refl owner) ∙ sym keyed
