-- A key after the last of a rising list is new.
use Rattle.std.proofs.Common.{◌≡◌, ◌∙◌, ◌++◌, ◌-◌, ℕ, Bool, true, false, not, List, [], ◌∷◌, ap, arith, length, refl, subst, sym, inl, inr}
use Rattle.std.proofs.lemmas.Bool.{true≢false}
use Rattle.std.proofs.lemmas.List.{length-append}
use Rattle.std.proofs.lemmas.List.Folds.{list_all-append, list_any-append}
use Rattle.std.specs.Prelude.{Option, Some, None, ◌&&◌, ◌||◌, ◌⊎◌, cond, slice_get}
use Rattle.std.specs.List.{list_all, list_any}
use Rattle.std.specs.Ordering.{is_eq, is_le, is_lt, ordering_reverse}
use Rattle.std.specs.declared.cmp.Ordering.{Ordering}
use Rattle.std.specs.declared.cmp.Ordering.TheVariants.{Less, Equal, Greater}
use Rattle.zst_zone.specs.Seen.{AreRising, are_before}
use Rattle.zst_key.proofs.NamesAbove.{name_total}
use Rattle.zst_circle.specs.dnw_name.DomainName.{DomainName, name_cmp, name_eq}
use Rattle.zst_circle.specs.dnw_name.NameOrderLaws.{name_eq-by_cmp}

is-less : (o : Ordering) → is_lt o ≡ true → o ≡ Less
is-less Less e = refl
is-less Equal e = absurd (true≢false (sym e))
is-less Greater e = absurd (true≢false (sym e))

both : (a b : Bool) → (a && b) ≡ true → (a ≡ true) × (b ≡ true)
both true true e = (refl, refl)
both true false e = absurd (true≢false (sym e))
both false b e = absurd (true≢false (sym e))

-- ---- after the last
before-one : (key last x : DomainName) → is_lt (name_cmp last key) ≡ true → is_le (name_cmp x last) ≡ true → is_lt (name_cmp x key) ≡ true
before-one key last x past up = by (name_cmp x last) refl up
  where
    less : name_cmp last key ≡ Less
    less = is-less (name_cmp last key) past

    by : (o : Ordering) → name_cmp x last ≡ o → is_le o ≡ true → is_lt (name_cmp x key) ≡ true
    by Less before le = ap is_lt (name_total.trans x last key before less)
    by Equal same le = ap is_lt (name_total.congr x last key same ∙ less)
    by Greater after le = absurd (true≢false (sym le))

before-all : (key last : DomainName) (keys : List DomainName) → is_lt (name_cmp last key) ≡ true → list_all (λ other. is_le (name_cmp other last)) keys ≡ true → are_before key keys ≡ true
before-all key last [] past up = refl
before-all key last (x ∷ xs) past up =
    let each = both (is_le (name_cmp x last)) (list_all (λ other. is_le (name_cmp other last)) xs) up in
    ap (λ (b : Bool). b && are_before key xs) (before-one key last x past each.0) ∙ before-all key last xs past each.1

pub past-last : (key : DomainName) (keys : List DomainName) (last : DomainName) → AreRising keys → slice_get keys (length keys - 1) ≡ Some last → is_lt (name_cmp last key) ≡ true → are_before key keys ≡ true
past-last key keys last rising is past = before-all key last keys past (rising last is)

-- ---- it is new
apart : (o : Ordering) → is_lt o ≡ true → is_eq (ordering_reverse o) ≡ false
apart Less e = refl
apart Equal e = absurd (true≢false (sym e))
apart Greater e = absurd (true≢false (sym e))

other-one : (key x : DomainName) → is_lt (name_cmp x key) ≡ true → name_eq key x ≡ false
other-one key x less = name_eq-by_cmp key x ∙ ap is_eq (name_total.antisymm key x) ∙ apart (name_cmp x key) less

pub none-there : (key : DomainName) (keys : List DomainName) → are_before key keys ≡ true → list_any (name_eq key) keys ≡ false
none-there key [] before = refl
none-there key (x ∷ xs) before =
    let each = both (is_lt (name_cmp x key)) (are_before key xs) before in
    ap (λ (b : Bool). b || list_any (name_eq key) xs) (other-one key x each.0) ∙ none-there key xs each.1

-- ---- and the last from then on
last-at : (keys : List DomainName) (key : DomainName) → slice_get (keys ++ key ∷ []) (length keys) ≡ Some key
last-at [] key = refl
last-at (x ∷ keys) key = last-at keys key

one-less : (keys : List DomainName) (key : DomainName) → length (keys ++ key ∷ []) - 1 ≡ length keys
one-less keys key = omega (arith, length-append keys (key ∷ []))

last-of : (keys : List DomainName) (key last : DomainName) → slice_get (keys ++ key ∷ []) (length (keys ++ key ∷ []) - 1) ≡ Some last → key ≡ last
last-of keys key last e =
    let h : Some key ≡ Some last = sym (last-at keys key) ∙ ap (slice_get (keys ++ key ∷ [])) (sym (one-less keys key)) ∙ e in cc h

own-order : (o : Ordering) → o ≡ ordering_reverse o → o ≡ Equal
own-order Less e = absurd (cc e)
own-order Equal e = refl
own-order Greater e = absurd (cc e)

equal-itself : (name : DomainName) → name_cmp name name ≡ Equal
equal-itself name = own-order (name_cmp name name) (name_total.antisymm name name)

up : (o : Ordering) → is_lt o ≡ true → is_le o ≡ true
up Less e = refl
up Equal e = absurd (true≢false (sym e))
up Greater e = absurd (true≢false (sym e))

up-all : (key : DomainName) (keys : List DomainName) → are_before key keys ≡ true → list_all (λ other. is_le (name_cmp other key)) (keys ++ key ∷ []) ≡ true
up-all key [] before = ap (λ (b : Bool). b && true) (ap is_le (equal-itself key))
up-all key (x ∷ xs) before =
    let each = both (is_lt (name_cmp x key)) (are_before key xs) before in
    ap (λ (b : Bool). b && list_all (λ other. is_le (name_cmp other key)) (xs ++ key ∷ [])) (up (name_cmp x key) each.0) ∙ up-all key xs each.1

pub rises : (key : DomainName) (keys : List DomainName) → are_before key keys ≡ true → AreRising (keys ++ key ∷ [])
rises key keys before last is =
    subst (λ (l : DomainName). list_all (λ other. is_le (name_cmp other l)) (keys ++ key ∷ []) ≡ true) (last-of keys key last is) (up-all key keys before)

-- ---- what was seen then
eq-turned : (a b : DomainName) → name_eq a b ≡ name_eq b a
eq-turned a b = name_eq-by_cmp a b ∙ turned (name_cmp a b) (name_cmp b a) (name_total.antisymm a b) ∙ sym (name_eq-by_cmp b a)
  where
    turned : (o p : Ordering) → o ≡ ordering_reverse p → is_eq o ≡ is_eq p
    turned o Less e = ap is_eq e
    turned o Equal e = ap is_eq e
    turned o Greater e = ap is_eq e

abbrev Puts : DomainName → List DomainName → List DomainName → Type 0
Puts key old new = (k : DomainName) → list_any (name_eq k) new ≡ cond (name_eq key k) true (list_any (name_eq k) old)

first-then : (a b c : Bool) → (a || cond c true b) ≡ ((a || (c || false)) || b)
first-then true b c = refl
first-then false b true = refl
first-then false b false = refl

-- Moving a key from one list to the other leaves it seen.
pub moved : (rising rest hashed after : List DomainName) (key : DomainName) → rising ≡ rest ++ key ∷ [] → Puts key hashed after
    → (k : DomainName) → list_any (name_eq k) (rest ++ after) ≡ list_any (name_eq k) (rising ++ hashed)
moved rising rest hashed after key is puts k =
    list_any-append (name_eq k) rest after
    ∙ ap (λ (b : Bool). list_any (name_eq k) rest || b) (puts k)
    ∙ first-then (list_any (name_eq k) rest) (list_any (name_eq k) hashed) (name_eq key k)
    ∙ ap (λ (b : Bool). (list_any (name_eq k) rest || (b || false)) || list_any (name_eq k) hashed) (eq-turned key k)
    ∙ ap (λ (b : Bool). b || list_any (name_eq k) hashed) (sym (list_any-append (name_eq k) rest (key ∷ [])))
    ∙ sym (list_any-append (name_eq k) (rest ++ key ∷ []) hashed)
    ∙ ap (λ (keys : List DomainName). list_any (name_eq k) (keys ++ hashed)) (sym is)

true-or : (a b c : Bool) → ((a || (c || false)) || b) ≡ cond c true (a || b)
true-or true b true = refl
true-or true b false = refl
true-or false b true = refl
true-or false b false = refl

-- One that is appended is seen from then on.
pub appended : (rising hashed : List DomainName) (key k : DomainName) → list_any (name_eq k) ((rising ++ key ∷ []) ++ hashed) ≡ cond (name_eq key k) true (list_any (name_eq k) (rising ++ hashed))
appended rising hashed key k =
    list_any-append (name_eq k) (rising ++ key ∷ []) hashed
    ∙ ap (λ (b : Bool). b || list_any (name_eq k) hashed) (list_any-append (name_eq k) rising (key ∷ []))
    ∙ true-or (list_any (name_eq k) rising) (list_any (name_eq k) hashed) (name_eq k key)
    ∙ ap (λ (b : Bool). cond b true (list_any (name_eq k) rising || list_any (name_eq k) hashed)) (eq-turned k key)
    ∙ ap (λ (b : Bool). cond (name_eq key k) true b) (sym (list_any-append (name_eq k) rising hashed))

-- A key after all others is new.
pub new-key : (rising hashed : List DomainName) (key : DomainName) → hashed ≡ [] → are_before key rising ≡ true → list_any (name_eq key) (rising ++ hashed) ≡ false
new-key rising hashed key none before =
    list_any-append (name_eq key) rising hashed
    ∙ ap (λ (keys : List DomainName). list_any (name_eq key) rising || list_any (name_eq key) keys) none
    ∙ ap (λ (b : Bool). b || false) (none-there key rising before)

-- If the first list is empty, only the second counts.
pub second-tells : (rising hashed : List DomainName) (k : DomainName) → rising ≡ [] → list_any (name_eq k) hashed ≡ list_any (name_eq k) (rising ++ hashed)
second-tells rising hashed k none = ap (λ (keys : List DomainName). list_any (name_eq k) (keys ++ hashed)) (sym none)

pub no-items : (keys : List DomainName) → length keys ≡ 0 → keys ≡ []
no-items [] e = refl
no-items (x ∷ keys) e = absurd (omega (arith, e))
