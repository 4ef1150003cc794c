-- Laws of equality: numbers, strings and names have octets of their own.
use Rattle.std.proofs.Common.{◌≡◌, ℕ, ◌^◌, ◌/◌, ◌%◌, ◌<◌, ◌==◌, ◌&&◌, nat_eq, Bool, true, false, List, [], ◌∷◌, ◌++◌, All, length, map, take, refl, sym, ap, subst, ◌∙◌, arith, append_assoc, append-nil, Vec, Global}
use Rattle.std.proofs.lemmas.Bool.Decides.{nat_tests}
use Rattle.std.proofs.lemmas.List.{take_at, append_cancel_left}
use Rattle.std.proofs.lemmas.List.Elements.{All-head, All-tail}
use Rattle.std.specs.Bool.{beq}
use Rattle.std.specs.Cmp.Lexicographic.{pointwise, same_text}
use Rattle.std.proofs.lemmas.Cmp.{nat_list_eq_equiv, nat_eq_equiv, lists_equiv}
use Rattle.std.specs.Cmp.{IsEquivalence}
use Rattle.std.specs.Cmp.Rules.{comparing}
use Rattle.std.specs.List.{flat_map}
use Rattle.std.specs.Str.{str_to_ascii_lowercase}
use Rattle.dnw_encoder.specs.dnw_label.Label.{IsLabel, label_eq}
use Rattle.dnw_encoder.specs.dnw_name.DomainName.{DomainName, IsDomainName, domain_name, name_octets, name_eq}
use Rattle.dnw_encoder.specs.dnw_decoder.Octets.{octets_16, octets_32}
use Rattle.dnw_encoder.proofs.NameLaws.{lower_name}
use Rattle.drd_fields.specs.Fields.{Field, octet, short, long, name, string, strings, rest, kind_of, kinds_of, is_open, AreOrdered}
use Rattle.drd_fields.specs.Writing.{string_octets, canonical_octets}
use Rattle.drd_fields.specs.Equality.{Tells, TellsApart, TellsField, canonical_field, field_eq, fields_eq}

pub from_test : (n m : ℕ) → (n == m) ≡ true → n ≡ m
from_test n m e = grind (arith, nat_tests)

from_no_test : (n m : ℕ) → (n == m) ≡ false → n ≡ m → ⊥
from_no_test n m e same = grind (arith, nat_tests)

pub octet_apart : (n m : ℕ) → TellsApart (n == m) (n ∷ []) (m ∷ [])
octet_apart n m = record {
  equal = λ e. ap (λ (k : ℕ). k ∷ []) (from_test n m e);
  other = λ e xs ys whole. from_no_test n m e (cc whole);
}

pub short_apart : (n m : ℕ) → n < 2 ^ 16 → m < 2 ^ 16 → TellsApart (n == m) (octets_16 n) (octets_16 m)
short_apart n m small few = record {
  equal = λ e. ap octets_16 (from_test n m e);
  other = λ e xs ys whole.
      let high : n / 256 % 256 ≡ m / 256 % 256 = cc whole in
      let low : n % 256 ≡ m % 256 = cc whole in
      from_no_test n m e (omega (arith, high, low, small, few));
}

long_same : (n m : ℕ) → n < 2 ^ 32 → m < 2 ^ 32 → (xs ys : List ℕ) → octets_32 n ++ xs ≡ octets_32 m ++ ys → n ≡ m
unfolding octets_32
long_same n m small few xs ys whole =
    let a : n / 16777216 % 256 ≡ m / 16777216 % 256 = cc whole in
    let b : n / 65536 % 256 ≡ m / 65536 % 256 = cc whole in
    let c : n / 256 % 256 ≡ m / 256 % 256 = cc whole in
    let d : n % 256 ≡ m % 256 = cc whole in
    omega (arith, a, b, c, d, small, few)

pub long_apart : (n m : ℕ) → n < 2 ^ 32 → m < 2 ^ 32 → TellsApart (n == m) (octets_32 n) (octets_32 m)
long_apart n m small few = record {
  equal = λ e. ap octets_32 (from_test n m e);
  other = λ e xs ys whole. from_no_test n m e (long_same n m small few xs ys whole);
}

pub true_or_false : (b : Bool) → b ≡ true → b ≡ false → ⊥
true_or_false b e f = cc

-- Octets found equal one by one are the same, and the same octets are found so.
pub same_octets : (xs ys : List ℕ) → pointwise nat_eq xs ys ≡ true → xs ≡ ys
same_octets xs ys e = same_text xs ys (sym e)

pub found_same : (xs ys : List ℕ) → xs ≡ ys → pointwise nat_eq xs ys ≡ true
found_same xs ys e = subst (λ (t : List ℕ). pointwise nat_eq xs t ≡ true) e (nat_list_eq_equiv.refl xs)

pub rest_tells : (xs ys : List ℕ) → Tells (pointwise nat_eq xs ys) xs ys
rest_tells xs ys = record {
  equal = same_octets xs ys;
  other = λ e same. true_or_false (pointwise nat_eq xs ys) (found_same xs ys same) e;
}

-- Strings behind their lengths begin with the same string.
pub string_same : (s t xs ys : List ℕ) → string_octets s ++ xs ≡ string_octets t ++ ys → (s ≡ t) × (xs ≡ ys)
string_same s t xs ys whole =
    let long : length s ≡ length t = cc whole in
    let tails : s ++ xs ≡ t ++ ys = cc whole in
    let first : s ≡ t = sym (take_at s xs (length t) long) ∙ ap (λ (o : List ℕ). take (length t) o) tails ∙ take_at t ys (length t) refl in
    (first, append_cancel_left t xs ys (ap (λ (o : List ℕ). o ++ xs) (sym first) ∙ tails))

pub string_apart : (s t : List ℕ) → TellsApart (pointwise nat_eq s t) (string_octets s) (string_octets t)
string_apart s t = record {
  equal = λ e. ap string_octets (same_octets s t e);
  other = λ e xs ys whole. true_or_false (pointwise nat_eq s t) (found_same s t (string_same s t xs ys whole).0) e;
}

strings_same : (ss ts : List (List ℕ)) → flat_map string_octets ss ≡ flat_map string_octets ts → ss ≡ ts
strings_same [] [] e = refl
strings_same [] (t ∷ ts) e = absurd (cc e)
strings_same (s ∷ ss) [] e = absurd (cc e)
strings_same (s ∷ ss) (t ∷ ts) e =
    let parts = string_same s t (flat_map string_octets ss) (flat_map string_octets ts) e in
    ap (λ (x : List ℕ). x ∷ ss) parts.0 ∙ ap (λ (xs : List (List ℕ)). t ∷ xs) (strings_same ss ts parts.1)

pub both_true : (a b : Bool) → (a && b) ≡ true → (a ≡ true) × (b ≡ true)
both_true true b e = (refl, e)
both_true false b e = absurd (cc e)

pub found_strings : (ss ts : List (List ℕ)) → pointwise (pointwise nat_eq) ss ts ≡ true → ss ≡ ts
found_strings [] [] e = refl
found_strings [] (t ∷ ts) e = absurd (cc e)
found_strings (s ∷ ss) [] e = absurd (cc e)
found_strings (s ∷ ss) (t ∷ ts) e =
    let parts = both_true (pointwise nat_eq s t) (pointwise (pointwise nat_eq) ss ts) e in
    ap (λ (x : List ℕ). x ∷ ss) (same_octets s t parts.0) ∙ ap (λ (xs : List (List ℕ)). t ∷ xs) (found_strings ss ts parts.1)

strings_found : (ss : List (List ℕ)) → pointwise (pointwise nat_eq) ss ss ≡ true
strings_found [] = refl
strings_found (s ∷ ss) = ap (λ (b : Bool). b && pointwise (pointwise nat_eq) ss ss) (found_same s s refl) ∙ strings_found ss

pub strings_tell : (ss ts : List (List ℕ)) → Tells (pointwise (pointwise nat_eq) ss ts) (flat_map string_octets ss) (flat_map string_octets ts)
strings_tell ss ts = record {
  equal = λ e. ap (flat_map string_octets) (found_strings ss ts e);
  other = λ e same. true_or_false (pointwise (pointwise nat_eq) ss ts) (subst (λ (xs : List (List ℕ)). pointwise (pointwise nat_eq) ss xs ≡ true) (strings_same ss ts same) (strings_found ss)) e;
}

-- Labels up to the end of a name.
labels_same : (cs bs : List (List ℕ)) (xs ys : List ℕ) → All IsLabel cs → All IsLabel bs → flat_map string_octets cs ++ 0 ∷ xs ≡ flat_map string_octets bs ++ 0 ∷ ys → cs ≡ bs
labels_same [] [] xs ys p q e = refl
labels_same [] (b ∷ bs) xs ys p q e =
    let head : 0 ≡ length b = cc e in
    absurd (omega (arith, head, (All-head IsLabel b bs q).some))
labels_same (a ∷ cs) [] xs ys p q e =
    let head : length a ≡ 0 = cc e in
    absurd (omega (arith, head, (All-head IsLabel a cs p).some))
labels_same (a ∷ cs) (b ∷ bs) xs ys p q e =
    let whole : string_octets a ++ (flat_map string_octets cs ++ 0 ∷ xs) ≡ string_octets b ++ (flat_map string_octets bs ++ 0 ∷ ys) =
    sym (append_assoc (string_octets a) (flat_map string_octets cs) (0 ∷ xs)) ∙ e ∙ append_assoc (string_octets b) (flat_map string_octets bs) (0 ∷ ys) in
    let parts = string_same a b (flat_map string_octets cs ++ 0 ∷ xs) (flat_map string_octets bs ++ 0 ∷ ys) whole in
    ap (λ (x : List ℕ). x ∷ cs) parts.0 ∙ ap (λ (ls : List (List ℕ)). b ∷ ls) (labels_same cs bs xs ys (All-tail IsLabel a cs p) (All-tail IsLabel b bs q) parts.1)

pub lower_found : (cs bs : List (List ℕ)) → pointwise label_eq cs bs ≡ true → map str_to_ascii_lowercase cs ≡ map str_to_ascii_lowercase bs
lower_found [] [] e = refl
lower_found [] (b ∷ bs) e = absurd (cc e)
lower_found (a ∷ cs) [] e = absurd (cc e)
lower_found (a ∷ cs) (b ∷ bs) e =
    let parts = both_true (label_eq a b) (pointwise label_eq cs bs) e in
    ap (λ (x : List ℕ). x ∷ map str_to_ascii_lowercase cs) (same_octets (str_to_ascii_lowercase a) (str_to_ascii_lowercase b) parts.0)
    ∙ ap (λ (ls : List (List ℕ)). str_to_ascii_lowercase b ∷ ls) (lower_found cs bs parts.1)

pub found_lower : (cs bs : List (List ℕ)) → map str_to_ascii_lowercase cs ≡ map str_to_ascii_lowercase bs → pointwise label_eq cs bs ≡ true
found_lower [] [] e = refl
found_lower [] (b ∷ bs) e = absurd (cc e)
found_lower (a ∷ cs) [] e = absurd (cc e)
found_lower (a ∷ cs) (b ∷ bs) e =
    ap (λ (t : Bool). t && pointwise label_eq cs bs) (found_same (str_to_ascii_lowercase a) (str_to_ascii_lowercase b) (cc e)) ∙ found_lower cs bs (cc e)

pub name_apart : (a b : DomainName) → IsDomainName a → IsDomainName b → a.fqdn ≡ true → b.fqdn ≡ true → TellsApart (name_eq a b) (canonical_field (name a)) (canonical_field (name b))
name_apart a b is_name is_other full fuller =
    let la = map str_to_ascii_lowercase a.labels in
    let lb = map str_to_ascii_lowercase b.labels in
    record {
      equal = λ e. ap (λ (ls : List (List ℕ)). name_octets (domain_name true ls)) (lower_found a.labels b.labels (both_true (beq a.fqdn b.fqdn) (pointwise label_eq a.labels b.labels) e).1);
      other = λ e xs ys whole.
          let longer : flat_map string_octets la ++ 0 ∷ xs ≡ flat_map string_octets lb ++ 0 ∷ ys =
          sym (append_assoc (flat_map string_octets la) (0 ∷ []) xs) ∙ whole ∙ append_assoc (flat_map string_octets lb) (0 ∷ []) ys in
          let same = labels_same la lb xs ys (lower_name a is_name).each (lower_name b is_other).each longer in
          let flags : beq a.fqdn b.fqdn ≡ true = ap (λ (f : Bool). beq f b.fqdn) full ∙ ap (beq true) fuller in
          true_or_false (name_eq a b) (ap (λ (t : Bool). t && pointwise label_eq a.labels b.labels) flags ∙ found_lower a.labels b.labels same) e;
    }

-- No octets.
pub nothing_tells : Tells true [] []
nothing_tells = record { equal = λ e. refl; other = λ e same. cc e }

-- A front and what is behind it.
pub front_tells : (a b : Bool) (xs ys later_xs later_ys : List ℕ) → TellsApart a xs ys → Tells b later_xs later_ys → Tells (a && b) (xs ++ later_xs) (ys ++ later_ys)
front_tells true b xs ys later_xs later_ys front later = record {
  equal = λ e. ap (λ (o : List ℕ). o ++ later_xs) (front.equal refl) ∙ ap (λ (o : List ℕ). ys ++ o) (later.equal e);
  other = λ e same. later.other e (append_cancel_left ys later_xs later_ys (ap (λ (o : List ℕ). o ++ later_xs) (sym (front.equal refl)) ∙ same));
}
front_tells false b xs ys later_xs later_ys front later = record {
  equal = λ e. absurd (cc e);
  other = λ e same. front.other refl later_xs later_ys same;
}

name_equiv : IsEquivalence name_eq
name_equiv = search comparing depth 12

field_refl : (f : Field) → field_eq f f ≡ true
field_refl (octet x) = nat_eq_equiv.refl x
field_refl (short x) = nat_eq_equiv.refl x
field_refl (long x) = nat_eq_equiv.refl x
field_refl (name x) = name_equiv.refl x
field_refl (string x) = nat_list_eq_equiv.refl x
field_refl (strings x) = (lists_equiv nat_list_eq_equiv).refl x
field_refl (rest x) = nat_list_eq_equiv.refl x

field_symm : (f g : Field) → field_eq f g ≡ field_eq g f
field_symm (octet x) (octet y) = nat_eq_equiv.symm x y
field_symm (short x) (short y) = nat_eq_equiv.symm x y
field_symm (long x) (long y) = nat_eq_equiv.symm x y
field_symm (name x) (name y) = name_equiv.symm x y
field_symm (string x) (string y) = nat_list_eq_equiv.symm x y
field_symm (strings x) (strings y) = (lists_equiv nat_list_eq_equiv).symm x y
field_symm (rest x) (rest y) = nat_list_eq_equiv.symm x y
field_symm f g = refl

field_congr : (f g h : Field) → field_eq f g ≡ true → field_eq f h ≡ field_eq g h
field_congr (octet x) (octet y) (octet z) e = nat_eq_equiv.congr x y z e
field_congr (octet x) (octet y) h e = refl
field_congr (short x) (short y) (short z) e = nat_eq_equiv.congr x y z e
field_congr (short x) (short y) h e = refl
field_congr (long x) (long y) (long z) e = nat_eq_equiv.congr x y z e
field_congr (long x) (long y) h e = refl
field_congr (name x) (name y) (name z) e = name_equiv.congr x y z e
field_congr (name x) (name y) h e = refl
field_congr (string x) (string y) (string z) e = nat_list_eq_equiv.congr x y z e
field_congr (string x) (string y) h e = refl
field_congr (strings x) (strings y) (strings z) e = (lists_equiv nat_list_eq_equiv).congr x y z e
field_congr (strings x) (strings y) h e = refl
field_congr (rest x) (rest y) (rest z) e = nat_list_eq_equiv.congr x y z e
field_congr (rest x) (rest y) h e = refl
field_congr f g h e = absurd (cc e)

pub field_equiv : IsEquivalence field_eq
field_equiv = record { refl = field_refl; symm = field_symm; congr = field_congr }

pub fields_equiv : IsEquivalence fields_eq
fields_equiv = lists_equiv field_equiv

-- The equality of values by their fields is one.
pub data_equiv : {X : Type 0} (fields : X → List Field) → IsEquivalence (λ (a b : X). fields_eq (fields a) (fields b))
data_equiv fields = record {
  refl = λ x. fields_equiv.refl (fields x);
  symm = λ x y. fields_equiv.symm (fields x) (fields y);
  congr = λ x y z e. fields_equiv.congr (fields x) (fields y) (fields z) e;
}

-- Strings in vectors are equal where the strings are.
pub items_same : (xs ys : List (Vec ℕ Global)) → pointwise (λ (a b : Vec ℕ Global). pointwise nat_eq a.items b.items) xs ys ≡ pointwise (pointwise nat_eq) (map (λ (v : Vec ℕ Global). v.items) xs) (map (λ (v : Vec ℕ Global). v.items) ys)
items_same [] [] = refl
items_same [] (y ∷ ys) = refl
items_same (x ∷ xs) [] = refl
items_same (x ∷ xs) (y ∷ ys) = ap (λ (b : Bool). pointwise nat_eq x.items y.items && b) (items_same xs ys)

pub and_true : (b : Bool) → (b && true) ≡ b
and_true true = refl
and_true false = refl

-- What is told apart in front is told of the whole field.
pub apart_tells : (same : Bool) (f g : Field) → TellsApart same (canonical_field f) (canonical_field g) → TellsField same f g
apart_tells same f g t = record {
  whole = record { equal = t.equal; other = λ e is. t.other e [] [] (ap (λ (o : List ℕ). o ++ []) is) };
  front = λ closed. t;
}

pub open_tells : (same : Bool) (f g : Field) → is_open (kind_of f) ≡ true → Tells same (canonical_field f) (canonical_field g) → TellsField same f g
open_tells same f g opens t = record { whole = t; front = λ closed. absurd (cc (sym opens ∙ closed)) }

last_tells : (same : Bool) (xs ys : List ℕ) → Tells same xs ys → Tells same (xs ++ []) (ys ++ [])
last_tells same xs ys t =
    subst (λ (o : List ℕ). Tells same o (ys ++ [])) (sym (append-nil xs)) (subst (λ (o : List ℕ). Tells same xs o) (sym (append-nil ys)) t)

more_tell : (opens a b : Bool) (f g : Field) (fs gs : List Field) → is_open (kind_of f) ≡ opens → kinds_of fs ≡ kinds_of gs → AreOrdered (kind_of f ∷ kinds_of fs) → TellsField a f g → (a ≡ true → Tells b (canonical_octets fs) (canonical_octets gs)) → Tells (a && b) (canonical_octets (f ∷ fs)) (canonical_octets (g ∷ gs))
more_tell false true b f g fs gs is same ordered one later = front_tells true b (canonical_field f) (canonical_field g) (canonical_octets fs) (canonical_octets gs) (one.front is) (later refl)
more_tell false false b f g fs gs is same ordered one later = record {
  equal = λ e. absurd (cc e);
  other = λ e whole. (one.front is).other refl (canonical_octets fs) (canonical_octets gs) whole;
}
more_tell true true true f g [] [] is same ordered one later = last_tells true (canonical_field f) (canonical_field g) one.whole
more_tell true true false f g [] [] is same ordered one later = absurd ((later refl).other refl refl)
more_tell true false b f g [] [] is same ordered one later = last_tells false (canonical_field f) (canonical_field g) one.whole
more_tell true a b f g (h ∷ fs) gs is same ordered one later = absurd (cc (ordered.0 is))
more_tell true a b f g [] (h ∷ gs) is same ordered one later = absurd (cc same)

-- The first of two lists of fields and, where those are equal, what is behind them.
pub fields_tell : (a b : Bool) (f g : Field) (fs gs : List Field) → kinds_of fs ≡ kinds_of gs → AreOrdered (kind_of f ∷ kinds_of fs) → TellsField a f g → (a ≡ true → Tells b (canonical_octets fs) (canonical_octets gs)) → Tells (a && b) (canonical_octets (f ∷ fs)) (canonical_octets (g ∷ gs))
fields_tell a b f g fs gs same ordered one later = more_tell (is_open (kind_of f)) a b f g fs gs refl same ordered one later
