-- Which names equal the wildcard below a name.
use Rattle.std.proofs.Common.{◌≡◌, ℕ, Bool, true, false, List, [], ◌∷◌, nat_eq, refl, ap, sym, ◌∙◌, arith}
use Rattle.std.specs.Prelude.{◌&&◌}
use Rattle.std.specs.Bool.{beq}
use Rattle.std.specs.Char.{to_ascii_lowercase}
use Rattle.std.specs.Str.{bytes_eq, str_to_ascii_lowercase}
use Rattle.std.proofs.lemmas.Bool.{and_parts, true≢false}
use Rattle.std.proofs.lemmas.Bool.Decides.{nat_tests}
use Rattle.zst_handler.specs.dnw_name.DomainName.{DomainName, domain_name, is_wildcard, lowercase_name, name_eq}
use Rattle.zst_key.specs.Ancestors.{parent, star}
use Rattle.zst_key.proofs.KeyLemmas.{eq-lower}

-- No other octet is an asterisk in lower case.
only_asterisk : (x : ℕ) → nat_eq 42 (to_ascii_lowercase x) ≡ true → nat_eq x 42 ≡ true
only_asterisk x e = grind (arith, nat_tests)

-- The label of a wildcard, whatever the case.
star_label : (label : List ℕ) → bytes_eq (42 ∷ []) (str_to_ascii_lowercase label) ≡ true → bytes_eq label (42 ∷ []) ≡ true
star_label [] e = absurd (true≢false (sym e))
star_label (x ∷ []) e = ap (λ (b : Bool). b && true) (only_asterisk x (and_parts (nat_eq 42 (to_ascii_lowercase x)) true e).0)
star_label (x ∷ y ∷ ys) e = absurd (true≢false (sym (and_parts (nat_eq 42 (to_ascii_lowercase x)) false e).1))

-- A name that equals the wildcard below another one is a wildcard, and the other one stands above it.
pub record IsBelowIt (name wildcard : DomainName) : Type 0 where
  pub is : is_wildcard wildcard ≡ true
  pub stands_above : name_eq name (parent wildcard) ≡ true

pub star_parts : (name other : DomainName) → name_eq (star name) other ≡ true → IsBelowIt name other
star_parts name other e = by other.labels e
  where
    by : (labels : List (List ℕ)) → name_eq (star name) (domain_name other.fqdn labels) ≡ true → IsBelowIt name (domain_name other.fqdn labels)
    by [] e = absurd (true≢false (sym (and_parts (beq name.fqdn other.fqdn) false e).1))
    by (label ∷ labels) e =
        let flags = and_parts (beq name.fqdn other.fqdn) _ e in
        let rest = and_parts (bytes_eq (42 ∷ []) (str_to_ascii_lowercase label)) _ flags.1 in
        record {
          is = star_label label rest.0;
          stands_above = rw (flags.0, rest.1) refl;
        }

parent_lower : (f : Bool) (labels : List (List ℕ)) → parent (lowercase_name (domain_name f labels)) ≡ lowercase_name (parent (domain_name f labels))
parent_lower f [] = refl
parent_lower f (label ∷ labels) = refl

-- The key of the name above a wildcard.
pub star_key : (name other key : DomainName) → key ≡ lowercase_name other → name_eq (star name) other ≡ true → name_eq name (parent key) ≡ true
star_key name other key at e =
    ap (λ (k : DomainName). name_eq name (parent k)) at ∙ ap (name_eq name) (parent_lower other.fqdn other.labels)
    ∙ eq-lower name (parent other) ∙ (star_parts name other e).stands_above
