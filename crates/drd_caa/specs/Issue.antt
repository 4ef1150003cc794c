-- The values of issue and issuewild properties (RFC 8659 4.2).
use Rattle.std.specs.Prelude.{ℕ, ◌≡◌, ◌≢◌, ◌-◌, ◌==◌, ◌&&◌, ◌||◌, Bool, not, true, nat_eq, nat_le, List, [], ◌∷◌, ◌++◌, All, reverse, length, slice_index, Option, Some, None, if◌then◌else◌}
use Rattle.std.specs.Char.{is_ascii_alphanumeric}
use Rattle.std.specs.Cmp.Lexicographic.{pointwise}
use Rattle.std.specs.Ordering.{on, eq_of_both}
use Rattle.std.specs.List.{list_all, flat_map, slice_split}
use Rattle.drd_words.specs.dnw_codes.Ascii.{equals_sign, hyphen, semicolon, space, is_blank}
use Rattle.drd_words.specs.dnw_name.DomainName.{DomainName}
use Rattle.drd_words.specs.dnw_name.NamePrint.{name_print}
use Rattle.drd_words.specs.dnw_name.NameText.{NameText}
use Rattle.drd_words.specs.Words.{EachWord}

-- A parameter: a key and a value.
pub record Parameter : Type 0 where
  pub key : List ℕ
  pub value : List ℕ

abbrev pub parameter : List ℕ → List ℕ → Parameter
parameter key value = record { key = key; value = value }

-- The same octets in both.
abbrev pub parameter_eq : Parameter → Parameter → Bool
parameter_eq =
    eq_of_both (on (λ p. p.key) (pointwise nat_eq)) (on (λ p. p.value) (pointwise nat_eq))

-- The octets from the first on that is no blank.
abbrev pub behind_blanks : List ℕ → List ℕ
behind_blanks [] = []
behind_blanks (c ∷ cs) = if is_blank c then behind_blanks cs else c ∷ cs

-- The octets without the blanks at both ends.
unfoldable pub trim : List ℕ → List ℕ
trim octets = reverse (behind_blanks (reverse (behind_blanks octets)))

-- Letters, digits and hyphens, at both ends a letter or a digit.
abbrev pub is_key : List ℕ → Bool
is_key key =
    is_ascii_alphanumeric (slice_index key 0)
    && is_ascii_alphanumeric (slice_index key (length key - 1))
    && list_all (λ c. is_ascii_alphanumeric c || c == hyphen) key

-- Printed characters but the semicolon; it may be empty.
abbrev pub is_value : List ℕ → Bool
is_value value = list_all (λ c. nat_le 33 c && nat_le c 126 && not (c == semicolon)) value

-- The key, `=` and the value, with blanks around each.
abbrev pub IsParameter : Parameter → List ℕ → Type 0
IsParameter p octets =
    (front behind : List ℕ) × (octets ≡ front ++ equals_sign ∷ behind) × (trim front ≡ p.key)
    × (trim behind ≡ p.value)
    × (is_key p.key ≡ true) × (is_value p.value ≡ true)

-- A parameter behind each semicolon; where there is none, blanks may stand behind one semicolon.
abbrev pub AreParameters : List (List ℕ) → List Parameter → Type 0
AreParameters [] ps = ps ≡ []
AreParameters (octets ∷ []) [] = trim octets ≡ []
AreParameters parts ps = EachWord IsParameter ps parts

-- The text of the issuer's name, or nothing, with blanks around it.
abbrev pub IsIssuer : Option DomainName → List ℕ → Type 0
IsIssuer None octets = trim octets ≡ []
IsIssuer (Some name) octets = (trim octets ≢ []) × NameText (trim octets) name

abbrev pub AreIssueParts : List (List ℕ) → Option DomainName → List Parameter → Type 0
AreIssueParts [] issuer ps = ⊥
AreIssueParts (octets ∷ parts) issuer ps = IsIssuer issuer octets × AreParameters parts ps

-- An issuer, and parameters behind semicolons.
abbrev pub IsIssueValue : List ℕ → Option DomainName → List Parameter → Type 0
IsIssueValue octets issuer ps = AreIssueParts (slice_split (λ c. c == semicolon) octets) issuer ps

-- A parameter behind a semicolon and a space.
abbrev pub parameter_print : Parameter → List ℕ
parameter_print p = semicolon ∷ space ∷ (p.key ++ equals_sign ∷ p.value)

-- The value as it is written: the text of the issuer's name, and the parameters; a semicolon alone
-- where there is nothing.
abbrev pub issue_value : Option DomainName → List Parameter → List ℕ
issue_value None [] = semicolon ∷ []
issue_value None (p ∷ ps) = flat_map parameter_print (p ∷ ps)
issue_value (Some name) ps = name_print name ++ flat_map parameter_print ps

-- An issuer whose name has a text that isn't empty, has no semicolon and reads back.
abbrev pub CanIssue : Option DomainName → Type 0
CanIssue None = Unit {0}
CanIssue (Some name) =
    (name_print name ≢ []) × (list_all (λ c. not (c == semicolon)) (name_print name) ≡ true)
    × NameText (name_print name) name

abbrev pub AreFit : List Parameter → Type 0
AreFit ps = All (λ p. (is_key p.key ≡ true) × (is_value p.value ≡ true)) ps
