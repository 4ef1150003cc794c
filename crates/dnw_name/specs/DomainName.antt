-- Domain names (RFC 1035 3.1) and their canonical order (RFC 4034 6.1).
use Rattle.std.specs.Prelude.{ℕ, ◌+◌, ◌≤◌, Bool, true, false, List, [], ◌∷◌, ◌++◌, All, length, reverse, map, drop, sum_by, cond, ◌==◌, ◌-◌, slice_get}
use lib.Chars.{codes}
use Rattle.std.specs.Option.{option_map_or}
use Rattle.std.specs.Bool.{beq}
use Rattle.std.specs.Cmp.Lexicographic.{slice_cmp, pointwise}
use Rattle.std.specs.List.{ends_with}
use Rattle.std.specs.Ordering.{on, then_cmp, eq_of_both, bool_cmp}
use Rattle.std.specs.declared.cmp.Ordering.{Ordering}
use Rattle.std.specs.Str.{str_to_ascii_lowercase}
use Rattle.dnw_net.specs.dnw_codes.declared.error.ProtoError.{ProtoError}
use Rattle.dnw_net.specs.dnw_codes.declared.error.ProtoError.TheVariants.{Decode}
use Rattle.dnw_net.specs.dnw_codes.declared.error.DecodeError.TheVariants.{DomainNameTooLong}
use Rattle.dnw_net.specs.dnw_label.Label.{IsLabel, label_eq, label_cmp, is_wildcard_label, wildcard_label}
use Rattle.dnw_net.specs.dnw_label.Labels.{label_octets}

-- A name: whether it ends at the root, and its labels from the left.
pub record DomainName : Type 0 where
  pub fqdn : Bool
  pub labels : List (List ℕ)

abbrev pub domain_name : Bool → List (List ℕ) → DomainName
domain_name fqdn labels = record { fqdn = fqdn; labels = labels }

-- The octets of the labels, each with the one before it that holds its length.
abbrev pub labels_len : List (List ℕ) → ℕ
labels_len labels = sum_by (λ label. length label + 1) labels

-- RFC 1035 2.3.4: labels of 1 to 63 octets, in all at most 255 octets with those of their lengths
-- and of the end.
pub record IsDomainName (name : DomainName) : Type 0 where
  pub each : All IsLabel name.labels
  pub short : labels_len name.labels + 1 ≤ 255

-- RFC 1035 3.1: each label behind its length, then the end.
abbrev pub name_octets : DomainName → List ℕ
name_octets name = label_octets name.labels ++ 0 ∷ []

-- The same flag, and the same labels up to the case of ASCII letters.
abbrev pub name_eq : DomainName → DomainName → Bool
name_eq = eq_of_both (on (λ name. name.fqdn) beq) (on (λ name. name.labels) (pointwise label_eq))

-- A relative name before a fully qualified one; else label by label from the right (RFC 4034 6.1).
abbrev pub name_cmp_by : (List ℕ → List ℕ → Ordering) → DomainName → DomainName → Ordering
name_cmp_by R =
    then_cmp (on (λ name. name.fqdn) bool_cmp) (on (λ name. reverse name.labels) (slice_cmp R))

abbrev pub name_cmp : DomainName → DomainName → Ordering
name_cmp = name_cmp_by label_cmp

-- The labels of the ancestor end those of the name, flags aside.
abbrev pub is_at_or_below : DomainName → DomainName → Bool
is_at_or_below name ancestor = ends_with label_eq name.labels ancestor.labels

-- `localhost.`, whose names are the host's own (RFC 6761 6.3).
abbrev pub localhost : DomainName
localhost = domain_name true (codes "localhost" ∷ [])

-- The first label is an asterisk (RFC 4592 2.1.1).
abbrev pub is_wildcard : DomainName → Bool
is_wildcard name = option_map_or is_wildcard_label (slice_get name.labels 0) false

-- The labels without that of a wildcard (RFC 4034 3.1.3).
abbrev pub num_labels : DomainName → ℕ
num_labels name = length name.labels - cond (is_wildcard name) 1 0

-- The octets of the labels with those of their lengths; the end counts where there are none.
abbrev pub name_len : DomainName → ℕ
name_len name = cond (length name.labels == 0) 1 (labels_len name.labels)

-- The name in lower case.
abbrev pub lowercase_name : DomainName → DomainName
lowercase_name name = domain_name name.fqdn (map str_to_ascii_lowercase name.labels)

-- The name with an asterisk in place of its first label; the root where it has none.
abbrev pub wildcard_of : DomainName → DomainName
wildcard_of name =
    cond (length name.labels == 0) (domain_name true [])
    (domain_name name.fqdn (wildcard_label ∷ drop 1 name.labels))

-- The error for a name of so many octets, which are more than 255.
abbrev pub too_long : ℕ → ProtoError
too_long octets = Decode (DomainNameTooLong octets)
