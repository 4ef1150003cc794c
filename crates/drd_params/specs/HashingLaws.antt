-- Equal values are fed alike.
use Rattle.std.proofs.Common.{◌≡◌, ◌==◌, ◌&&◌, true, ℕ, ◌<◌, List, [], ◌∷◌, ◌++◌, nat_eq, length, refl, sym, ap, ◌∙◌, arith}
use Rattle.std.specs.Cmp.Lexicographic.{pointwise}
use Rattle.std.specs.Hash as fed
use Rattle.std.specs.Hash.{HashWrites}
use Rattle.std.specs.List.{flat_map}
use Rattle.std.specs.String.{string_bytes}
use Rattle.std.proofs.lemmas.List.{append_cancel_right, length-append}
use Rattle.std.proofs.lemmas.List.Concat.{flat_map-cons}
use Rattle.drd_fields.proofs.EqualityLaws.{both_true, from_test, same_octets}
use Rattle.drd_param_keys.specs.EntryLaws.{key_laws, string_laws}
use Rattle.drd_param_keys.specs.Keys.{key_number}
use Rattle.drd_params.specs.dnw_decoder.Octets.{octets_16}
use Rattle.drd_params.specs.drd_fields.Equality.{fields_eq}
use Rattle.drd_params.specs.drd_fields.Writing.{string_octets}
use Rattle.drd_params.specs.drd_fields.Order.{string_input}
use Rattle.drd_params.specs.AddressEntries.{a_octets, aaaa_octets}
use Rattle.drd_params.specs.AddressLaws.{a_laws, aaaa_laws}
use Rattle.drd_params.specs.Equality.{told_length, value_code, value_kind}
use Rattle.drd_params.specs.Hashing.{one_write, string_write, list_input, value_input}
use Rattle.drd_params.specs.Values.{value_octets}
use Rattle.drd_params.specs.declared.value.SvcParamValue.{SvcParamValue}
use Rattle.drd_params.specs.declared.value.SvcParamValue.TheVariants as value

module _ {T : Type 0} (spelled : T → List ℕ)
    (laws : ((x : T) → 0 < length (spelled x))
    × ((a b : T) (xs ys : List ℕ) → spelled a ++ xs ≡ spelled b ++ ys → xs ≡ ys))
    (input : List ℕ → HashWrites) where
  no-octets : (x : T) (xs : List T) → [] ≡ flat_map spelled (x ∷ xs) → ⊥
  no-octets x xs e =
      omega (
        arith,
        laws.0 x,
        length-append (spelled x) (flat_map spelled xs),
        ap length
            (e ∙ flat_map-cons spelled x xs),
      )

  -- The octets of lists are the same where those of their entries are.
  entries-fed : (xs ys : List T) → flat_map spelled xs ≡ flat_map spelled ys
      → (length xs ≡ length ys)
      × (flat_map (λ x. input (spelled x)) xs ≡ flat_map (λ x. input (spelled x)) ys)
  entries-fed [] [] e = (refl, refl)
  entries-fed [] (y ∷ ys) e = absurd (no-octets y ys e)
  entries-fed (x ∷ xs) [] e = absurd (no-octets x xs (sym e))
  entries-fed (x ∷ xs) (y ∷ ys) e =
      let whole : spelled x ++ flat_map spelled xs ≡ spelled y ++ flat_map spelled ys =
      sym (flat_map-cons spelled x xs) ∙ e ∙ flat_map-cons spelled y ys in
      let tails : flat_map spelled xs ≡ flat_map spelled ys =
      laws.1 x y (flat_map spelled xs) (flat_map spelled ys) whole in
      let first : spelled x ≡ spelled y =
      append_cancel_right (spelled x) (spelled y) (flat_map spelled ys)
      (ap (λ (o : List ℕ). spelled x ++ o) (sym tails) ∙ whole) in
      let later = entries-fed xs ys tails in (
        omega (arith, later.0),
        flat_map-cons (λ z. input (spelled z)) x xs
            ∙ ap (λ (o : List ℕ). input o ++ flat_map (λ z. input (spelled z)) xs) first
            ∙ ap (λ (w : HashWrites). input (spelled y) ++ w) later.1
            ∙ sym (flat_map-cons (λ z. input (spelled z)) y ys),
      )

  entries-alike : (xs ys : List T) → flat_map spelled xs ≡ flat_map spelled ys
      → list_input (λ x. input (spelled x)) xs ≡ list_input (λ x. input (spelled x)) ys
  entries-alike xs ys e =
      let same = entries-fed xs ys e in
      ap (λ (n : ℕ). fed.usize n ++ flat_map (λ x. input (spelled x)) xs) same.0
      ∙ ap (λ (w : HashWrites). fed.usize (length ys) ++ w) same.1

pub values-alike : (v w : SvcParamValue) → value_kind v ≡ value_kind w
    → value_octets v ≡ value_octets w → value_input v ≡ value_input w
values-alike (value.Mandatory a) (value.Mandatory b) k e =
    entries-alike (λ k. octets_16 (key_number k)) key_laws one_write a.0.items b.0.items e
values-alike (value.Alpn a) (value.Alpn b) k e =
    entries-alike (λ s. string_octets (string_bytes s)) string_laws string_write a.0.items b.0.items
    e
values-alike value.NoDefaultAlpn value.NoDefaultAlpn k e = refl
values-alike (value.Port a) (value.Port b) k e = ap one_write e
values-alike (value.Ipv4Hint a) (value.Ipv4Hint b) k e =
    entries-alike a_octets a_laws one_write a.0.items b.0.items e
values-alike (value.EchConfigList a) (value.EchConfigList b) k e = ap string_input e
values-alike (value.Ipv6Hint a) (value.Ipv6Hint b) k e =
    entries-alike aaaa_octets aaaa_laws one_write a.0.items b.0.items e
values-alike (value.Unknown a) (value.Unknown b) k e = ap string_input e
values-alike v w k e = absurd (cc)

pub value-alike : (v w : SvcParamValue) → fields_eq (value_code v) (value_code w) ≡ true
    → value_input v ≡ value_input w
value-alike v w e =
    let kinds =
    both_true (value_kind v == value_kind w)
    ((told_length (value_octets v) == told_length (value_octets w))
    && (pointwise nat_eq (value_octets v) (value_octets w) && true)) e in
    let lengths =
    both_true (told_length (value_octets v) == told_length (value_octets w))
    (pointwise nat_eq (value_octets v) (value_octets w) && true) kinds.1 in
    let octets = both_true (pointwise nat_eq (value_octets v) (value_octets w)) true lengths.1 in
    values-alike v w (from_test (value_kind v) (value_kind w) kinds.0)
    (same_octets (value_octets v) (value_octets w) octets.0)
