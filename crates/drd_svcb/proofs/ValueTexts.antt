-- What a text tells of a value.
use Rattle.std.proofs.Common.{◌≡◌, ◌<◌, ℕ, List, [], ◌∷◌, length, length-append, refl, sym, ap, ◌∙◌, arith}
use Rattle.std.specs.List.{flat_map, slice_split}
use Rattle.std.specs.Prelude.{All, String}
use Rattle.std.specs.declared.alloc.Global.{Global}
use Rattle.std.proofs.lemmas.List.Elements.{All-nil, All-cons}
use Rattle.std.proofs.lemmas.List.Concat.{flat_map-cons}
use Rattle.std.proofs.lemmas.List.Splits.{length-slice_split}
use Rattle.base64.proofs.EngineFacts.{decode_of-encode_of}
use Rattle.base64.specs.Engines.{standard}
use Rattle.base64.specs.GeneralPurpose.{decode_of}
use Rattle.drd_params.specs.dnw_decoder.Octets.{octets_16}
use Rattle.drd_params.specs.drd_fields.Writing.{string_octets}
use Rattle.drd_params.specs.drd_words.Data.{IsBase64Text}
use Rattle.drd_params.specs.drd_words.Words.{EachWord}
use Rattle.drd_param_keys.specs.EntryLaws.{key_told, string_told}
use Rattle.drd_params.specs.AddressLaws.{a_told, aaaa_told}
use Rattle.drd_param_keys.proofs.KeyTexts.{key-one}
use Rattle.drd_param_keys.specs.Keys.{key_number, IsKey}
use Rattle.drd_param_keys.specs.Texts.{IsKeyText, IsProtocolText}
use Rattle.drd_params.specs.AddressEntries.{IsAEntry, IsAaaaEntry, a_octets, aaaa_octets}
use Rattle.drd_param_keys.specs.Entries.{IsShortText}
use Rattle.drd_params.specs.Values.{IsValueOf, value_octets}
use Rattle.drd_param_keys.specs.declared.key.SvcParamKey.{SvcParamKey}
use Rattle.drd_param_keys.specs.declared.key.SvcParamKey.TheVariants as key
use Rattle.drd_params.specs.declared.value.SvcParamValue.{SvcParamValue}
use Rattle.drd_params.specs.declared.value.SvcParamValue.TheVariants as value
use Rattle.std.specs.String.{string_bytes}
use Rattle.drd_param_keys.specs.ListTexts.{is_comma, IsListText}
use Rattle.drd_svcb.specs.Texts.{IsValueText}
use Rattle.drd_params.proofs.drd_words_lemmas.Escaped.{escaped-once}

module _ {T : Type 0} (Written : T → List ℕ → Type 0) where
  each-length : (spelled : T → List ℕ) → ((a b : T) (text : List ℕ) → Written a text → Written b text → length (spelled a) ≡ length (spelled b)) → (xs ys : List T) (words : List (List ℕ)) → EachWord Written xs words → EachWord Written ys words → length (flat_map spelled xs) ≡ length (flat_map spelled ys)
  each-length spelled told [] [] words p q = refl
  each-length spelled told [] (y ∷ ys) [] p q = absurd q
  each-length spelled told [] (y ∷ ys) (w ∷ ws) p q = absurd p
  each-length spelled told (x ∷ xs) [] [] p q = absurd p
  each-length spelled told (x ∷ xs) [] (w ∷ ws) p q = absurd q
  each-length spelled told (x ∷ xs) (y ∷ ys) [] p q = absurd p
  each-length spelled told (x ∷ xs) (y ∷ ys) (w ∷ ws) p q =
      omega (
        arith,
        ap length (flat_map-cons spelled x xs),
        ap length (flat_map-cons spelled y ys),
        length-append (spelled x) (flat_map spelled xs),
        length-append (spelled y) (flat_map spelled ys),
        told x y w p.0 q.0,
        each-length spelled told xs ys ws p.1 q.1,
      )

  each-many : (xs : List T) (words : List (List ℕ)) → EachWord Written xs words → length xs ≡ length words
  each-many [] [] h = refl
  each-many [] (w ∷ ws) h = absurd h
  each-many (x ∷ xs) [] h = absurd h
  each-many (x ∷ xs) (w ∷ ws) h = omega (arith, each-many xs ws h.1)

  list-some : (xs : List T) (text : List ℕ) → IsListText Written xs text → 0 < length xs
  list-some xs text h = omega (arith, each-many xs (slice_split is_comma text) h, length-slice_split is_comma text)

base64-once : (text a b : List ℕ) → IsBase64Text a text → IsBase64Text b text → a ≡ b
base64-once text a b p q =
    let first = decode_of-encode_of standard a refl p.1 in
    let second = decode_of-encode_of standard b refl q.1 in
    let same = sym first ∙ ap (decode_of standard) (sym p.0 ∙ q.0) ∙ second in
    cc same

-- A text of a key's value tells how many octets the value has.
pub value-length : (k : SvcParamKey) (v w : SvcParamValue) (text : List ℕ) → IsValueText k v text → IsValueText k w text → length (value_octets v) ≡ length (value_octets w)
value-length key.Mandatory (value.Mandatory a) (value.Mandatory b) text p q = each-length IsKeyText (λ k. octets_16 (key_number k)) key_told a.0.items b.0.items (slice_split is_comma text) p q
value-length key.Alpn (value.Alpn a) (value.Alpn b) text p q = each-length IsProtocolText (λ s. string_octets (string_bytes s)) string_told a.0.items b.0.items (slice_split is_comma text) p q
value-length key.NoDefaultAlpn value.NoDefaultAlpn value.NoDefaultAlpn text p q = refl
value-length key.Port (value.Port a) (value.Port b) text p q = refl
value-length key.Ipv4Hint (value.Ipv4Hint a) (value.Ipv4Hint b) text p q = each-length IsAEntry a_octets a_told a.0.items b.0.items (slice_split is_comma text) p q
value-length key.EchConfigList (value.EchConfigList a) (value.EchConfigList b) text p q = ap length (base64-once text a.0.items b.0.items p.1 q.1)
value-length key.Ipv6Hint (value.Ipv6Hint a) (value.Ipv6Hint b) text p q = each-length IsAaaaEntry aaaa_octets aaaa_told a.0.items b.0.items (slice_split is_comma text) p q
value-length (key.Key n) (value.Unknown a) (value.Unknown b) text p q = ap length (escaped-once text a.0.items b.0.items p q)
value-length key.Key65535 (value.Unknown a) (value.Unknown b) text p q = ap length (escaped-once text a.0.items b.0.items p q)
value-length (key.Unknown n) (value.Unknown a) (value.Unknown b) text p q = ap length (escaped-once text a.0.items b.0.items p q)
value-length key.Mandatory (value.Mandatory a) w text p q = absurd q
value-length key.Alpn (value.Alpn a) w text p q = absurd q
value-length key.NoDefaultAlpn value.NoDefaultAlpn w text p q = absurd q
value-length key.Port (value.Port a) w text p q = absurd q
value-length key.Ipv4Hint (value.Ipv4Hint a) w text p q = absurd q
value-length key.EchConfigList (value.EchConfigList a) w text p q = absurd q
value-length key.Ipv6Hint (value.Ipv6Hint a) w text p q = absurd q
value-length (key.Key n) (value.Unknown a) w text p q = absurd q
value-length key.Key65535 (value.Unknown a) w text p q = absurd q
value-length (key.Unknown n) (value.Unknown a) w text p q = absurd q
value-length k v w text p q = absurd p

short-protocols : (protocols : List (String Global)) (words : List (List ℕ)) → EachWord IsProtocolText protocols words → All IsShortText protocols
short-protocols [] words h = All-nil IsShortText
short-protocols (p ∷ ps) [] h = absurd h
short-protocols (p ∷ ps) (w ∷ ws) h = All-cons IsShortText p ps (omega (arith, h.0.2, ap length h.0.0)) (short-protocols ps ws h.1)

own-keys : (keys : List SvcParamKey) (words : List (List ℕ)) → EachWord IsKeyText keys words → All IsKey keys
own-keys [] words h = All-nil IsKey
own-keys (k ∷ ks) [] h = absurd h
own-keys (k ∷ ks) (w ∷ ws) h = All-cons IsKey k ks (key-one k w h.0) (own-keys ks ws h.1)

-- What a text of a key's value stands for is one.
pub value-of : (k : SvcParamKey) (v : SvcParamValue) (text : List ℕ) → IsValueText k v text → IsValueOf k v
value-of key.Mandatory (value.Mandatory a) text p = (list-some IsKeyText a.0.items text p, own-keys a.0.items (slice_split is_comma text) p)
value-of key.Alpn (value.Alpn a) text p = (list-some IsProtocolText a.0.items text p, short-protocols a.0.items (slice_split is_comma text) p)
value-of key.NoDefaultAlpn value.NoDefaultAlpn text p = tt
value-of key.Port (value.Port a) text p = tt
value-of key.Ipv4Hint (value.Ipv4Hint a) text p = tt
value-of key.EchConfigList (value.EchConfigList a) text p = tt
value-of key.Ipv6Hint (value.Ipv6Hint a) text p = tt
value-of (key.Key n) (value.Unknown a) text p = tt
value-of key.Key65535 (value.Unknown a) text p = tt
value-of (key.Unknown n) (value.Unknown a) text p = tt
value-of k v text p = absurd p
