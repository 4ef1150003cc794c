-- Words that are refused are no parameters, and none is refused for want of memory.
use Rattle.std.specs.Prelude.{ℕ, ◌≡◌, ◌<◌, ◌+◌, List, [], ◌∷◌, length, codes}
use Rattle.std.proofs.Common.{◌⊎◌, inl, inr, sym, ap, subst, arith}
use Rattle.std.specs.List.{before_first, slice_split}
use Rattle.drd_params.specs.dnw_codes.declared.error.ParseError.{ParseError}
use Rattle.drd_params.specs.dnw_codes.declared.error.ParseError.TheVariants.{DataEncoding}
use Rattle.drd_params.specs.drd_words.Data.{IsBase64Text}
use Rattle.drd_params.specs.drd_words.Refusals.{AreCauses}
use Rattle.drd_params.specs.drd_words.RefusalsLaws.{each_causes, joined_causes, message_memory, number_causes, one_error}
use Rattle.drd_params.specs.drd_words.Word.{IsOutOfMemory}
use Rattle.drd_params.specs.drd_words.Words.{EachWord}
use Rattle.drd_param_keys.specs.Keys.{key_number}
use Rattle.drd_params.specs.Params.{Param, Rise}
use Rattle.drd_param_keys.specs.Texts.{RefusesKeyText}
use Rattle.drd_param_keys.specs.TextsLaws.{key_causes, protocol_causes}
use Rattle.drd_params.specs.AddressLaws.{a_causes, aaaa_causes}
use Rattle.drd_param_keys.specs.declared.key.SvcParamKey.{SvcParamKey}
use Rattle.drd_param_keys.specs.declared.key.SvcParamKey.TheVariants as key
use Rattle.drd_params.specs.declared.value.SvcParamValue.{SvcParamValue}
use Rattle.drd_params.specs.declared.value.SvcParamValue.TheVariants as value
use Rattle.drd_param_keys.proofs.KeyTexts.{key-once}
use Rattle.drd_params.specs.drd_words.Escapes.{RefusesEscapes}
use Rattle.drd_param_keys.specs.ListTexts.{RefusesList, is_comma, IsListText}
use Rattle.drd_param_keys.specs.Words.{RefusesEch, is_equals}
use Rattle.drd_svcb.specs.ParamRefusals.{RefusesValueText, HasNoValue, HasLongValue, RefusesParamTexts}
use Rattle.drd_svcb.specs.Texts.{IsValueText, IsParamText, AreParamTexts}

pub list_causes : {T : Type 0} {Written : T → List ℕ → Type 0}
    {Unwritten : List ℕ → ParseError → Type 0}
    → ((entry : List ℕ) → AreCauses (λ x. Written x entry) (Unwritten entry)) → (text : List ℕ)
    → AreCauses (λ xs. IsListText Written xs text) (RefusesList Written Unwritten text)
list_causes first text = each_causes first (slice_split is_comma text)

ech_none : (text : List ℕ) (e : ParseError) → RefusesEch text e → (octets : List ℕ)
    → (0 < length text) × IsBase64Text octets text → ⊥
ech_none [] e h octets is = omega (arith, is.0)
ech_none (c ∷ cs) e h octets is = h.1 octets is.1

ech_memory : (text : List ℕ) (e : ParseError) → RefusesEch text e → IsOutOfMemory e → ⊥
ech_memory [] e h = (joined_causes (codes "base64") IsBase64Text []).memory e h
ech_memory (c ∷ cs) e h =
    (one_error (λ octets. IsBase64Text octets (c ∷ cs)) DataEncoding (λ m. m)).memory e h

escapes_memory : (text : List ℕ) (e : ParseError) → RefusesEscapes text e → IsOutOfMemory e → ⊥
escapes_memory text e h = message_memory (codes "a backslash that begins no octet") e h.0

value_none : (k : SvcParamKey) (v : SvcParamValue) (text : List ℕ) (e : ParseError)
    → RefusesValueText k text e → IsValueText k v text → ⊥
value_none key.Mandatory (value.Mandatory mandatory) text e h is =
    (list_causes key_causes text).none e h mandatory.0.items is
value_none key.Alpn (value.Alpn alpn) text e h is =
    (list_causes protocol_causes text).none e h alpn.0.items is
value_none key.NoDefaultAlpn value.NoDefaultAlpn text e h is = omega (arith, h.1, is)
value_none key.Port (value.Port port) text e h is = h.1 port is
value_none key.Ipv4Hint (value.Ipv4Hint hint) text e h is =
    (list_causes a_causes text).none e h hint.0.items is
value_none key.EchConfigList (value.EchConfigList ech) text e h is =
    ech_none text e h ech.0.items is
value_none key.Ipv6Hint (value.Ipv6Hint hint) text e h is =
    (list_causes aaaa_causes text).none e h hint.0.items is
value_none (key.Key number) (value.Unknown unknown) text e h is = h.1 unknown.0.items is
value_none key.Key65535 (value.Unknown unknown) text e h is = h.1 unknown.0.items is
value_none (key.Unknown number) (value.Unknown unknown) text e h is = h.1 unknown.0.items is
value_none k v text e h is = absurd is

value_memory : (k : SvcParamKey) (text : List ℕ) (e : ParseError) → RefusesValueText k text e
    → IsOutOfMemory e → ⊥
value_memory key.Mandatory text e h = (list_causes key_causes text).memory e h
value_memory key.Alpn text e h = (list_causes protocol_causes text).memory e h
value_memory key.NoDefaultAlpn text e h =
    subst (λ (x : ParseError). IsOutOfMemory x → ⊥) (sym h.0) (λ m. m)
value_memory key.Port text e h = (number_causes 16 text).memory e h
value_memory key.Ipv4Hint text e h = (list_causes a_causes text).memory e h
value_memory key.EchConfigList text e h = ech_memory text e h
value_memory key.Ipv6Hint text e h = (list_causes aaaa_causes text).memory e h
value_memory k text e h = escapes_memory text e h

pub value_causes : (k : SvcParamKey) (text : List ℕ)
    → AreCauses (λ v. IsValueText k v text) (RefusesValueText k text)
value_causes k text = record {
  none = λ e h v is. value_none k v text e h is;
  memory = value_memory k text;
}

texts_none : (least : ℕ) (words : List (List ℕ)) (e : ParseError)
    → RefusesParamTexts least words e → (params : List Param) (above : ℕ)
    → EachWord IsParamText params words → Rise least params above → ⊥
texts_none least [] e h params above each rise = absurd h
texts_none least (word ∷ words) e h [] above each rise = each
texts_none least (word ∷ words) e (inl none) (p ∷ ps) above each rise = none.1 p each.0 rise.0
texts_none least (word ∷ words) e (inr h) (p ∷ ps) above each rise =
    let same : key_number p.0 ≡ key_number h.0.0 =
    ap key_number (key-once p.0 h.0.0 (before_first is_equals word) each.0.key h.1.key) in
    elim h.3 [
      | inl below ↦ omega (arith, below.0, same, rise.1)
      | inr more ↦ texts_none (key_number h.0.0 + 1) words e more.1 ps above each.1
          (subst (λ (k : ℕ). Rise (k + 1) ps above) same rise.2)
    ]

text_memory : (word : List ℕ) (e : ParseError)
    → RefusesKeyText (before_first is_equals word) e ⊎ HasNoValue word e ⊎ HasLongValue word e
    → IsOutOfMemory e → ⊥
text_memory word e (inl h) = (key_causes (before_first is_equals word)).memory e h
text_memory word e (inr (inl h)) = value_memory h.0 h.2 e h.4
text_memory word e (inr (inr h)) =
    message_memory (codes "a value has at most 65,535 octets") e h.0

texts_memory : (least : ℕ) (words : List (List ℕ)) (e : ParseError)
    → RefusesParamTexts least words e → IsOutOfMemory e → ⊥
texts_memory least [] e h = absurd h
texts_memory least (word ∷ words) e (inl none) = text_memory word e none.0
texts_memory least (word ∷ words) e (inr h) =
    elim h.3 [
      | inl below ↦ message_memory (codes "the keys of parameters rise") e below.1
      | inr more ↦ texts_memory (key_number h.0.0 + 1) words e more.1
    ]

pub texts_causes : (words : List (List ℕ))
    → AreCauses (λ params. AreParamTexts params words) (RefusesParamTexts 0 words)
texts_causes words = record {
  none = λ e h params all. texts_none 0 words e h params all.1.0 all.0 all.1.1;
  memory = texts_memory 0 words;
}
