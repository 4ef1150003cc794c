-- Parameters in words.
use Rattle.std.proofs.Common.{◌≡◌, ◌<◌, ◌≤◌, ◌+◌, ℕ, zero, suc, List, [], ◌∷◌, ◌++◌, length, map, take, drop, get_or, refl, sym, ap, subst, ◌∙◌, arith, ◌⊎◌, inl, inr}
use Rattle.std.specs.Prelude.{Err}
use Rattle.std.specs.Borrow.{Bor}
use Rattle.std.specs.List.{before_first, after_first}
use lib.Chars.{codes}
use Rattle.std.specs.Option.{ok_or}
use Rattle.std.proofs.lemmas.List.{append_cancel_right, map-append}
use Rattle.drd_params.specs.dnw_codes.declared.error.ParseError.{ParseError}
use Rattle.drd_params.specs.dnw_codes.declared.error.ParseError.TheVariants.{UnexpectedToken}
use Rattle.drd_params.specs.drd_words.Refusals.{IsMessage}
use Rattle.drd_params.specs.drd_words.Word.{IsOutOfMemory}
use Rattle.drd_params.specs.drd_words.Words.{EachWord}
use Rattle.drd_params.proofs.drd_words_lemmas.EachWord.{each-step}
use Rattle.drd_param_keys.specs.Keys.{key_number, key_of_text}
use Rattle.drd_params.specs.Params.{Param, IsParam, Rise}
use Rattle.drd_param_keys.specs.Texts.{IsKeyText, RefusesKeyText}
use Rattle.drd_params.specs.Values.{value_octets}
use Rattle.drd_param_keys.specs.declared.key.SvcParamKey.{SvcParamKey}
use Rattle.drd_params.specs.declared.value.SvcParamValue.{SvcParamValue}
use Rattle.drd_param_keys.proofs.KeyTexts.{key-none, key-one, key-once}
use Rattle.drd_svcb.specs.ParamRefusals.{RefusesValueText, NoParamText, RefusesParamTexts}
use Rattle.drd_svcb.specs.ParamRefusalsLaws.{value_causes}
use Rattle.drd_param_keys.specs.Words.{is_equals, IsUnquoted}
use Rattle.drd_svcb.specs.Texts.{IsValueText, IsParamText, AreParamTexts}
use Rattle.drd_svcb.proofs.ValueTexts.{value-length, value-of}

-- A text loses its quotes in one way.
unquoted-once : (text a b : List ℕ) → IsUnquoted text a → IsUnquoted text b → a ≡ b
unquoted-once text a b (inl e) (inl f) =
    let same : 34 ∷ (a ++ 34 ∷ []) ≡ 34 ∷ (b ++ 34 ∷ []) = sym e ∙ f in
    let behind : a ++ 34 ∷ [] ≡ b ++ 34 ∷ [] = cc same in
    append_cancel_right a b (34 ∷ []) behind
unquoted-once text a b (inl e) (inr f) = absurd (f.1 a e)
unquoted-once text a b (inr e) (inl f) = absurd (e.1 b f)
unquoted-once text a b (inr e) (inr f) = sym e.0 ∙ f.0

-- The parameter that a word stands for has this key, and this text of its value.
text-of : (word inner : List ℕ) (k : SvcParamKey) → IsKeyText k (before_first is_equals word) → IsUnquoted (after_first is_equals word) inner → (p : Param) → IsParamText p word → (p.0 ≡ k) × IsValueText k p.1 inner
text-of word inner k is quotes p h =
    let same : p.0 ≡ k = key-once p.0 k (before_first is_equals word) h.key is in
    let text : h.text ≡ inner = unquoted-once (after_first is_equals word) h.text inner h.quotes quotes in
    (same, subst (λ (x : SvcParamKey). IsValueText x p.1 inner) same (subst (λ (t : List ℕ). IsValueText p.0 p.1 t) text h.value))

pub param-is : (word inner : List ℕ) (k : SvcParamKey) (v : SvcParamValue) → IsKeyText k (before_first is_equals word) → IsUnquoted (after_first is_equals word) inner → IsValueText k v inner → length (value_octets v) < 65536 → IsParamText (k, v) word × IsParam (k, v)
param-is word inner k v is quotes told few =
    let key = key-one k (before_first is_equals word) is in
    (record { key = is; text = inner; quotes = quotes; value = told }, record { number = key.small; key = key.one; value = value-of k v inner told; few = few })

pub too-long : (word inner : List ℕ) (k : SvcParamKey) (v : SvcParamValue) → IsKeyText k (before_first is_equals word) → IsUnquoted (after_first is_equals word) inner → IsValueText k v inner → 65535 < length (value_octets v) → (p : Param) → IsParamText p word → IsParam p → ⊥
too-long word inner k v is quotes told long p h param =
    omega (arith, param.few, value-length k v p.1 inner told (text-of word inner k is quotes p h).1, long)

-- The word behind those of parameters whose keys rise is one of a parameter whose key rises too.
pub rise-at : (ps found : List Param) (front : List (List ℕ)) (word : List ℕ) (later : List (List ℕ)) (n least above : ℕ) → EachWord IsParamText ps (front ++ word ∷ later) → Rise n ps above → EachWord IsParamText found front → Rise n found least → (p : Param) × IsParamText p word × IsParam p × (least ≤ key_number p.0)
rise-at [] [] [] word later n least above each rise done risen = absurd each
rise-at (p ∷ ps) [] [] word later n least above each rise done risen = (p, each.0, rise.0, omega (arith, risen, rise.1))
rise-at ps [] (w ∷ ws) word later n least above each rise done risen = absurd done
rise-at ps (q ∷ qs) [] word later n least above each rise done risen = absurd done
rise-at [] (q ∷ qs) (w ∷ ws) word later n least above each rise done risen = absurd each
rise-at (p ∷ ps) (q ∷ qs) (w ∷ ws) word later n least above each rise done risen =
    let same : key_number p.0 ≡ key_number q.0 = ap key_number (key-once p.0 q.0 (before_first is_equals w) each.0.key done.0.key) in
    rise-at ps qs ws word later (key_number q.0 + 1) least above each.1 (subst (λ (k : ℕ). Rise (k + 1) ps above) same rise.2) done.1 risen.2

rise-more : (front : List Param) (n least : ℕ) (p : Param) → Rise n front least → IsParam p → least ≤ key_number p.0 → Rise n (front ++ p ∷ []) (key_number p.0 + 1)
rise-more [] n least p rise is le = (is, omega (arith, rise, le), refl)
rise-more (q ∷ front) n least p rise is le = (rise.0, rise.1, rise-more front (key_number q.0 + 1) least p rise.2 is le)

abbrev pub now_of : Bor (List ℕ) → List ℕ
now_of word = word.now

-- These parameters stand for the first words, and their keys rise up to below this number.
pub record Done (found : List Param) (words : List (Bor (List ℕ))) (i least : ℕ) : Type 0 where
  pub each : EachWord IsParamText found (map now_of (take i words))
  pub rise : Rise 0 found least

pub done-more : (found longer : List Param) (words : List (Bor (List ℕ))) (i least above : ℕ) (d : Bor (List ℕ)) (p : Param) → i < length words → Done found words i least → IsParamText p (get_or words i d).now × IsParam p → least ≤ key_number p.0 → longer ≡ found ++ p ∷ [] → above ≡ key_number p.0 + 1 → Done longer words (i + 1) above
done-more found longer words i least above d p small done is le pushed up = record {
  each = each-step IsParamText found longer words i d p small done.each is.0 pushed;
  rise = subst (λ (xs : List Param). Rise 0 xs above) (sym pushed)
      (subst (λ (n : ℕ). Rise 0 (found ++ p ∷ []) n) (sym up) (rise-more found 0 least p done.rise is.1 le));
}

split-at : {B : Type 0} (xs : List B) (i : ℕ) (d : B) → i < length xs → xs ≡ take i xs ++ get_or xs i d ∷ drop (suc i) xs
split-at [] i d h = absurd (omega (arith, h))
split-at (x ∷ xs) zero d h = refl
split-at (x ∷ xs) (suc i) d h = ap (λ t. x ∷ t) (split-at xs i d (omega (arith, h)))

-- The words, with the one at an index between those before it and those behind it.
parts-at : (words : List (Bor (List ℕ))) (i : ℕ) (d : Bor (List ℕ)) → i < length words → map now_of words ≡ map now_of (take i words) ++ now_of (get_or words i d) ∷ map now_of (drop (suc i) words)
parts-at words i d small =
    ap (map now_of) (split-at words i d small) ∙ map-append now_of (take i words) (get_or words i d ∷ drop (suc i) words)

param-at : (found : List Param) (words : List (Bor (List ℕ))) (i least : ℕ) (d : Bor (List ℕ)) → i < length words → Done found words i least → (ps : List Param) → AreParamTexts ps (map now_of words) → (p : Param) × IsParamText p (get_or words i d).now × IsParam p × (least ≤ key_number p.0)
param-at found words i least d small done ps all =
    rise-at ps found (map now_of (take i words)) (now_of (get_or words i d)) (map now_of (drop (suc i) words)) 0 least all.1.0
    (subst (λ (ws : List (List ℕ)). EachWord IsParamText ps ws) (parts-at words i d small) all.0) all.1.1 done.each done.rise

pub no-param : {M V : Type 0} (e : ParseError) (items : V → List Param) (found : List Param) (words : List (Bor (List ℕ))) (i least : ℕ) (d : Bor (List ℕ)) → i < length words → Done found words i least → M ⊎ NoParamText (get_or words i d).now e → M ⊎ ((v : V) → AreParamTexts (items v) (map now_of words) → ⊥)
no-param e items found words i least d small done (inl m) = inl m
no-param e items found words i least d small done (inr none) = inr (λ v all.
    let here = param-at found words i least d small done (items v) all in
    none.1 here.0 here.1 here.2)

pub no-order : {V : Type 0} (items : V → List Param) (found : List Param) (words : List (Bor (List ℕ))) (i least : ℕ) (d : Bor (List ℕ)) (p : Param) → i < length words → Done found words i least → IsParamText p (get_or words i d).now → key_number p.0 < least → (v : V) → AreParamTexts (items v) (map now_of words) → ⊥
no-order items found words i least d p small done is below v all =
    let here = param-at found words i least d small done (items v) all in
    let same : key_number here.0.0 ≡ key_number p.0 = ap key_number (key-once here.0.0 p.0 (before_first is_equals (now_of (get_or words i d))) here.1.key is.key) in
    omega (arith, here.3, same, below)

-- Why a word is no parameter: its key, its value or its length.
pub cause-of-key : (word text : List ℕ) (e : ParseError) → text ≡ before_first is_equals word → Err e ≡ ok_or (key_of_text text) UnexpectedToken → NoParamText word e
cause-of-key word text e parts is =
    let none : RefusesKeyText (before_first is_equals word) e = subst (λ (t : List ℕ). RefusesKeyText t e) parts (key-none (key_of_text text) e UnexpectedToken is) in
    (inl none, λ p h param. none.1 p.0 h.key)

pub cause-of-value : {M : Type 0} (word inner : List ℕ) (k : SvcParamKey) (e : ParseError) → IsKeyText k (before_first is_equals word) → IsUnquoted (after_first is_equals word) inner → M ⊎ RefusesValueText k inner e → M ⊎ NoParamText word e
cause-of-value word inner k e is quotes (inl m) = inl m
cause-of-value word inner k e is quotes (inr why) =
    inr (inr (inl (k, is, inner, quotes, why)), λ p h param. (value_causes k inner).none e why p.1 (text-of word inner k is quotes p h).1)

pub cause-of-length : (word inner : List ℕ) (k : SvcParamKey) (v : SvcParamValue) (e : ParseError) → IsMessage (codes "a value has at most 65,535 octets") e → IsKeyText k (before_first is_equals word) → IsUnquoted (after_first is_equals word) inner → IsValueText k v inner → 65535 < length (value_octets v) → NoParamText word e
cause-of-length word inner k v e says is quotes told long =
    (inr (inr (says, (k, v), record { key = is; text = inner; quotes = quotes; value = told }, long)), too-long word inner k v is quotes told long)

-- A word that is refused behind parameters whose keys rise.
cause-behind : (e : ParseError) (least above : ℕ) (found : List Param) (front : List (List ℕ)) (word : List ℕ) (later : List (List ℕ)) → EachWord IsParamText found front → Rise least found above → RefusesParamTexts above (word ∷ later) e → RefusesParamTexts least (front ++ word ∷ later) e
cause-behind e least above [] [] word later each rise here = subst (λ (n : ℕ). RefusesParamTexts n (word ∷ later) e) rise here
cause-behind e least above [] (w ∷ ws) word later each rise here = absurd each
cause-behind e least above (p ∷ ps) [] word later each rise here = absurd each
cause-behind e least above (p ∷ ps) (w ∷ ws) word later each rise here =
    inr (p, each.0, rise.0, inr (rise.1, cause-behind e (key_number p.0 + 1) above ps ws word later each.1 rise.2 here))

cause-at : (e : ParseError) (found : List Param) (words : List (Bor (List ℕ))) (i least : ℕ) (d : Bor (List ℕ)) → i < length words → Done found words i least → ((later : List (List ℕ)) → RefusesParamTexts least ((get_or words i d).now ∷ later) e) → RefusesParamTexts 0 (map now_of words) e
cause-at e found words i least d small done here =
    subst (λ (ws : List (List ℕ)). RefusesParamTexts 0 ws e) (sym (parts-at words i d small))
    (cause-behind e 0 least found (map now_of (take i words)) (now_of (get_or words i d)) (map now_of (drop (suc i) words)) done.each done.rise (here (map now_of (drop (suc i) words))))

pub cause-of-param : (e : ParseError) (found : List Param) (words : List (Bor (List ℕ))) (i least : ℕ) (d : Bor (List ℕ)) → i < length words → Done found words i least → IsOutOfMemory e ⊎ NoParamText (get_or words i d).now e → IsOutOfMemory e ⊎ RefusesParamTexts 0 (map now_of words) e
cause-of-param e found words i least d small done (inl m) = inl m
cause-of-param e found words i least d small done (inr none) = inr (cause-at e found words i least d small done (λ later. inl none))

pub cause-of-order : (e : ParseError) (found : List Param) (words : List (Bor (List ℕ))) (i least : ℕ) (d : Bor (List ℕ)) (p : Param) → IsMessage (codes "the keys of parameters rise") e → i < length words → Done found words i least → IsParamText p (get_or words i d).now × IsParam p → key_number p.0 < least → RefusesParamTexts 0 (map now_of words) e
cause-of-order e found words i least d p says small done is below =
    cause-at e found words i least d small done (λ later. inr (p, is.0, is.1, inl (below, says)))
