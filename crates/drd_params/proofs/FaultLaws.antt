-- Octets are refused for one cause: the first fault in their order. Good octets are refused for none.
use Rattle.std.proofs.Common.{◌≡◌, ℕ, ◌+◌, ◌<◌, ◌≤◌, ◌⊎◌, inl, inr, List, [], ◌∷◌, ◌++◌, length, length-append, get_or, sym, ap, subst, ◌∙◌, arith, append_assoc}
use Rattle.std.specs.List.{flat_map}
use Rattle.std.specs.Prelude.{String}
use Rattle.std.specs.Str.{IsUtf8}
use Rattle.std.specs.String.{string_bytes}
use Rattle.std.specs.declared.alloc.Global.{Global}
use Rattle.std.proofs.lemmas.List.Concat.{flat_map-cons}
use Rattle.std.proofs.lemmas.Str.{IsUtf8-string_bytes}
use Rattle.drd_params.specs.dnw_codes.declared.error.DecodeError.{DecodeError}
use Rattle.drd_params.specs.declared.a.A.{A}
use Rattle.drd_params.specs.declared.aaaa.AAAA.{AAAA}
use Rattle.drd_param_keys.specs.EntryLaws.{strings_same, key_laws, string_laws}
use Rattle.drd_params.specs.AddressLaws.{length_a, a_laws, aaaa_laws}
use Rattle.drd_param_keys.specs.Keys.{key_number, key_of}
use Rattle.drd_params.specs.Params.{Param, param_octets, params_octets, IsParam, Rise, AreParams, RefusesParam, IsOutOfOrder, RefusesParams}
use Rattle.drd_params.specs.Refusals.{HasMore, RefusesValue}
use Rattle.drd_param_keys.specs.Lists.{IsMissing}
use Rattle.drd_param_keys.specs.Entries.{IsShortOf, BeginsNoUtf8, RefusesText, RefusesNext, key_octets, text_octets}
use Rattle.drd_params.specs.Values.{IsValueOf, value_octets}
use Rattle.drd_params.specs.AddressEntries.{a_octets, aaaa_octets}
use Rattle.drd_param_keys.specs.declared.key.SvcParamKey.{SvcParamKey}
use Rattle.drd_param_keys.specs.declared.key.SvcParamKey.TheVariants as key
use Rattle.drd_params.specs.declared.value.SvcParamValue.{SvcParamValue}
use Rattle.drd_params.specs.declared.value.SvcParamValue.TheVariants as value
use Rattle.drd_param_keys.proofs.NoLists.{none-some}
use Rattle.drd_params.proofs.ReadParams.{param_same, part_same}

-- ---- lists of entries
module _ {T : Type 0} (spelled : T → List ℕ) (refuses : List ℕ → DecodeError → Type 0)
    (once : (a b : T) (xs ys : List ℕ) → spelled a ++ xs ≡ spelled b ++ ys → xs ≡ ys)
    (none : (octets : List ℕ) (e : DecodeError) → refuses octets e → (x : T) (behind : List ℕ) → octets ≡ spelled x ++ behind → ⊥)
    (one : (octets : List ℕ) (d e : DecodeError) → refuses octets d → refuses octets e → d ≡ e) where
  first_of : (x : T) (xs : List T) (behind : List ℕ) → flat_map spelled (x ∷ xs) ++ behind ≡ spelled x ++ (flat_map spelled xs ++ behind)
  first_of x xs behind = ap (λ (o : List ℕ). o ++ behind) (flat_map-cons spelled x xs) ∙ append_assoc (spelled x) (flat_map spelled xs) behind

  -- Entries end in one place, where those behind them are refused.
  rests_same : (xs ys : List T) (r s : List ℕ) (d e : DecodeError) → refuses r d → refuses s e → flat_map spelled xs ++ r ≡ flat_map spelled ys ++ s → r ≡ s
  rests_same [] [] r s d e p q same = same
  rests_same [] (y ∷ ys) r s d e p q same = absurd (none r d p y (flat_map spelled ys ++ s) (same ∙ first_of y ys s))
  rests_same (x ∷ xs) [] r s d e p q same = absurd (none s e q x (flat_map spelled xs ++ r) (sym same ∙ first_of x xs r))
  rests_same (x ∷ xs) (y ∷ ys) r s d e p q same =
      rests_same xs ys r s d e p q (once x y (flat_map spelled xs ++ r) (flat_map spelled ys ++ s) (sym (first_of x xs r) ∙ same ∙ first_of y ys s))

  next_once : (octets : List ℕ) (d e : DecodeError) → RefusesNext spelled refuses octets d → RefusesNext spelled refuses octets e → d ≡ e
  next_once octets d e p q =
      let same : p.rest ≡ q.rest = rests_same p.front q.front p.rest q.rest d e p.cause q.cause (p.parts ∙ sym q.parts) in
      one q.rest d e (subst (λ (o : List ℕ). refuses o d) same p.cause) q.cause

  -- Entries that fill the octets leave none.
  none_left : (xs ys : List T) (r : List ℕ) (e : DecodeError) → 0 < length r → refuses r e → flat_map spelled xs ++ r ≡ flat_map spelled ys → ⊥
  none_left [] [] r e some p same = omega (arith, some, ap length same)
  none_left [] (y ∷ ys) r e some p same = none r e p y (flat_map spelled ys) (same ∙ flat_map-cons spelled y ys)
  none_left (x ∷ xs) [] r e some p same = omega (arith, some, ap length same, length-append (flat_map spelled (x ∷ xs)) r)
  none_left (x ∷ xs) (y ∷ ys) r e some p same =
      none_left xs ys r e some p (once x y (flat_map spelled xs ++ r) (flat_map spelled ys) (sym (first_of x xs r) ∙ same ∙ flat_map-cons spelled y ys))

  next_none : (octets : List ℕ) (e : DecodeError) → RefusesNext spelled refuses octets e → (xs : List T) → flat_map spelled xs ≡ octets → ⊥
  next_none octets e p xs is = none_left p.front xs p.rest e p.some p.cause (p.parts ∙ sym is)

  next_some : (octets : List ℕ) (e : DecodeError) → RefusesNext spelled refuses octets e → length octets ≡ 0 → ⊥
  next_some octets e p empty = omega (arith, p.some, empty, ap length p.parts, length-append (flat_map spelled p.front) p.rest)

-- ---- one entry
short_none : {T : Type 0} (spelled : T → List ℕ) (size : ℕ) → ((x : T) → size ≤ length (spelled x)) → (octets : List ℕ) (e : DecodeError) → IsShortOf size octets e → (x : T) (behind : List ℕ) → octets ≡ spelled x ++ behind → ⊥
short_none spelled size long octets e short x behind is = omega (arith, short.1, long x, ap length is, length-append (spelled x) behind)

short_once : (size : ℕ) (octets : List ℕ) (d e : DecodeError) → IsShortOf size octets d → IsShortOf size octets e → d ≡ e
short_once size octets d e p q = p.0 ∙ sym q.0

text_none : (octets : List ℕ) (e : DecodeError) → RefusesText octets e → (x : String Global) (behind : List ℕ) → octets ≡ text_octets x ++ behind → ⊥
text_none octets e (inl short) x behind is =
    omega (arith, short.1, ap length is, length-append (string_bytes x) behind, ap (λ (o : List ℕ). get_or o 0 0) is)
text_none octets e (inr begins) x behind is =
    let same = strings_same begins.string (string_bytes x) begins.behind behind (sym begins.there ∙ is) in
    begins.other (subst (λ (o : List ℕ). IsUtf8 o) (sym same.0) (IsUtf8-string_bytes x))

whole_or_cut : (octets : List ℕ) (d e : DecodeError) → IsShortOf (1 + get_or octets 0 0) octets d → BeginsNoUtf8 octets e → ⊥
whole_or_cut octets d e short begins =
    omega (arith, short.1, ap length begins.there, length-append begins.string begins.behind, ap (λ (o : List ℕ). get_or o 0 0) begins.there)

text_once : (octets : List ℕ) (d e : DecodeError) → RefusesText octets d → RefusesText octets e → d ≡ e
text_once octets d e (inl p) (inl q) = p.0 ∙ sym q.0
text_once octets d e (inl p) (inr q) = absurd (whole_or_cut octets d e p q)
text_once octets d e (inr p) (inl q) = absurd (whole_or_cut octets e d q p)
text_once octets d e (inr p) (inr q) = p.cause ∙ sym q.cause

two_octets : (k : SvcParamKey) → 2 ≤ length (key_octets k)
two_octets k = omega arith

four_octets : (a : A) → 4 ≤ length (a_octets a)
four_octets a = omega (arith, length_a a)

sixteen_octets : (a : AAAA) → 16 ≤ length (aaaa_octets a)
sixteen_octets a = omega arith

-- ---- one value
missing_once : (octets : List ℕ) (d e : DecodeError) → IsMissing octets d → IsMissing octets e → d ≡ e
missing_once octets d e p q = p.0 ∙ sym q.0

more_once : (wanted : ℕ) (octets : List ℕ) (d e : DecodeError) → HasMore wanted octets d → HasMore wanted octets e → d ≡ e
more_once wanted octets d e p q = p.0 ∙ sym q.0

-- A value is refused for one cause.
pub value_once : (k : SvcParamKey) (octets : List ℕ) (d e : DecodeError) → RefusesValue k octets d → RefusesValue k octets e → d ≡ e
value_once key.Mandatory octets d e (inl p) (inl q) = missing_once octets d e p q
value_once key.Mandatory octets d e (inl p) (inr q) =
    absurd (next_some key_octets (IsShortOf 2) key_laws.1 (short_none key_octets 2 two_octets) (short_once 2) octets e q p.1)
value_once key.Mandatory octets d e (inr p) (inl q) =
    absurd (next_some key_octets (IsShortOf 2) key_laws.1 (short_none key_octets 2 two_octets) (short_once 2) octets d p q.1)
value_once key.Mandatory octets d e (inr p) (inr q) =
    next_once key_octets (IsShortOf 2) key_laws.1 (short_none key_octets 2 two_octets) (short_once 2) octets d e p q
value_once key.Alpn octets d e (inl p) (inl q) = missing_once octets d e p q
value_once key.Alpn octets d e (inl p) (inr q) = absurd (next_some text_octets RefusesText string_laws.1 text_none text_once octets e q p.1)
value_once key.Alpn octets d e (inr p) (inl q) = absurd (next_some text_octets RefusesText string_laws.1 text_none text_once octets d p q.1)
value_once key.Alpn octets d e (inr p) (inr q) = next_once text_octets RefusesText string_laws.1 text_none text_once octets d e p q
value_once key.NoDefaultAlpn octets d e p q = more_once 0 octets d e p q
value_once key.Port octets d e (inl p) (inl q) = short_once 2 octets d e p q
value_once key.Port octets d e (inl p) (inr q) = absurd (omega (arith, p.1, q.1))
value_once key.Port octets d e (inr p) (inl q) = absurd (omega (arith, p.1, q.1))
value_once key.Port octets d e (inr p) (inr q) = more_once 2 octets d e p q
value_once key.Ipv4Hint octets d e p q = next_once a_octets (IsShortOf 4) a_laws.1 (short_none a_octets 4 four_octets) (short_once 4) octets d e p q
value_once key.Ipv6Hint octets d e p q =
    next_once aaaa_octets (IsShortOf 16) aaaa_laws.1 (short_none aaaa_octets 16 sixteen_octets) (short_once 16) octets d e p q
value_once k octets d e p q = absurd p

-- The octets of a value are refused for none.
pub value_none : (k : SvcParamKey) (octets : List ℕ) (e : DecodeError) → RefusesValue k octets e → (v : SvcParamValue) → IsValueOf k v → value_octets v ≡ octets → ⊥
value_none key.Mandatory octets e (inl p) (value.Mandatory m) is same = none-some key_octets key_laws.0 m.0.items is.0 (ap length same ∙ p.1)
value_none key.Mandatory octets e (inr p) (value.Mandatory m) is same =
    next_none key_octets (IsShortOf 2) key_laws.1 (short_none key_octets 2 two_octets) (short_once 2) octets e p m.0.items same
value_none key.Alpn octets e (inl p) (value.Alpn m) is same = none-some text_octets string_laws.0 m.0.items is.0 (ap length same ∙ p.1)
value_none key.Alpn octets e (inr p) (value.Alpn m) is same = next_none text_octets RefusesText string_laws.1 text_none text_once octets e p m.0.items same
value_none key.NoDefaultAlpn octets e p value.NoDefaultAlpn is same = omega (arith, p.1, ap length same)
value_none key.Port octets e (inl p) (value.Port n) is same = omega (arith, p.1, ap length same)
value_none key.Port octets e (inr p) (value.Port n) is same = omega (arith, p.1, ap length same)
value_none key.Ipv4Hint octets e p (value.Ipv4Hint h) is same =
    next_none a_octets (IsShortOf 4) a_laws.1 (short_none a_octets 4 four_octets) (short_once 4) octets e p h.0.items same
value_none key.Ipv6Hint octets e p (value.Ipv6Hint h) is same =
    next_none aaaa_octets (IsShortOf 16) aaaa_laws.1 (short_none aaaa_octets 16 sixteen_octets) (short_once 16) octets e p h.0.items same
value_none key.EchConfigList octets e p v is same = absurd p
value_none (key.Key n) octets e p v is same = absurd p
value_none key.Key65535 octets e p v is same = absurd p
value_none (key.Unknown n) octets e p v is same = absurd p
value_none k octets e p v is same = absurd is

-- ---- one parameter
-- Where a parameter is refused, octets begin with none.
no_param : (octets : List ℕ) (e : DecodeError) (behind : List ℕ) → RefusesParam octets e behind → (p : Param) (after : List ℕ) → IsParam p → octets ≡ param_octets p ++ after → ⊥
no_param octets e behind (inl cut) p after is at = cut.1 (key_number p.0) (value_octets p.1) after is.few at
no_param octets e behind (inr whole) p after is at =
    let same = part_same whole.number (key_number p.0) whole.value (value_octets p.1) behind after whole.small is.number whole.few is.few (sym whole.there ∙ at) in
    let own : p.0 ≡ key_of whole.number = is.key ∙ ap key_of (sym same.0) in
    whole.cause.1 p.1 (subst (λ (k : SvcParamKey). IsValueOf k p.1) own is.value) (sym same.1)

param_once : (octets : List ℕ) (d e : DecodeError) (b c : List ℕ) → RefusesParam octets d b → RefusesParam octets e c → (d ≡ e) × (b ≡ c)
param_once octets d e b c (inl p) (inl q) = (p.0 ∙ sym q.0, p.2 ∙ sym q.2)
param_once octets d e b c (inl p) (inr q) = absurd (p.1 q.number q.value c q.few q.there)
param_once octets d e b c (inr p) (inl q) = absurd (q.1 p.number p.value b p.few p.there)
param_once octets d e b c (inr p) (inr q) =
    let same = part_same p.number q.number p.value q.value b c p.small q.small p.few q.few (sym p.there ∙ q.there) in
    let one : RefusesValue (key_of q.number) p.value d = subst (λ (n : ℕ). RefusesValue (key_of n) p.value d) same.0 p.cause.0 in
    (value_once (key_of q.number) q.value d e (subst (λ (o : List ℕ). RefusesValue (key_of q.number) o d) same.1 one) q.cause.0, same.2)

-- ---- all parameters
abbrev Stops : ℕ → List ℕ → DecodeError → List ℕ → Type 0
Stops least rest e behind = RefusesParam rest e behind ⊎ IsOutOfOrder least rest e behind

first_part : (p : Param) (ps : List Param) (behind : List ℕ) → params_octets (p ∷ ps) ++ behind ≡ param_octets p ++ (params_octets ps ++ behind)
first_part p ps behind = ap (λ (o : List ℕ). o ++ behind) (flat_map-cons param_octets p ps) ∙ append_assoc (param_octets p) (params_octets ps) behind

-- Where reading stops, no parameter stands that may.
none_rises : (least : ℕ) (rest : List ℕ) (e : DecodeError) (behind : List ℕ) → Stops least rest e behind → (p : Param) (after : List ℕ) → IsParam p → least ≤ key_number p.0 → rest ≡ param_octets p ++ after → ⊥
none_rises least rest e behind (inl refused) p after is le at = no_param rest e behind refused p after is at
none_rises least rest e behind (inr out) p after is le at =
    let same = param_same p out.1 after behind is out.2 (sym at ∙ out.3) in
    omega (arith, same.0, le, out.4)

stops_once : (least : ℕ) (rest : List ℕ) (d e : DecodeError) (b c : List ℕ) → Stops least rest d b → Stops least rest e c → (d ≡ e) × (b ≡ c)
stops_once least rest d e b c (inl p) (inl q) = param_once rest d e b c p q
stops_once least rest d e b c (inl p) (inr q) = absurd (no_param rest d b p q.1 c q.2 q.3)
stops_once least rest d e b c (inr p) (inl q) = absurd (no_param rest e c q p.1 b p.2 p.3)
stops_once least rest d e b c (inr p) (inr q) = (p.0 ∙ sym q.0, (param_same p.1 q.1 b c p.2 q.2 (sym p.3 ∙ q.3)).2)

runs_once : (least : ℕ) (ps qs : List Param) (m n : ℕ) (r s : List ℕ) (d e : DecodeError) (b c : List ℕ) → Rise least ps m → Rise least qs n → Stops m r d b → Stops n s e c → params_octets ps ++ r ≡ params_octets qs ++ s → (d ≡ e) × (b ≡ c)
runs_once least [] [] m n r s d e b c p q x y same =
    stops_once least s d e b c (subst (λ (k : ℕ). Stops k s d b) p (subst (λ (o : List ℕ). Stops m o d b) same x)) (subst (λ (k : ℕ). Stops k s e c) q y)
runs_once least [] (v ∷ qs) m n r s d e b c p q x y same =
    absurd (none_rises m r d b x v (params_octets qs ++ s) q.0 (omega (arith, p, q.1)) (same ∙ first_part v qs s))
runs_once least (u ∷ ps) [] m n r s d e b c p q x y same =
    absurd (none_rises n s e c y u (params_octets ps ++ r) p.0 (omega (arith, q, p.1)) (sym same ∙ first_part u ps r))
runs_once least (u ∷ ps) (v ∷ qs) m n r s d e b c p q x y same =
    let first = param_same u v (params_octets ps ++ r) (params_octets qs ++ s) p.0 q.0 (sym (first_part u ps r) ∙ same ∙ first_part v qs s) in
    runs_once (key_number v.0 + 1) ps qs m n r s d e b c (subst (λ (k : ℕ). Rise (k + 1) ps m) first.0 p.2) q.2 x y first.2

-- Parameters are refused for one cause, and one number of octets is left.
pub params_once : (octets : List ℕ) (d e : DecodeError) (b c : List ℕ) → RefusesParams octets d b → RefusesParams octets e c → (d ≡ e) × (b ≡ c)
params_once octets d e b c p q = runs_once 0 p.front q.front p.least q.least p.rest q.rest d e b c p.rise q.rise p.cause q.cause (p.parts ∙ sym q.parts)

runs_none : (least : ℕ) (ps qs : List Param) (m n : ℕ) (r : List ℕ) (e : DecodeError) (b : List ℕ) → Rise least ps m → Rise least qs n → 0 < length r → Stops m r e b → params_octets ps ++ r ≡ params_octets qs → ⊥
runs_none least [] [] m n r e b p q some x same = omega (arith, some, ap length same)
runs_none least [] (v ∷ qs) m n r e b p q some x same =
    none_rises m r e b x v (params_octets qs) q.0 (omega (arith, p, q.1)) (same ∙ flat_map-cons param_octets v qs)
runs_none least (u ∷ ps) [] m n r e b p q some x same = omega (arith, some, ap length same, length-append (params_octets (u ∷ ps)) r)
runs_none least (u ∷ ps) (v ∷ qs) m n r e b p q some x same =
    let first = param_same u v (params_octets ps ++ r) (params_octets qs) p.0 q.0 (sym (first_part u ps r) ∙ same ∙ flat_map-cons param_octets v qs) in
    runs_none (key_number v.0 + 1) ps qs m n r e b (subst (λ (k : ℕ). Rise (k + 1) ps m) first.0 p.2) q.2 some x first.2

-- The octets of parameters are refused for none.
pub params_none : (octets : List ℕ) (e : DecodeError) (behind : List ℕ) → RefusesParams octets e behind → (params : List Param) → AreParams params → params_octets params ≡ octets → ⊥
params_none octets e behind p params are is =
    runs_none 0 p.front params p.least are.0 p.rest e behind p.rise are.1 p.some p.cause (p.parts ∙ sym is)
