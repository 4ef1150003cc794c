-- Parameters that are read one behind the other.
use Rattle.std.proofs.Common.{◌≡◌, ℕ, ◌+◌, ◌/◌, ◌%◌, ◌<◌, ◌≤◌, inl, inr, List, [], ◌∷◌, ◌++◌, length, length-append, refl, sym, ap, subst, ◌∙◌, arith, append-nil}
use Rattle.std.proofs.lemmas.List.Concat.{flat_map-cons}
use Rattle.drd_params.specs.dnw_codes.declared.error.DecodeError.{DecodeError}
use Rattle.drd_params.specs.dnw_codes.declared.error.DecodeError.TheVariants.{InsufficientBytes, SvcParamsOutOfOrder}
use Rattle.drd_params.specs.dnw_decoder.Octets.{octets_16}
use Rattle.drd_param_keys.specs.EntryLaws.{fronts_same}
use Rattle.drd_param_keys.specs.Keys.{key_number, key_of}
use Rattle.drd_params.specs.Params.{Param, part_octets, param_octets, params_octets, IsParam, Rise, BeginsNoPart, NoParam, NoParams}
use Rattle.drd_params.specs.Refusals.{NoValue}
use Rattle.drd_params.specs.Values.{IsValueOf, value_octets}
use Rattle.drd_param_keys.specs.declared.key.SvcParamKey.{SvcParamKey}
use Rattle.drd_params.specs.declared.value.SvcParamValue.{SvcParamValue}
use Rattle.drd_param_keys.proofs.Entries.{front-more}

-- Octets begin with one parameter at most.
pub part_same : (n m : ℕ) (u v xs ys : List ℕ) → n < 65536 → m < 65536 → length u < 65536 → length v < 65536 → part_octets n u ++ xs ≡ part_octets m v ++ ys → (n ≡ m) × (u ≡ v) × (xs ≡ ys)
part_same n m u v xs ys n_small m_small u_few v_few whole =
    let a : n / 256 % 256 ≡ m / 256 % 256 = cc whole in
    let b : n % 256 ≡ m % 256 = cc whole in
    let c : length u / 256 % 256 ≡ length v / 256 % 256 = cc whole in
    let d : length u % 256 ≡ length v % 256 = cc whole in
    let tails : u ++ xs ≡ v ++ ys = cc whole in
    let long : length u ≡ length v = omega (arith, c, d, u_few, v_few) in
    let same = fronts_same u v xs ys long tails in
    (omega (arith, a, b, n_small, m_small), same.0, same.1)

pub param_same : (p q : Param) (xs ys : List ℕ) → IsParam p → IsParam q → param_octets p ++ xs ≡ param_octets q ++ ys → (key_number p.0 ≡ key_number q.0) × (value_octets p.1 ≡ value_octets q.1) × (xs ≡ ys)
param_same p q xs ys is_p is_q whole =
    part_same (key_number p.0) (key_number q.0) (value_octets p.1) (value_octets q.1) xs ys is_p.number is_q.number is_p.few is_q.few whole

pub no-part-short : (octets : List ℕ) → length octets < 4 → BeginsNoPart octets
no-part-short octets short number value behind few is =
    omega (arith, short, ap length is, length-append value behind)

pub no-part-cut : (octets rest : List ℕ) (n len : ℕ) → len < 65536 → octets ≡ octets_16 n ++ (octets_16 len ++ rest) → length rest < len → BeginsNoPart octets
no-part-cut octets rest n len small at short number value behind few is =
    let whole : octets_16 n ++ (octets_16 len ++ rest) ≡ part_octets number value ++ behind = sym at ∙ is in
    let c : len / 256 % 256 ≡ length value / 256 % 256 = cc whole in
    let d : len % 256 ≡ length value % 256 = cc whole in
    let tails : rest ≡ value ++ behind = cc whole in
    omega (arith, c, d, small, few, short, ap length tails, length-append value behind)

pub no-param-part : (octets : List ℕ) (e : DecodeError) → (e ≡ InsufficientBytes) × BeginsNoPart octets → NoParam octets e octets
no-param-part octets e cut = (
  inl (cut.0, cut.1, refl),
  λ param after is_param is. cut.1 (key_number param.0) (value_octets param.1) after is_param.few is,
)

pub no-param-value : (octets : List ℕ) (e : DecodeError) (number : ℕ) (value behind : List ℕ) (key : SvcParamKey) → number < 65536 → length value < 65536 → octets ≡ part_octets number value ++ behind → key ≡ key_of number → NoValue key value e → NoParam octets e behind
no-param-value octets e number value behind key small few at of why = (
  inr (record { number = number; value = value; small = small; few = few; there = at; cause = subst (λ (k : SvcParamKey). NoValue k value e) of why }),
  λ param after is_param is.
      let same = part_same number (key_number param.0) value (value_octets param.1) behind after small is_param.number few is_param.few (sym at ∙ is) in
      let same_key : param.0 ≡ key = is_param.key ∙ ap key_of (sym same.0) ∙ sym of in
      why.1 param.1 (subst (λ (k : SvcParamKey). IsValueOf k param.1) same_key is_param.value) (sym same.1),
)

pub param-is : (number : ℕ) (octets : List ℕ) (key : SvcParamKey) (value : SvcParamValue) → number < 65536 → length octets < 65536 → key ≡ key_of number → key_number key ≡ number → IsValueOf key value → value_octets value ≡ octets → IsParam (key, value)
param-is number octets key value small few of is_number is_value is = record {
  number = omega (arith, small, is_number);
  key = of ∙ ap key_of (sym is_number);
  value = is_value;
  few = omega (arith, few, ap length is);
}

pub param-at : (octets part behind : List ℕ) (number : ℕ) (key : SvcParamKey) (value : SvcParamValue) → octets ≡ part_octets number part ++ behind → key_number key ≡ number → value_octets value ≡ part → octets ≡ param_octets (key, value) ++ behind
param-at octets part behind number key value at is_number is =
    subst (λ (n : ℕ). octets ≡ part_octets n (value_octets value) ++ behind) (sym is_number)
    (subst (λ (o : List ℕ). octets ≡ part_octets number o ++ behind) (sym is) at)

-- These parameters were read, and these octets are left. What stands behind the first parameters of any list of these
-- octets is a list too, whose keys rise from there on.
pub record Read (octets : List ℕ) (found : List Param) (least : ℕ) (left : List ℕ) : Type 0 where
  pub rise : Rise 0 found least
  pub parts : params_octets found ++ left ≡ octets
  pub ahead : (params : List Param) (above : ℕ) → Rise 0 params above → params_octets params ≡ octets → (later : List Param) × Rise least later above × (params_octets later ≡ left)

pub read-begun : (octets : List ℕ) → Read octets [] 0 octets
read-begun octets = record { rise = refl; parts = refl; ahead = λ params above rise is. (params, rise, is) }

begins : (later : List Param) (least above : ℕ) (left : List ℕ) → 0 < length left → Rise least later above → params_octets later ≡ left → (q : Param) × (more : List Param) × IsParam q × (least ≤ key_number q.0) × Rise (key_number q.0 + 1) more above × (left ≡ param_octets q ++ params_octets more)
begins [] least above left some rise is = absurd (omega (arith, ap length is))
begins (q ∷ more) least above left some rise is = (q, more, rise.0, rise.1, rise.2, sym is ∙ flat_map-cons param_octets q more)

rise-more : (front : List Param) (least above : ℕ) (p : Param) → Rise least front above → IsParam p → above ≤ key_number p.0 → Rise least (front ++ p ∷ []) (key_number p.0 + 1)
rise-more [] least above p rise is le = (is, omega (arith, rise, le), refl)
rise-more (q ∷ front) least above p rise is le = (rise.0, rise.1, rise-more front (key_number q.0 + 1) above p rise.2 is le)

pub read-more : (octets : List ℕ) (found longer : List Param) (least above : ℕ) (left : List ℕ) (p : Param) (behind : List ℕ) → Read octets found least left → 0 < length left → IsParam p → left ≡ param_octets p ++ behind → least ≤ key_number p.0 → longer ≡ found ++ p ∷ [] → above ≡ key_number p.0 + 1 → Read octets longer above behind
read-more octets found longer least above left p behind read some is at le pushed up =
    let more : Read octets (found ++ p ∷ []) (key_number p.0 + 1) behind = record {
      rise = rise-more found 0 least p read.rise is le;
      parts = front-more param_octets found p left behind octets read.parts at;
      ahead = λ params top rise whole.
          let later = read.ahead params top rise whole in
          let first = begins later.0 least top left some later.1 later.2 in
          let same = param_same first.0 p (params_octets first.1) behind first.2 is (sym first.5 ∙ at) in
          (first.1, subst (λ (n : ℕ). Rise (n + 1) first.1 top) same.0 first.4, same.2);
    } in
    subst (λ (xs : List Param). Read octets xs above behind) (sym pushed)
    (subst (λ (n : ℕ). Read octets (found ++ p ∷ []) n behind) (sym up) more)

-- What is left is no more than what there was.
pub left-fits : (octets : List ℕ) (found : List Param) (least : ℕ) (left : List ℕ) → Read octets found least left → length left ≤ length octets
left-fits octets found least left read = omega (arith, length-append (params_octets found) left, ap length read.parts)

pub no-params : (octets : List ℕ) (found : List Param) (least : ℕ) (left : List ℕ) (e : DecodeError) (behind : List ℕ) → Read octets found least left → 0 < length left → NoParam left e behind → NoParams octets e behind
no-params octets found least left e behind read some why = (
  record { front = found; rest = left; least = least; rise = read.rise; parts = read.parts; some = some; cause = inl why.0 },
  λ params are whole.
      let later = read.ahead params are.0 are.1 whole in
      let first = begins later.0 least are.0 left some later.1 later.2 in
      why.1 first.0 (params_octets first.1) first.2 first.5,
)

pub no-order : (octets : List ℕ) (found : List Param) (least : ℕ) (left : List ℕ) (p : Param) (behind : List ℕ) → Read octets found least left → 0 < length left → IsParam p → left ≡ param_octets p ++ behind → key_number p.0 < least → NoParams octets SvcParamsOutOfOrder behind
no-order octets found least left p behind read some is at lt = (
  record { front = found; rest = left; least = least; rise = read.rise; parts = read.parts; some = some; cause = inr (refl, p, is, at, lt) },
  λ params are whole.
      let later = read.ahead params are.0 are.1 whole in
      let first = begins later.0 least are.0 left some later.1 later.2 in
      let same = param_same first.0 p (params_octets first.1) behind first.2 is (sym first.5 ∙ at) in
      omega (arith, first.3, same.0, lt),
)

-- Where nothing is left, all was read.
pub read-all : (octets : List ℕ) (found : List Param) (least : ℕ) (left : List ℕ) → Read octets found least left → length left ≡ 0 → params_octets found ≡ octets
read-all octets found least [] read none = sym (append-nil (params_octets found)) ∙ read.parts
read-all octets found least (o ∷ left) read none = absurd (omega (arith, none))
