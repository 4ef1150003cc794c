-- One place holds one rest behind a number and a name.
use Rattle.std.proofs.Common.{◌≡◌, ℕ, ◌+◌, ◌≤◌, length, Bool, true, List, [], ◌++◌, ◌⊎◌, inl, inr, append-nil, sym, ap, subst, ◌∙◌, arith}
use Rattle.drd_params.specs.dnw_codes.declared.error.DecodeError.{DecodeError}
use Rattle.drd_params.specs.dnw_decoder.Octets.{Stands, octets_16}
use Rattle.drd_params.specs.dnw_decoder.Reading.{IsWantOfMemory}
use Rattle.drd_params.specs.dnw_decoder.Spelling.{NameAt}
use Rattle.drd_params.proofs.dnw_decoder_lemmas.SpellingLaws.{name_once, spelled_within}
use Rattle.drd_params.proofs.dnw_decoder_lemmas.Standing.{stands_same}
use Rattle.drd_params.specs.dnw_name.DomainName.{DomainName}
use Rattle.drd_params.specs.drd_fields.Equality.{Tells, TellsApart, canonical_field}
use Rattle.drd_params.proofs.drd_fields_lemmas.EqualityLaws.{front_tells}
use Rattle.drd_params.specs.drd_fields.Fields.{FieldsAt, name}
use Rattle.drd_params.specs.drd_fields.Reading.{RefusesWindow, StopsReading}
use Rattle.drd_params.specs.drd_fields.Writing.{canonical_octets}
use Rattle.drd_params.specs.Params.{Param, AreParams, NoParams, params_octets}
use Rattle.drd_svcb.specs.Fields.{svcb_fields, svcb_kinds, svcb_parts}
use Rattle.drd_svcb.specs.Reading.{HasNoParams}
use Rattle.drd_svcb.specs.declared.svcb.SVCB.{SVCB}

rest_same : (message : List ℕ) (place a b : ℕ) (n m : DomainName) (s t : List ℕ) (end : ℕ) → FieldsAt message place (svcb_parts a n s) end → FieldsAt message place (svcb_parts b m t) end → s ≡ t
rest_same message place a b n m s t end p q =
    let one : p.0 ≡ q.0 = omega (arith, p.1.behind, q.1.behind) in
    let two : p.2.0 ≡ q.2.0 = (name_once message p.0 n m p.2.0 q.2.0 p.2.1 (subst (λ (k : ℕ). NameAt message k m q.2.0) (sym one) q.2.1)).1 in
    let there : Stands message p.2.0 t q.2.2.0 = subst (λ (k : ℕ). Stands message k t q.2.2.0) (sym two) q.2.2.1 in
    let last : p.2.2.0 ≡ q.2.2.0 = sym p.2.2.2 ∙ q.2.2.2 in
    (stands_same message p.2.0 s t p.2.2.0 q.2.2.0 (omega (arith, p.2.2.1.behind, there.behind, last)) p.2.2.1 there).0

-- The octets of the rest are within the data.
pub rest-fits : (message : List ℕ) (place priority : ℕ) (target : DomainName) (octets : List ℕ) (end : ℕ) → FieldsAt message place (svcb_parts priority target octets) end → place + length octets ≤ end
rest-fits message place priority target octets end p =
    omega (arith, p.1.behind, (spelled_within message p.0 (length message) p.0 target.labels p.2.0 p.2.1.spelled).0, p.2.2.1.behind, p.2.2.2)

-- Data that go to the end don't end elsewhere.
pub no-rest : (message : List ℕ) (place end : ℕ) (e : DecodeError) (at : ℕ) → RefusesWindow message end svcb_kinds place e at → StopsReading message end svcb_kinds place e at
no-rest message place end e at (inl stops) = stops
no-rest message place end e at (inr other) = absurd (cc other.closed)

-- Where the rest is refused as parameters, no data stand.
pub no-svcb : (message : List ℕ) (place priority : ℕ) (target : DomainName) (octets : List ℕ) (end left : ℕ) (e : DecodeError) → FieldsAt message place (svcb_parts priority target octets) end → IsWantOfMemory e ⊎ ((behind : List ℕ) × NoParams octets e behind × (length behind ≡ left)) → IsWantOfMemory e ⊎ ((svcb : SVCB) → FieldsAt message place (svcb_fields svcb) end × AreParams svcb.svc_params.items → ⊥)
no-svcb message place priority target octets end left e there (inl m) = inl m
no-svcb message place priority target octets end left e there (inr why) =
    inr (λ svcb at. why.1.1 svcb.svc_params.items at.1 (rest_same message place svcb.svc_priority priority svcb.target_name target (params_octets svcb.svc_params.items) octets end at.0 there))

pub has-none : (message : List ℕ) (place priority : ℕ) (target : DomainName) (octets : List ℕ) (end at left : ℕ) (e : DecodeError) → FieldsAt message place (svcb_parts priority target octets) end → at + left ≡ end → IsWantOfMemory e ⊎ ((behind : List ℕ) × NoParams octets e behind × (length behind ≡ left)) → HasNoParams message place end e at
has-none message place priority target octets end at left e there stop (inl m) = (priority, target, octets, there, left, stop, inl m)
has-none message place priority target octets end at left e there stop (inr why) =
    (priority, target, octets, there, left, stop, inr (why.0, why.1.0, why.2))

pub params-told : (b : Bool) (ps qs ds es : List Param) → ds ≡ ps → es ≡ qs → (AreParams ds → AreParams es → Tells b (params_octets ds) (params_octets es)) → AreParams ps → AreParams qs → Tells b (params_octets ps ++ []) (params_octets qs ++ [])
params-told b ps qs ds es one two told are others =
    let tells : Tells b (params_octets ds) (params_octets es) = told (subst (λ (xs : List Param). AreParams xs) (sym one) are) (subst (λ (xs : List Param). AreParams xs) (sym two) others) in
    let x : params_octets ds ≡ params_octets ps ++ [] = ap (λ (xs : List Param). params_octets xs) one ∙ sym (append-nil (params_octets ps)) in
    let y : params_octets es ≡ params_octets qs ++ [] = ap (λ (xs : List Param). params_octets xs) two ∙ sym (append-nil (params_octets qs)) in
    subst (λ (o : List ℕ). Tells b o (params_octets qs ++ [])) x (subst (λ (o : List ℕ). Tells b (params_octets ds) o) y tells)

pub svcb-tells : (t : Bool) (a b : ℕ) (n m : DomainName) (ps qs : List Param) → TellsApart true (octets_16 a) (octets_16 b) → TellsApart true (canonical_field (name n)) (canonical_field (name m)) → Tells t (params_octets ps ++ []) (params_octets qs ++ []) → Tells t (canonical_octets (svcb_parts a n (params_octets ps))) (canonical_octets (svcb_parts b m (params_octets qs)))
svcb-tells t a b n m ps qs one two three =
    front_tells true t (octets_16 a) (octets_16 b) (canonical_field (name n) ++ (params_octets ps ++ [])) (canonical_field (name m) ++ (params_octets qs ++ [])) one
    (front_tells true t (canonical_field (name n)) (canonical_field (name m)) (params_octets ps ++ []) (params_octets qs ++ []) two three)
