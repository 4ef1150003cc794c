use Rattle.std.proofs.Common.{◌≡◌, ◌∙◌, ◌+◌, ◌<◌, ◌≤◌, ℕ, List, length, sym, subst, refl, inr}
use Rattle.std.specs.Prelude.{Some, slice_get}
use Rattle.zst_circle.specs.Nsec3Circle.{IsNsec3In, hashing_of}
use Rattle.zst_circle.specs.declared.hashed.HashedName.{HashedName}
use Rattle.zst_circle.proofs.NsecHashed.{Nsec3sPut, made_then, puts_next, secured_then, some_fails, stored_then}
use Rattle.zst_circle.proofs.NsecHashedParameters.{err_and}
use Rattle.zst_circle.proofs.NsecHashedTypes.{all_taken}
use Rattle.zst_circle.proofs.by_hash.put_nsec3.Goals as goal

pub returns-in_err-put_signed-clause-failed : goal.returns-in_err-put_signed-clause-failed
returns-in_err-put_signed-clause-failed g c =
    let by = c.args.by in
    let names = c.in_ok-hashed.hashed.items in
    err_and c.from_residual-in_err-put_signed.result
    (λ e same failed. inr (some_fails (hashing_of by) by.opt_out g.K.ZoneSigner.gives g.K.ZoneSigner.fails c.args.keys.now c.args.now c.args.sets.now c.args.key.now c.args.origin.now names c.args.ttl c.requires.origin
    c.places.sets c.places.place c.in_ok-set.set (subst (λ (n : ℕ). c.places.place < n) (c.len-place-end.ensures ∙ c.in_ok-hashed.hashed.ok.0) c.places-test.true)
    (subst (λ (l : List HashedName). (name : HashedName) → slice_get l c.places.place ≡ Some name → IsNsec3In (hashing_of by) by.opt_out c.places.sets c.args.key.now c.args.origin.now l c.args.ttl name c.in_ok-set.set) c.deref.ensures.value c.in_ok-set.ensures)
    (c.in_err-put_signed.ensures.failed (sym same ∙ failed)) c.places.invariant.others c.in_ok-hashed.ensures.hashed))
    c.from_residual-in_err-put_signed.ensures.1

pub places-preserved : goal.places-preserved
places-preserved g c =
    let by = c.args.by in
    let names = c.in_ok-hashed.hashed.items in
    let ok = c.in_ok-put_signed.ensures.ok in
    puts_next (hashing_of by) by.opt_out g.K.ZoneSigner.gives g.K.ZoneSigner.fails c.args.keys.now c.args.now c.args.sets.now c.args.key.now c.args.origin.now names c.args.ttl c.places.sets c.put_signed.new.sets
    c.places.place (c.places.place + 1) c.in_ok-set.set ok.0 c.in_ok-hashed.ensures.ordered (subst (λ (n : ℕ). c.places.place < n) (c.len-place-end.ensures ∙ c.in_ok-hashed.hashed.ok.0) c.places-test.true) refl
    (subst (λ (l : List HashedName). (name : HashedName) → slice_get l c.places.place ≡ Some name → IsNsec3In (hashing_of by) by.opt_out c.places.sets c.args.key.now c.args.origin.now l c.args.ttl name c.in_ok-set.set) c.deref.ensures.value c.in_ok-set.ensures)
    ok.1 c.in_ok-put_signed.ensures.given ok.2 c.in_ok-put_signed.ensures.ordered c.in_ok-put_signed.ensures.stored c.places.invariant

pub returns-clause-secured : goal.returns-clause-secured
returns-clause-secured g c =
    let by = c.args.by in
    let names = c.in_ok-hashed.hashed.items in
    let end : length names ≤ c.places.place = subst (λ (n : ℕ). n ≤ c.places.place) (c.len-place-end.ensures ∙ c.in_ok-hashed.hashed.ok.0) c.places-test.false in
    let put = subst (λ (l : List HashedName). Nsec3sPut (hashing_of by) by.opt_out g.K.ZoneSigner.gives g.K.ZoneSigner.fails c.args.keys.now c.args.now c.args.sets.now c.args.key.now c.args.origin.now names c.args.ttl l c.places.sets) (all_taken names c.places.place end) c.places.invariant in
    secured_then (hashing_of by) by.opt_out g.K.ZoneSigner.gives g.K.ZoneSigner.fails c.args.keys.now c.args.now c.args.sets.now c.args.key.now c.args.origin.now names c.args.ttl c.requires.origin c.places.sets
    c.in_ok-hashed.ensures.hashed c.requires.parameters put

pub returns-clause-made : goal.returns-clause-made
returns-clause-made g c =
    let by = c.args.by in
    let names = c.in_ok-hashed.hashed.items in
    let end : length names ≤ c.places.place = subst (λ (n : ℕ). n ≤ c.places.place) (c.len-place-end.ensures ∙ c.in_ok-hashed.hashed.ok.0) c.places-test.false in
    let put = subst (λ (l : List HashedName). Nsec3sPut (hashing_of by) by.opt_out g.K.ZoneSigner.gives g.K.ZoneSigner.fails c.args.keys.now c.args.now c.args.sets.now c.args.key.now c.args.origin.now names c.args.ttl l c.places.sets) (all_taken names c.places.place end) c.places.invariant in
    made_then (hashing_of by) by.opt_out g.K.ZoneSigner.gives g.K.ZoneSigner.fails c.args.keys.now c.args.now c.args.sets.now c.args.key.now c.args.origin.now names c.args.ttl c.places.sets put

pub returns-clause-stored : goal.returns-clause-stored
returns-clause-stored g c =
    let by = c.args.by in
    let names = c.in_ok-hashed.hashed.items in
    let end : length names ≤ c.places.place = subst (λ (n : ℕ). n ≤ c.places.place) (c.len-place-end.ensures ∙ c.in_ok-hashed.hashed.ok.0) c.places-test.false in
    let put = subst (λ (l : List HashedName). Nsec3sPut (hashing_of by) by.opt_out g.K.ZoneSigner.gives g.K.ZoneSigner.fails c.args.keys.now c.args.now c.args.sets.now c.args.key.now c.args.origin.now names c.args.ttl l c.places.sets) (all_taken names c.places.place end) c.places.invariant in
    stored_then (hashing_of by) by.opt_out g.K.ZoneSigner.gives g.K.ZoneSigner.fails c.args.keys.now c.args.now c.args.sets.now c.args.key.now c.args.origin.now names c.args.ttl c.places.sets put
