use Rattle.std.proofs.Common.{◌+◌, refl, subst, List}
use Rattle.std.proofs.lemmas.Result.{err_from_is_err_and}
use Rattle.std.proofs.lemmas.List.{take_all}
use Rattle.zst_absence.specs.dnw_name.DomainName.{DomainName}
use Rattle.zst_circle.proofs.NsecSecured.{NsecsPut, made_then, puts_next, secured_then, some_fails, stored_then}
use Rattle.zst_circle.proofs.by_name.put_nsec.Goals as goal

pub returns-in_err-put_signed-clause-failed : goal.returns-in_err-put_signed-clause-failed
returns-in_err-put_signed-clause-failed g c =
    let p = err_from_is_err_and c.from_residual-in_err-put_signed.result c.from_residual-in_err-put_signed.ensures.1 in
    rw (p.1, p.2) (λ is. some_fails g.K.ZoneSigner.gives g.K.ZoneSigner.fails c.args.keys.now c.args.now c.args.sets.now c.places.sets c.args.origin.now c.args.names.now c.args.ttl c.places.place
    c.in_ok-set.set c.places-test.true c.in_ok-set.ensures (c.in_err-put_signed.ensures.failed is) c.places.invariant.others c.requires.names)

pub places-preserved : goal.places-preserved
places-preserved g c =
    let ok = c.in_ok-put_signed.ensures.ok in
    puts_next g.K.ZoneSigner.gives g.K.ZoneSigner.fails c.args.keys.now c.args.now c.args.sets.now c.places.sets c.put_signed.new.sets c.args.origin.now c.args.names.now c.args.ttl
    c.places.place (c.places.place + 1) c.in_ok-set.set ok.0 c.requires.sorted c.places-test.true refl c.in_ok-set.ensures ok.1 c.in_ok-put_signed.ensures.given ok.2
    c.in_ok-put_signed.ensures.ordered c.in_ok-put_signed.ensures.stored c.places.invariant

pub returns-clause-secured : goal.returns-clause-secured
returns-clause-secured g c =
    let gives = g.K.ZoneSigner.gives in
    let fails = g.K.ZoneSigner.fails in
    let names = c.args.names.now in
    secured_then gives fails c.args.keys.now c.args.now c.args.sets.now c.places.sets c.args.origin.now names c.args.ttl c.requires.names
    (subst (λ (l : List DomainName). NsecsPut gives fails c.args.keys.now c.args.now c.args.sets.now c.args.origin.now names c.args.ttl l c.places.sets)
    (take_all c.places.place names c.places-test.false) c.places.invariant)

pub returns-clause-made : goal.returns-clause-made
returns-clause-made g c =
    let gives = g.K.ZoneSigner.gives in
    let fails = g.K.ZoneSigner.fails in
    let names = c.args.names.now in
    made_then gives fails c.args.keys.now c.args.now c.args.sets.now c.places.sets c.args.origin.now names c.args.ttl
    (subst (λ (l : List DomainName). NsecsPut gives fails c.args.keys.now c.args.now c.args.sets.now c.args.origin.now names c.args.ttl l c.places.sets)
    (take_all c.places.place names c.places-test.false) c.places.invariant)

pub returns-clause-stored : goal.returns-clause-stored
returns-clause-stored g c =
    let gives = g.K.ZoneSigner.gives in
    let fails = g.K.ZoneSigner.fails in
    let names = c.args.names.now in
    stored_then gives fails c.args.keys.now c.args.now c.args.sets.now c.places.sets c.args.origin.now names c.args.ttl
    (subst (λ (l : List DomainName). NsecsPut gives fails c.args.keys.now c.args.now c.args.sets.now c.args.origin.now names c.args.ttl l c.places.sets)
    (take_all c.places.place names c.places-test.false) c.places.invariant)
