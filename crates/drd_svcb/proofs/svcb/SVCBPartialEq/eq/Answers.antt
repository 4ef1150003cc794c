use Rattle.std.proofs.Common.{◌≡◌, Bool, true, refl, subst, rules}
use Rattle.drd_params.specs.dnw_decoder.Octets.{octets_16}
use Rattle.drd_params.specs.drd_fields.Equality.{TellsApart, canonical_field}
use Rattle.drd_params.specs.drd_fields.Fields.{name}
use Rattle.drd_svcb.proofs.Parts.{params-told, svcb-tells}
use Rattle.drd_svcb.proofs.svcb.SVCBPartialEq.eq.Goals as goal

pub returns-clause-canonical : goal.returns-clause-canonical
returns-clause-canonical c = λ full fuller are others.
    let a = c.args.self.now in
    let b = c.args.other.now in
    let first : c.is_same.result ≡ true = search rules in
    let second : c.is_same-2.result ≡ true = search rules in
    let one : TellsApart true (octets_16 a.svc_priority) (octets_16 b.svc_priority) =
    subst (λ (t : Bool). TellsApart t (octets_16 a.svc_priority) (octets_16 b.svc_priority)) first ((c.is_same.ensures.canonical refl tt tt).front refl) in
    let two : TellsApart true (canonical_field (name a.target_name)) (canonical_field (name b.target_name)) =
    subst (λ (t : Bool). TellsApart t (canonical_field (name a.target_name)) (canonical_field (name b.target_name))) second ((c.is_same-2.ensures.canonical refl full.1.0 fuller.1.0).front refl) in
    svcb-tells c.are_same_params.result a.svc_priority b.svc_priority a.target_name b.target_name a.svc_params.items b.svc_params.items one two
    (params-told c.are_same_params.result a.svc_params.items b.svc_params.items c.deref.result.now c.deref-2.result.now c.deref.ensures.value c.deref-2.ensures.value c.are_same_params.ensures.canonical are others)
