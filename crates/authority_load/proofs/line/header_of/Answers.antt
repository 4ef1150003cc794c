use Rattle.std.proofs.Common.{List, ℕ, arith, subst, sym}
use Rattle.std.proofs.lemmas.Result.{err_from_is_err_and}
use Rattle.authority_load.specs.declared.loader.LoadCause.TheVariants as causes
use Rattle.authority_load.specs.ZoneText.{IsOwnerText}
use Rattle.authority_load.proofs.Causes.{field_read, stands_since}
use Rattle.authority_load.proofs.line.header_of.Goals as goal

pub returns-in_err-ttl : goal.returns-in_err-ttl
returns-in_err-ttl c =
    let p = err_from_is_err_and c.from_residual-in_err-ttl.result c.from_residual-in_err-ttl.ensures.1 in
    let owned = field_read (IsOwnerText c.as_bytes.result.now) causes.Owner c.parse_owner.result c.in_ok-name.name c.parse_owner.ensures (sym c.in_ok-name.ensures) in
    let given = c.in_err-ttl.ensures c.args.line.now c.in_ok-name.name c.in-Some.ensures.0
    (subst (λ (text : List ℕ). IsOwnerText text c.in_ok-name.name) c.as_bytes.ensures.value owned) in
    rw (p.1, p.2) (λ zone. stands_since zone c.args.line.now 2 5 _ (omega arith) (given zone))
