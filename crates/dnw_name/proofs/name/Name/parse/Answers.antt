use Rattle.std.proofs.Common.{◌≡◌, ◌<◌, ◌∙◌, inl, inr, sym, false, length, ap, subst, ℕ}
use Rattle.dnw_net.specs.dnw_codes.ProtoError.{IsMemory}
use Rattle.std.proofs.Common.{rules, arith}
use Rattle.std.proofs.lemmas.Grind.{common_steps}
use Rattle.std.specs.Option.{option_copied}
use Rattle.dnw_name.specs.NameText.{complete_name}
use Rattle.dnw_name.proofs.RefusalLaws.{completed-some, completed-not}
use Rattle.dnw_name.proofs.RefusalLemmas.{completed-refused}
use Rattle.dnw_name.proofs.TextLemmas.{parse-refused}
use Rattle.dnw_name.proofs.name.Name.parse.Goals as goal
use Rattle.dnw_name.proofs.name.Name.parse.Goals.{in_default-via-in-Some+then-not-is_fqdn+else-len-gt0, in_default-via-in-Some+else-not-is_fqdn, in_default-via-in_default}

pub returns-in-Some-clause-refused : goal.returns-in-Some-clause-refused
returns-in-Some-clause-refused c =
    let flag : c.in-Ok.name.fqdn ≡ false = sym c.is_fqdn.ensures ∙ c.if-not-is_fqdn.true in
    let many : c.len.result ≡ length c.in-Ok.name.labels = c.len.ensures.value ∙ ap length c.iter.ensures.labels in
    let some : 0 < length c.in-Ok.name.labels = subst (λ (n : ℕ). 0 < n) many c.if-len-gt0.true in
    rw c.in-Some.is
    (parse-refused IsMemory c.append_domain.result c.args.local.now c.in-Ok.name c.in-Some.origin.now
    (c.in-Ok.ensures.ok) flag some (c.append_domain.ensures.cause))

pub returns-in-Some-clause-cause : goal.returns-in-Some-clause-cause
returns-in-Some-clause-cause c =
    let flag : c.in-Ok.name.fqdn ≡ false = sym c.is_fqdn.ensures ∙ c.if-not-is_fqdn.true in
    let many : c.len.result ≡ length c.in-Ok.name.labels = c.len.ensures.value ∙ ap length c.iter.ensures.labels in
    let some : 0 < length c.in-Ok.name.labels = subst (λ (n : ℕ). 0 < n) many c.if-len-gt0.true in
    rw c.in-Some.is
    (completed-refused c.append_domain.result c.args.local.now c.in-Ok.name c.in-Some.origin.now
    (c.in-Ok.ensures.ok) flag some (c.append_domain.ensures.cause) (c.append_domain.ensures.too_long))

pub returns-in-Some-clause-stands : goal.returns-in-Some-clause-stands
returns-in-Some-clause-stands c =
    let flag : c.in-Ok.name.fqdn ≡ false = sym c.is_fqdn.ensures ∙ c.if-not-is_fqdn.true in
    let many : c.len.result ≡ length c.in-Ok.name.labels = c.len.ensures.value ∙ ap length c.iter.ensures.labels in
    let some : 0 < length c.in-Ok.name.labels = subst (λ (n : ℕ). 0 < n) many c.if-len-gt0.true in
    rw c.in-Some.is
    (completed-some c.in-Some.origin.now c.args.local.now c.append_domain.result c.in-Ok.name (c.in-Ok.ensures.ok) flag some
    (c.append_domain.ensures.ok)
    (completed-refused c.append_domain.result c.args.local.now c.in-Ok.name c.in-Some.origin.now
    (c.in-Ok.ensures.ok) flag some (c.append_domain.ensures.cause) (c.append_domain.ensures.too_long)))

pub returns-in_default-clause-stands : goal.returns-in_default-clause-stands
returns-in_default-clause-stands c =
    let same : c.in-Ok.name ≡ complete_name c.in-Ok.name (option_copied c.args.origin) =
    elim c.in_default.branch [
      | in_default-via-in-Some+then-not-is_fqdn+else-len-gt0 w ↦ first_of (search rules, grind (arith, common_steps))
      | in_default-via-in-Some+else-not-is_fqdn w ↦ first_of (search rules, grind (arith, common_steps))
      | in_default-via-in_default w ↦ first_of (search rules, grind (arith, common_steps))
    ] in
    completed-not (option_copied c.args.origin) c.args.local.now c.in-Ok.name (c.in-Ok.ensures.ok) same

pub returns-in-Err-clause-refused : goal.returns-in-Err-clause-refused
returns-in-Err-clause-refused c = elim c.in-Err.ensures.refused [ inl m ↦ inl m | inr none ↦ inr (λ read text whole. none read text) ]
