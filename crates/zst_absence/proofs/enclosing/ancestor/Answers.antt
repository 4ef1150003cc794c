use Rattle.std.proofs.Common.{◌≡◌, ◌-◌, ℕ, arith, drop, length, rules, subst}
use Rattle.std.specs.Prelude.{IfOk}
use Rattle.zst_map.specs.dnw_name.DomainName.{domain_name}
use Rattle.zst_map.specs.zst_key.Ancestors.{up}
use Rattle.zst_absence.proofs.enclosing.ancestor.Goals as goal

pub returns : goal.returns
returns c =
    let name = c.args.name.now in
    let long : c.len.result ≡ length name.labels = search rules in
    let level : length name.labels - (c.len.result - c.args.levels) ≡ c.args.levels = omega (arith, long, c.requires) in
    subst (λ (n : ℕ). IfOk c.trim_to.result (λ above. above ≡ domain_name name.fqdn (drop n name.labels))) level c.trim_to.ensures
