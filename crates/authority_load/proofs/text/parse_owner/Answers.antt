use Rattle.std.proofs.Common.{sym, ap, ◌∙◌}
use Rattle.zst_zone.specs.dnw_name.DomainName.{DomainName}
use Rattle.zst_zone.proofs.dnw_name_lemmas.TextLemmas.{name-same}
use Rattle.authority_load.proofs.text.parse_owner.Goals as goal

pub returns-else-is_fqdn : goal.returns-else-is_fqdn
returns-else-is_fqdn c = λ other owner.
    let same = name-same c.args.word.now c.in_ok-name.name other c.in_ok-name.ensures owner.name_text in
    let relative = sym c.is_fqdn.ensures ∙ c.if-is_fqdn.false in
    let full = ap (λ (n : DomainName). n.fqdn) same ∙ owner.full in
    cc
