use Rattle.std.proofs.Common.{◌≡◌, ◌∙◌, refl, ap, sym}
use Rattle.std.specs.Prelude.{Some, None, option_copied}
use Rattle.zst_handler.specs.dnw_codes.declared.record_type.RecordType.TheVariants as kind
use Rattle.zst_handler.specs.Zones.{rrset_at}
use Rattle.zst_map.specs.Searches.{lent}
use Rattle.zst_map.proofs.Searched.{cut_there, own_found}
use Rattle.zst_map.proofs.node.cut_of.Goals as goal

pub returns-in_err-servers : goal.returns-in_err-servers
returns-in_err-servers c zone name e =
    let none : rrset_at zone name kind.NS ≡ None
    = sym (own_found zone c.args.sets.now name kind.NS e) ∙ sym c.find_set.ensures ∙ ap option_copied c.in_err-servers.was in
    ap lent c.from_residual.ensures ∙ cut_there zone name None (rrset_at zone name kind.SOA) (sym none) refl

pub returns-in-Some : goal.returns-in-Some
returns-in-Some c zone name e =
    let servers : Some c.in_ok-servers.servers.now ≡ rrset_at zone name kind.NS
    = sym (ap option_copied c.in_ok-servers.was) ∙ c.find_set.ensures ∙ own_found zone c.args.sets.now name kind.NS e in
    let soa : Some c.in-Some.field-0.now ≡ rrset_at zone name kind.SOA
    = sym (ap option_copied c.in-Some.is) ∙ c.find_set-2.ensures ∙ own_found zone c.args.sets.now name kind.SOA e in
    cut_there zone name (Some c.in_ok-servers.servers.now) (Some c.in-Some.field-0.now) servers soa

pub returns-in-None : goal.returns-in-None
returns-in-None c zone name e =
    let servers : Some c.in_ok-servers.servers.now ≡ rrset_at zone name kind.NS
    = sym (ap option_copied c.in_ok-servers.was) ∙ c.find_set.ensures ∙ own_found zone c.args.sets.now name kind.NS e in
    let soa : None ≡ rrset_at zone name kind.SOA
    = sym (ap option_copied c.in-None.is) ∙ c.find_set-2.ensures ∙ own_found zone c.args.sets.now name kind.SOA e in
    cut_there zone name (Some c.in_ok-servers.servers.now) None servers soa
