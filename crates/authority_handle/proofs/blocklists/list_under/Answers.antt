use Rattle.std.proofs.Common.{subst, sym}
use Rattle.authority_handle.proofs.Lists.{is_read}
use Rattle.authority_handle.specs.Blocklists.{IsListOf}
use Rattle.authority_load.specs.ZoneText.{IsOwnerText}
use Rattle.authority_handle.proofs.blocklists.list_under.Goals as goal

pub returns-clause-ok : goal.returns-clause-ok
returns-clause-ok c =
    let settings = c.args.settings.now in let name = c.args.name.now in let text = c.args.text.now in let message = c.args.message.now in
    let origin = c.in_ok-own.own in let config = c.in_ok-config.config in let list = c.in_ok-list.list in
    is_read settings name text message origin config (subst (IsOwnerText name) (sym c.in_ok-own.ensures.cases) c.in_ok-origin.ensures.ok)
    c.utf8.text c.requires.text c.utf8.message c.requires.message c.in_ok-config.ensures list
    (subst (λ octets. IsListOf origin config octets list) c.as_bytes.ensures.value c.in_ok-list.ensures.ok)
