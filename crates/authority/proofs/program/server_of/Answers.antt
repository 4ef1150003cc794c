use Rattle.std.proofs.Common.{◌∙◌, ◌++◌, [], ◌∷◌, List, ap, map, subst, sym}
use Rattle.authority.specs.declared.program.NoSigner.{NoSigner}
use Rattle.authority_transfer.specs.declared.InMemoryZoneHandler.{InMemoryZoneHandler}
use Rattle.authority_server.specs.zsv_catalog.ReadingBack.{ChainReadsBack}
use Rattle.authority_server.specs.zsv_catalog.zsv_answer.zst_request.Views.{Stored}
use Rattle.authority.proofs.program.server_of.Goals as goal

pub upsert-requires : goal.upsert-requires
upsert-requires c =
    let one = c.in_ok-push.ensures.items ∙ ap (λ (zones : List (InMemoryZoneHandler NoSigner)). zones ++ c.args.zone ∷ []) c.new-chain.ensures.items in
    subst (λ (zones : List (InMemoryZoneHandler NoSigner)). ChainReadsBack (map (λ (h : InMemoryZoneHandler NoSigner). Stored h.zone) zones)) (sym one) ((c.origin.ensures.stored, c.requires), tt)
