-- What a message gives leaves chains that can be served.
use Rattle.std.proofs.Common.{◌≡◌, ℕ, Bool, true, false, List, Option, ap, refl, subst, sym}
use Rattle.std.specs.declared.net.SocketAddr.{SocketAddr}
use Rattle.zsv_answer.specs.zst_request.Views.{View}
use Rattle.zsv_answer.specs.zst_request.dnw_name.DomainName.{DomainName}
use Rattle.zsv_answer.specs.zsv_reply.zsv_message.Messages.{Message}
use Rattle.zsv_update.specs.Keys.{Keys}
use Rattle.zsv_update.specs.ReadingBack.{AdditionsAreServable}
use Rattle.zsv_update.specs.Updates.{Given, GivesUpdate}
use Rattle.zsv_update.proofs.ChainsBack.{chains_back}
use Rattle.zsv_catalog.specs.Catalogs.{GivesOf, is_served_update}
use Rattle.zsv_catalog.specs.ReadingBack.{ChainsReadBack}

module _ (keys : Keys) (request : Message) (source : SocketAddr) (octets : List ℕ) (moment : ℕ) (chains : List (DomainName × List View)) where
  pub update_back : (given : Given) → AdditionsAreServable request.authorities → ChainsReadBack chains → GivesUpdate keys request source octets moment chains request.asked.questions given → ChainsReadBack given.chains
  update_back given servable back gives = chains_back keys request source octets moment chains given back servable gives

  pub given_back : (is_served_update request ≡ true → AdditionsAreServable request.authorities) → ChainsReadBack chains → (nsid : Option (List ℕ)) (given : Given)
      → GivesOf chains nsid keys request source octets moment given → ChainsReadBack given.chains
  given_back servable back nsid given gives = by (is_served_update request) refl
    where
      by : (b : Bool) → is_served_update request ≡ b → ChainsReadBack given.chains
      by true e =
          let (bare, updates, answers, whole) = gives.update e in
          subst ChainsReadBack (sym (ap (λ (g : Given). g.chains) whole)) (update_back bare (servable e) back updates)
      by false e =
          let (parts, plain, whole) = gives.other e in
          subst ChainsReadBack (sym (ap (λ (g : Given). g.chains) whole)) back
