-- An update whose additions are servable leaves chains that can be served, whether it is answered or not.
use Rattle.std.proofs.Common.{◌≡◌, subst, sym}
use Rattle.std.specs.Prelude.{ℕ, true, false, List, Option}
use Rattle.std.specs.declared.net.SocketAddr.{SocketAddr}
use Rattle.zsv_chains.specs.zst_request.Views.{View}
use Rattle.zsv_chains.specs.zst_request.dnw_name.DomainName.{DomainName}
use Rattle.zsv_reply.specs.Replies.{ReplyParts}
use Rattle.zsv_reply.specs.zsv_message.Messages.{Message}
use Rattle.zsv_reply.specs.zsv_message.zst_edns.declared.edns.Edns.{Edns}
use Rattle.zsv_update.specs.Keys.{Keys}
use Rattle.zsv_update.specs.ReadingBack.{AdditionsAreServable, ChainsReadBack}
use Rattle.zsv_update.specs.Replying.{RefusesUpdate, RepliesUpdate, RepliesWith}
use Rattle.zsv_update.specs.Updates.{Given, GivesUpdate}
use Rattle.zsv_update.specs.declared.update.ServiceFault.{ServiceFault}
use Rattle.zsv_update.specs.declared.update.ServiceFault.TheVariants.{OutOfMemory}
use Rattle.zsv_update.proofs.ChainsBack.{chains_back}

module _ (keys : Keys) (request : Message) (source : SocketAddr) (octets : List ℕ) (moment : ℕ) (old new : List (DomainName × List View)) (back : ChainsReadBack old)
    (servable : AdditionsAreServable request.authorities) where
  given_back : (given : Given) → GivesUpdate keys request source octets moment old request.asked.questions given → new ≡ given.chains → ChainsReadBack new
  given_back given gives is = subst ChainsReadBack (sym is) (chains_back keys request source octets moment old given back servable gives)

  pub replied_back : (nsid : Option (List ℕ)) (parts : ReplyParts) → RepliesUpdate keys request source octets moment old nsid parts new → ChainsReadBack new
  replied_back nsid parts (given, gives, answers, is) = given_back given gives is

  pub replied_with_back : (edns : Option Edns) (parts : ReplyParts) → RepliesWith keys request source octets moment old edns parts new → ChainsReadBack new
  replied_with_back edns parts (given, gives, sends, is) = given_back given gives is

  pub refused_back : (fault : ServiceFault) → RefusesUpdate keys request source octets moment old fault new → ChainsReadBack new
  refused_back (OutOfMemory false) is = subst ChainsReadBack (sym is) back
  refused_back (OutOfMemory true) (given, gives, accepted, is) = given_back given gives is
