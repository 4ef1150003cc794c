use Rattle.authority.proofs.HandedOver.{handed_over}
use Rattle.authority.proofs.transfer.load_transfer.Goals as goal

pub returns-clause-two_roads : goal.returns-clause-two_roads
returns-clause-two_roads g c = λ zone dnssec_ok loaded same sends. c.load_transfer.ensures.two_roads zone dnssec_ok loaded same (handed_over zone dnssec_ok c.args.reply.now sends)
