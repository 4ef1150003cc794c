use Rattle.zsv_answer.proofs.Answering.{alone_settles}
use Rattle.zsv_answer.proofs.consult.settled.Goals as goal

pub returns-then-handlers-lt2 : goal.returns-then-handlers-lt2
returns-then-handlers-lt2 g c =
    alone_settles g.H.ZoneHandler.view c.args.handlers.now c.args.place c.args.request.now.name.now c.args.request.now.query_type c.args.told c.if-handlers-lt2.true c.requires
