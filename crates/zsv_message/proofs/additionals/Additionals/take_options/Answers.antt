use Rattle.std.proofs.Common.{refl}
use Rattle.zsv_message.proofs.BareOptions.{may_stand, opt_is, past_options}
use Rattle.zsv_message.proofs.Gathered.{gathers_opt}
use Rattle.zsv_message.proofs.additionals.Additionals.take_options.Goals as goal

pub returns-in-Some-clause-taken : goal.returns-in-Some-clause-taken
returns-in-Some-clause-taken c = λ is op place n g.
    let o = c.in-Some.ensures.there in
    let r = o.standing in
    let next = c.args.self.now.next in
    gathers_opt op c.args.decoder.now.octets place n c.args.self.now _ c.args.decoder.now.index r c.read_options.new.decoder.index c.in-Some.edns g
    o.there (may_stand next r c.in-Some.edns c.if-self.false c.if-not-self.false c.if-self-2.false o.owner o.says.0)
    (opt_is r c.in-Some.edns o.says.0) o.says (past_options next r c.in-Some.edns c.if-self.false o.says.0) refl refl refl
