use Rattle.drd_opt.proofs.Forms.{no_form}
use Rattle.drd_opt.proofs.readable.has_no_form.Goals as goal

pub returns-in-8 : goal.returns-in-8
returns-in-8 c = no_form c.begins_with_subnet.result c.args.number c.args.octets.now.items c.in-8.is c.begins_with_subnet.ensures
