use Rattle.zsv_message.proofs.BareOptions.{bare_options}
use Rattle.zsv_message.proofs.additionals.read_options.Goals as goal

pub returns-in-Some-clause-there : goal.returns-in-Some-clause-there
returns-in-Some-clause-there c =
    bare_options c.args.decoder.now.octets c.args.decoder.now.index c.in-Some.class c.in-Some.ttl c.read_bare.new.decoder.index c.from.result c.from_fields.result
    c.in-Some.ensures.there c.from.ensures c.from_fields.ensures.fields (cc (c.from_fields.ensures.options, c.new-options.ensures, c.new.ensures.items))
