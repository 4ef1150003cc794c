use Rattle.std.proofs.Common.{rules}
use Rattle.drd_types.proofs.dnw_decoder_lemmas.Standing.{length-octets_32}
use Rattle.drd_rdata.proofs.exceeding.room_after_field.Goals as goal

pub returns-in-U32 : goal.returns-in-U32
returns-in-U32 c = rw (c.in-U32.is, length-octets_32 c.in-U32.field-0) (search rules)
