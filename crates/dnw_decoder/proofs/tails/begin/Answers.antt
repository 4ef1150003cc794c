use Rattle.dnw_decoder.proofs.TailLaws.{kept_ok}
use Rattle.dnw_decoder.proofs.tails.begin.Goals as goal

pub returns-then-is_none : goal.returns-then-is_none
returns-then-is_none c = rw c.ok.ensures.value (kept_ok c.args.octets.now c.new.result c.new.ensures)
