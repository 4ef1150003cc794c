use Rattle.std.proofs.Common.{arith}
use Rattle.dnw_lexer.proofs.Numbers.{number-none}
use Rattle.dnw_lexer.proofs.ttl.number_at.Goals as goal

pub returns-else-behind-text : goal.returns-else-behind-text
returns-else-behind-text c = λ n behind other small.
    number-none c.args.text.now c.in_ok-value.value c.in_ok-value.behind.now c.in_ok-value.ensures (omega arith) n behind other
