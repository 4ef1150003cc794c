use Rattle.std.proofs.Common.{inr}
use Rattle.dnw_codes.specs.ProtoError.{IsMemory}
use Rattle.dnw_label.proofs.LabelTextLemmas.{no_other_label}
use Rattle.dnw_label.proofs.label_text.label_at.Goals as goal

pub returns-in-Err-clause-refused : goal.returns-in-Err-clause-refused
returns-in-Err-clause-refused c =
    no_other_label IsMemory c.in-Err.refused c.args.text.now c.in_ok-octets.octets.items c.in_ok-octets.behind.now c.in_ok-octets.ensures.ok (inr c.in-Err.ensures.refused)
