use Rattle.std.proofs.Common.{ap, arith, length, subst}
use Rattle.zsv_sections.specs.zst_record.dnw_decoder.Reading.{Reading}
use Rattle.zsv_sections.specs.zsv_parts.Headers.{HeaderAt}
use Rattle.zsv_message.proofs.bare_request.first_header.Goals as goal

pub returns-in-Ok : goal.returns-in-Ok
returns-in-Ok c =
    let at = subst (λ (r : Reading). HeaderAt r.octets r.index c.in-Ok.header c.read.new.decoder.index) c.new.ensures c.in-Ok.ensures.header in
    (at.means, omega (arith, at.within, at.behind))

pub returns : goal.returns
returns c = omega (arith, c.in-Err.ensures.cut.1, ap (λ (r : Reading). r.index) c.new.ensures, ap (λ (r : Reading). length r.octets) c.new.ensures)
