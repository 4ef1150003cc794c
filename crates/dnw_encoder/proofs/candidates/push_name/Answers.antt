use Rattle.std.proofs.Common.{sym, ◌∙◌, arith}
use Rattle.dnw_encoder.proofs.CandidateLaws.{on_accepted}
use Rattle.dnw_encoder.proofs.KeepingLaws.{push_both}
use Rattle.dnw_encoder.proofs.candidates.push_name.Goals as goal

pub returns-clause-ok : goal.returns-clause-ok
returns-clause-ok c =
    push_both c.args.name.now.labels c.args.front c.args.to c.args.start c.args.end c.as_octets.result.now c.args.entries.now.items c.push.new.self.items c.push_entries.new.entries.items _ c.as_octets.ensures.octets
    (on_accepted c.push.result (sym c.is_err.ensures.value ∙ c.if-is_err.false) c.push.ensures.ok)
    c.requires.early c.requires.small c.requires.octets (omega (arith, c.requires.small))
    (on_accepted c.push_entries.result (sym c.is_err-2.ensures.value ∙ c.if-is_err-2.false) c.push_entries.ensures.ok)
