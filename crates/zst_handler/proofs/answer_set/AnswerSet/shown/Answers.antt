use Rattle.std.proofs.Common.{◌∙◌, ap}
use Rattle.std.specs.Prelude.{Option}
use Rattle.zst_record.specs.dnw_name.DomainName.{DomainName}
use Rattle.zst_handler.specs.Answers.{shown, under}
use Rattle.zst_handler.proofs.ShownRecords.{own_shown}
use Rattle.zst_handler.proofs.answer_set.AnswerSet.shown.Goals as goal

pub returns-in-None-default : goal.returns-in-None-default
returns-in-None-default c =
    own_shown c.rrset_with_rrigs.result ∙ c.rrset_with_rrigs.ensures
    ∙ ap (λ (owner : Option DomainName). shown c.args.options.dnssec_ok (under c.args.self.now.set.now owner c.args.self.now.behind)) c.in-None-default.ensures
