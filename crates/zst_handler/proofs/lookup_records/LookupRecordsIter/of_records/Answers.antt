use Rattle.std.proofs.Common.{◌∙◌, ap, false, List, []}
use Rattle.zst_record.specs.declared.records.Record.{Record}
use Rattle.zst_handler.specs.declared.answer_set.Guise.TheVariants as guises
use Rattle.zst_handler.specs.Answers.{left_over}
use Rattle.zst_handler.proofs.ShownRecords.{alone_shown}
use Rattle.zst_handler.proofs.lookup_records.LookupRecordsIter.of_records.Goals as goal

pub returns : goal.returns
returns c = ap (λ (rs : List Record). left_over guises.Own rs false [] 0) c.new.ensures ∙ alone_shown c.args.records.now false
