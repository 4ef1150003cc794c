use Rattle.std.proofs.Common.{ap, ◌∙◌}
use Rattle.zsv_message.specs.zst_record.dnw_decoder.Reading.{Reading}
use Rattle.zsv_message.proofs.Whole.{asks_of}
use Rattle.authority_transfer.proofs.Reread.{all_again, none_again}
use Rattle.authority_transfer.proofs.answers.read_answers.Goals as goal

pub returns-clause-ok : goal.returns-clause-ok
returns-clause-ok c =
    let octets = c.args.reply.now in
    let h = c.in_ok-header.header in
    let asks = asks_of octets c.new-decoder.result c.read.new.decoder c.read-2.new.decoder h c.in_ok-queries.queries c.new-decoder.ensures c.in_ok-header.ensures.header c.in_ok-header.ensures.same c.in_ok-queries.ensures.ok in
    let same = c.in_ok-queries.ensures.same ∙ c.in_ok-header.ensures.same ∙ ap (λ (r : Reading). r.octets) c.new-decoder.ensures in
    all_again c.read_records.result (λ rs. rs.items) octets h c.in_ok-queries.queries c.read-2.new.decoder.index c.read_records.new.decoder.index asks (rw same at c.read_records.ensures.ok) c.read_records.ensures.counted

pub returns-clause-none : goal.returns-clause-none
returns-clause-none c =
    let octets = c.args.reply.now in
    let h = c.in_ok-header.header in
    let asks = asks_of octets c.new-decoder.result c.read.new.decoder c.read-2.new.decoder h c.in_ok-queries.queries c.new-decoder.ensures c.in_ok-header.ensures.header c.in_ok-header.ensures.same c.in_ok-queries.ensures.ok in
    let same = c.in_ok-queries.ensures.same ∙ c.in_ok-header.ensures.same ∙ ap (λ (r : Reading). r.octets) c.new-decoder.ensures in
    none_again c.read_records.result octets h c.in_ok-queries.queries c.read-2.new.decoder.index asks (rw same at c.read_records.ensures.none)
