use Rattle.std.proofs.Common.{◌≡◌, true}
use Rattle.drd_rdata.proofs.dnw_encoder_lemmas.Laws.{holds_map}
use Rattle.drd_rdata.proofs.BackLaws.{alike, alike_equal, emitted_stands}
use Rattle.drd_rdata.specs.Reading.{HoldsAs}
use Rattle.drd_rdata.specs.Writing.{StandsWritten}
use Rattle.drd_record_data.proofs.back.is_read_back.Goals as goal

pub returns-clause-back : goal.returns-clause-back
returns-clause-back c = λ t source start stop old new held sound emitted.
    let v = c.args.written.now in
    let w = c.args.read.now in
    let stands = emitted_stands v old new sound emitted in
    holds_map new.offset new (λ message. StandsWritten v stands.0 message old.offset new.offset) (λ message. HoldsAs t message old.offset w new.offset → c.eq.result ≡ true)
    (λ message written found. alike_equal v w c.eq.result (alike t source start stop v w stands.0 message old.offset new.offset held written found) c.eq.ensures.canonical)
    stands.1
