use Rattle.std.proofs.Common.{List, ℕ, Option, IfErr, subst, ◌⊎◌}
use Rattle.zst_edns.specs.declared.edns.Edns.{Edns}
use Rattle.zsv_sections.specs.zst_record.dnw_decoder.Reading.{IsWantOfMemory}
use Rattle.zsv_sections.specs.zst_record.declared.records.Record.{Record}
use Rattle.zsv_sections.specs.zsv_parts.declared.tsig.TsigRecord.{TsigRecord}
use Rattle.zsv_message.specs.Gathering.{Gathers}
use Rattle.zsv_message.specs.Messages.{AdditionalsAt, RefusesAdditionals}
use Rattle.zsv_message.proofs.additionals.Additionals.read_next.Goals as goal

pub returns-clause-refused : goal.returns-clause-refused
returns-clause-refused c = λ op place n count more g.
    let same = c.take_options.ensures.left c.if-take_options.false in
    let there : Gathers op c.take_options.new.decoder.octets place n c.take_options.new.self c.take_options.new.decoder.index = rw same.0 (rw same.1 g) in
    subst (λ (m : List ℕ). IfErr c.read_any.result (λ e. IsWantOfMemory e ⊎ RefusesAdditionals op m place count e)) c.take_options.ensures.same
    (c.read_any.ensures.refused op place n count more there)

pub returns-clause-none : goal.returns-clause-none
returns-clause-none c = λ op place n count more g.
    let same = c.take_options.ensures.left c.if-take_options.false in
    let there : Gathers op c.take_options.new.decoder.octets place n c.take_options.new.self c.take_options.new.decoder.index = rw same.0 (rw same.1 g) in
    subst (λ (m : List ℕ). IfErr c.read_any.result (λ e. IsWantOfMemory e ⊎ ((rs : List Record) (o : Option Edns) (t : Option TsigRecord) (end : ℕ) → AdditionalsAt m op place count rs o t end → ⊥))) c.take_options.ensures.same
    (c.read_any.ensures.none op place n count more there)
