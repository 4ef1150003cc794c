use Rattle.std.proofs.Common.{ℕ, List, ap, subst, sym, ◌∙◌, ◌⊎◌}
use Rattle.std.specs.Prelude.{slice_get}
use Rattle.std.proofs.lemmas.Result.{err_from_is_err_and}
use Rattle.zsv_sections.specs.zst_record.dnw_decoder.Reading.{IsWantOfMemory, Reading}
use Rattle.zsv_sections.specs.zst_record.declared.records.Record.{Record}
use Rattle.zsv_sections.specs.declared.placing.Placing.{Placing}
use Rattle.zsv_sections.specs.Sections.{RefusesSection, SectionAt}
use Rattle.zsv_message.proofs.Fits.{fits_header, fits_joined}
use Rattle.zsv_message.proofs.Whole.{additionals_err, answers_err, asks_of, authorities_err, before_of, is_bare_message, is_held, is_message, memory_err}
use Rattle.zsv_message.specs.Messages.{IsMessage, Message}
use Rattle.zsv_message.proofs.request.MessageRequest.read.Goals as goal

pub returns-then-counts_no_records : goal.returns-then-counts_no_records
returns-then-counts_no_records c =
    let octets = c.args.octets.now in
    let h = c.in_ok-header.header in
    let asks = asks_of octets c.new-decoder.result c.read.new.decoder c.read-2.new.decoder h c.in_ok-queries.queries c.new-decoder.ensures c.in_ok-header.ensures.header c.in_ok-header.ensures.same c.in_ok-queries.ensures.ok in
    subst (λ (m : Message). IsMessage octets m) (sym c.bare.ensures) (is_bare_message octets h c.in_ok-queries.queries c.read-2.new.decoder.index asks (sym c.counts_no_records.ensures ∙ c.if-counts_no_records.true))

pub returns-in_err-answers : goal.returns-in_err-answers
returns-in_err-answers c =
    let p = err_from_is_err_and c.from_residual-in_err-answers.result c.from_residual-in_err-answers.ensures.1 in
    let octets = c.args.octets.now in
    let h = c.in_ok-header.header in
    let at = before_of c.is_update-is_update.result h.metadata.op_code c.is_update-is_update.ensures in
    let asks = asks_of octets c.new-decoder.result c.read.new.decoder c.read-2.new.decoder h c.in_ok-queries.queries c.new-decoder.ensures c.in_ok-header.ensures.header c.in_ok-header.ensures.same c.in_ok-queries.ensures.ok in
    let same = c.in_ok-queries.ensures.same ∙ c.in_ok-header.ensures.same ∙ ap (λ (r : Reading). r.octets) c.new-decoder.ensures in
    let e = c.in_err-answers.field-0.0 in
    let place = c.read-2.new.decoder.index in
    let refused = subst (λ (a : Placing). IsWantOfMemory e ⊎ RefusesSection a octets place h.counts.answers e) at (rw same at c.in_err-answers.ensures.refused) in
    let none = subst (λ (a : Placing). IsWantOfMemory e ⊎ ((rs : List Record) (end : ℕ) → SectionAt a octets place h.counts.answers rs end → ⊥)) at (rw same at c.in_err-answers.ensures.none) in
    rw (p.1, p.2) (answers_err octets h c.in_ok-queries.queries place e asks refused none)

pub returns-in_err-authorities : goal.returns-in_err-authorities
returns-in_err-authorities c =
    let p = err_from_is_err_and c.from_residual-in_err-authorities.result c.from_residual-in_err-authorities.ensures.1 in
    let octets = c.args.octets.now in
    let h = c.in_ok-header.header in
    let at = before_of c.is_update-is_update.result h.metadata.op_code c.is_update-is_update.ensures in
    let asks = asks_of octets c.new-decoder.result c.read.new.decoder c.read-2.new.decoder h c.in_ok-queries.queries c.new-decoder.ensures c.in_ok-header.ensures.header c.in_ok-header.ensures.same c.in_ok-queries.ensures.ok in
    let first = c.in_ok-queries.ensures.same ∙ c.in_ok-header.ensures.same ∙ ap (λ (r : Reading). r.octets) c.new-decoder.ensures in
    let same = c.in_ok-answers.ensures.same ∙ first in
    let e = c.in_err-authorities.field-0.0 in
    let start = c.read-2.new.decoder.index in
    let place = c.read_section.new.decoder.index in
    let found = subst (λ (a : Placing). SectionAt a octets start h.counts.answers c.in_ok-answers.answers.items place) at (rw first at c.in_ok-answers.ensures.ok) in
    let refused = subst (λ (a : Placing). IsWantOfMemory e ⊎ RefusesSection a octets place h.counts.authorities e) at (rw same at c.in_err-authorities.ensures.refused) in
    let none = subst (λ (a : Placing). IsWantOfMemory e ⊎ ((rs : List Record) (end : ℕ) → SectionAt a octets place h.counts.authorities rs end → ⊥)) at (rw same at c.in_err-authorities.ensures.none) in
    rw (p.1, p.2) (authorities_err octets h c.in_ok-queries.queries c.in_ok-answers.answers.items start place e asks found refused none)

pub returns-in_err-found : goal.returns-in_err-found
returns-in_err-found c =
    let p = err_from_is_err_and c.from_residual-in_err-found.result c.from_residual-in_err-found.ensures.1 in
    let octets = c.args.octets.now in
    let h = c.in_ok-header.header in
    let at = before_of c.is_update-is_update.result h.metadata.op_code c.is_update-is_update.ensures in
    let asks = asks_of octets c.new-decoder.result c.read.new.decoder c.read-2.new.decoder h c.in_ok-queries.queries c.new-decoder.ensures c.in_ok-header.ensures.header c.in_ok-header.ensures.same c.in_ok-queries.ensures.ok in
    let first = c.in_ok-queries.ensures.same ∙ c.in_ok-header.ensures.same ∙ ap (λ (r : Reading). r.octets) c.new-decoder.ensures in
    let second = c.in_ok-answers.ensures.same ∙ first in
    let same = c.in_ok-authorities.ensures.same ∙ second in
    let e = c.in_err-found.field-0.0 in
    let start = c.read-2.new.decoder.index in
    let middle = c.read_section.new.decoder.index in
    let place = c.read_section-2.new.decoder.index in
    let found = subst (λ (a : Placing). SectionAt a octets start h.counts.answers c.in_ok-answers.answers.items middle) at (rw first at c.in_ok-answers.ensures.ok) in
    let more = subst (λ (a : Placing). SectionAt a octets middle h.counts.authorities c.in_ok-authorities.authorities.items place) at (rw second at c.in_ok-authorities.ensures.ok) in
    let refused = (rw same at c.in_err-found.ensures.refused) h.metadata.op_code c.is_update-is_update.ensures in
    let none = (rw same at c.in_err-found.ensures.none) h.metadata.op_code c.is_update-is_update.ensures in
    rw (p.1, p.2) (additionals_err octets h c.in_ok-queries.queries c.in_ok-answers.answers.items c.in_ok-authorities.authorities.items start middle place e asks found more refused none)

pub returns : goal.returns
returns c =
    let octets = c.args.octets.now in
    let h = c.in_ok-header.header in
    let at = before_of c.is_update-is_update.result h.metadata.op_code c.is_update-is_update.ensures in
    let asks = asks_of octets c.new-decoder.result c.read.new.decoder c.read-2.new.decoder h c.in_ok-queries.queries c.new-decoder.ensures c.in_ok-header.ensures.header c.in_ok-header.ensures.same c.in_ok-queries.ensures.ok in
    let first = c.in_ok-queries.ensures.same ∙ c.in_ok-header.ensures.same ∙ ap (λ (r : Reading). r.octets) c.new-decoder.ensures in
    let second = c.in_ok-answers.ensures.same ∙ first in
    let same = c.in_ok-authorities.ensures.same ∙ second in
    let start = c.read-2.new.decoder.index in
    let middle = c.read_section.new.decoder.index in
    let place = c.read_section-2.new.decoder.index in
    let found = subst (λ (a : Placing). SectionAt a octets start h.counts.answers c.in_ok-answers.answers.items middle) at (rw first at c.in_ok-answers.ensures.ok) in
    let more = subst (λ (a : Placing). SectionAt a octets middle h.counts.authorities c.in_ok-authorities.authorities.items place) at (rw second at c.in_ok-authorities.ensures.ok) in
    let last = (rw same at c.in_ok-found.ensures.ok) h.metadata.op_code c.is_update-is_update.ensures in
    let held = slice_get c.in_ok-held.held.items 0 in
    is_held octets c.joined.result c.in_ok-queries.queries c.in_ok-answers.answers.items c.in_ok-authorities.authorities.items c.in_ok-found.found.records.items c.in_ok-found.found.edns (slice_get c.in_ok-found.found.signature.items 0) held
    c.in_ok-held.ensures.answers c.in_ok-held.ensures.authorities c.in_ok-held.ensures.additionals c.in_ok-held.ensures.signature
    (is_message octets h c.in_ok-queries.queries c.in_ok-answers.answers.items c.in_ok-authorities.authorities.items c.in_ok-found.found.records.items c.in_ok-found.found.edns (slice_get c.in_ok-found.found.signature.items 0)
    c.joined.result start middle place c.read-3.new.decoder.index asks found more last c.joined.ensures)

pub returns-in_err-held : goal.returns-in_err-held
returns-in_err-held c =
    let p = err_from_is_err_and c.from_residual-in_err-held.result c.from_residual-in_err-held.ensures.1 in
    let octets = c.args.octets.now in
    let asks = asks_of octets c.new-decoder.result c.read.new.decoder c.read-2.new.decoder c.in_ok-header.header c.in_ok-queries.queries c.new-decoder.ensures c.in_ok-header.ensures.header c.in_ok-header.ensures.same c.in_ok-queries.ensures.ok in
    rw (p.1, p.2) (memory_err octets c.in_err-held.field-0.0 asks.long c.in_err-held.ensures.memory)

pub invariant_of-result : goal.invariant_of-result
invariant_of-result c =
    let octets = c.args.octets.now in
    let h = c.in_ok-header.header in
    let asks = asks_of octets c.new-decoder.result c.read.new.decoder c.read-2.new.decoder h c.in_ok-queries.queries c.new-decoder.ensures c.in_ok-header.ensures.header c.in_ok-header.ensures.same c.in_ok-queries.ensures.ok in
    fits_joined h.metadata c.joined.result c.in_ok-found.found.edns c.joined.ensures (fits_header octets h asks.means)
