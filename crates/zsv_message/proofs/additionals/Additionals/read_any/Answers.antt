use Rattle.std.proofs.Common.{ℕ, ◌-◌, List, refl, sym, subst, inr, ◌∙◌, ◌⊎◌}
use Rattle.std.proofs.lemmas.Result.{err_from_is_err_and}
use Rattle.zsv_sections.specs.zst_record.dnw_decoder.Reading.{IsWantOfMemory}
use Rattle.zsv_sections.specs.zst_record.declared.records.Record.{Record}
use Rattle.zsv_sections.specs.zsv_parts.declared.tsig.TsigRecord.{TsigRecord}
use Rattle.zsv_sections.specs.zsv_parts.Signatures.{RefusesTsig}
use Rattle.zsv_message.specs.Messages.{IsSigned}
use Rattle.zsv_message.proofs.Gathered.{gathers_opt, gathers_other, gathers_tsig, placed_none_of, signature_data, signature_none, signature_refused}
use Rattle.zsv_message.proofs.additionals.Additionals.read_any.Goals as goal

pub returns-in_err-standing-clause-none : goal.returns-in_err-standing-clause-none
returns-in_err-standing-clause-none c = λ op place n count more g.
    let p = err_from_is_err_and c.from_residual.result c.from_residual.ensures.1 in
    rw (p.1, p.2) (placed_none_of op c.args.decoder.now.octets place n count c.args.self.now c.args.decoder.now.index _ more g c.in_err-standing.ensures.none)

pub returns-then-is_opt-clause-ok : goal.returns-then-is_opt-clause-ok
returns-then-is_opt-clause-ok c = λ op place n g.
    gathers_opt op c.args.decoder.now.octets place n c.args.self.now _ c.args.decoder.now.index c.in_ok-standing.standing c.read_placed.new.decoder.index c.options_of.result g
    c.in_ok-standing.ensures.ok c.in_ok-standing.ensures.placed (sym c.is_opt.ensures ∙ c.if-is_opt.true) c.options_of.ensures c.past-self.ensures refl refl refl

pub signature_of-requires : goal.signature_of-requires
signature_of-requires c =
    (signature_data c.args.self.now.next c.args.decoder.now.octets c.args.decoder.now.index c.read_placed.new.decoder.index c.in_ok-standing.standing c.data_len-len.result
    c.in_ok-standing.ensures.ok c.in_ok-standing.ensures.placed (sym c.is_tsig.ensures ∙ c.if-is_tsig.true) c.data_len-len.ensures).inside

pub returns-in_err-signature-clause-refused : goal.returns-in_err-signature-clause-refused
returns-in_err-signature-clause-refused c = λ op place n count more g.
    let p = err_from_is_err_and c.from_residual-in_err-signature.result c.from_residual-in_err-signature.ensures.1 in
    let is = sym c.is_tsig.ensures ∙ c.if-is_tsig.true in
    let held = signature_data c.args.self.now.next c.args.decoder.now.octets c.args.decoder.now.index c.read_placed.new.decoder.index c.in_ok-standing.standing c.data_len-len.result
    c.in_ok-standing.ensures.ok c.in_ok-standing.ensures.placed is c.data_len-len.ensures in
    let end = c.read_placed.new.decoder.index in
    let e = c.in_err-signature.field-0.0 in
    let cause = subst (λ (n : ℕ). RefusesTsig c.args.decoder.now.octets (end - n) n e) held.counted
    (subst (λ (m : List ℕ). RefusesTsig m (end - c.data_len-len.result) c.data_len-len.result e) c.in_ok-standing.ensures.same c.in_err-signature.ensures.refused) in
    rw (p.1, p.2) (inr (signature_refused op c.args.decoder.now.octets place n count c.args.self.now c.args.decoder.now.index c.in_ok-standing.standing end held.octets e more g
    c.in_ok-standing.ensures.ok c.in_ok-standing.ensures.placed is held.whole cause))

pub returns-in_err-signature-clause-none : goal.returns-in_err-signature-clause-none
returns-in_err-signature-clause-none c = λ op place n count more g.
    let p = err_from_is_err_and c.from_residual-in_err-signature.result c.from_residual-in_err-signature.ensures.1 in
    let is = sym c.is_tsig.ensures ∙ c.if-is_tsig.true in
    let held = signature_data c.args.self.now.next c.args.decoder.now.octets c.args.decoder.now.index c.read_placed.new.decoder.index c.in_ok-standing.standing c.data_len-len.result
    c.in_ok-standing.ensures.ok c.in_ok-standing.ensures.placed is c.data_len-len.ensures in
    let end = c.read_placed.new.decoder.index in
    let e = c.in_err-signature.field-0.0 in
    let none = subst (λ (n : ℕ). IsWantOfMemory e ⊎ ((r : Record) (t : TsigRecord) → IsSigned c.args.decoder.now.octets (end - n) n r t → ⊥)) held.counted
    (subst (λ (m : List ℕ). IsWantOfMemory e ⊎ ((r : Record) (t : TsigRecord) → IsSigned m (end - c.data_len-len.result) c.data_len-len.result r t → ⊥)) c.in_ok-standing.ensures.same c.in_err-signature.ensures.none) in
    rw (p.1, p.2) (signature_none op c.args.decoder.now.octets place n count c.args.self.now c.args.decoder.now.index c.in_ok-standing.standing end held.octets e more g
    c.in_ok-standing.ensures.ok c.in_ok-standing.ensures.placed is held.whole none)

pub returns-then-is_tsig-clause-ok : goal.returns-then-is_tsig-clause-ok
returns-then-is_tsig-clause-ok c = λ op place n g.
    let is = sym c.is_tsig.ensures ∙ c.if-is_tsig.true in
    let held = signature_data c.args.self.now.next c.args.decoder.now.octets c.args.decoder.now.index c.read_placed.new.decoder.index c.in_ok-standing.standing c.data_len-len.result
    c.in_ok-standing.ensures.ok c.in_ok-standing.ensures.placed is c.data_len-len.ensures in
    let end = c.read_placed.new.decoder.index in
    let tsig = c.in_ok-signature.signature in
    let signed = subst (λ (n : ℕ). IsSigned c.args.decoder.now.octets (end - n) n c.in_ok-standing.standing tsig) held.counted
    (subst (λ (m : List ℕ). IsSigned m (end - c.data_len-len.result) c.data_len-len.result c.in_ok-standing.standing tsig) c.in_ok-standing.ensures.same c.in_ok-signature.ensures.ok) in
    rw c.in_ok-signature.ensures.stays (gathers_tsig op c.args.decoder.now.octets place n c.args.self.now _ c.args.decoder.now.index c.in_ok-standing.standing end held.octets tsig g
    c.in_ok-standing.ensures.ok c.in_ok-standing.ensures.placed (sym c.is_opt.ensures ∙ c.if-is_opt.false) is held.whole signed c.past-self.ensures refl refl c.in-Ok.ensures.ok)

pub returns-clause-ok : goal.returns-clause-ok
returns-clause-ok c = λ op place n g.
    gathers_other op c.args.decoder.now.octets place n c.args.self.now _ c.args.decoder.now.index c.in_ok-standing.standing c.read_placed.new.decoder.index g
    c.in_ok-standing.ensures.ok c.in_ok-standing.ensures.placed (sym c.is_opt.ensures ∙ c.if-is_opt.false) (sym c.is_tsig.ensures ∙ c.if-is_tsig.false) c.past-self.ensures c.in-Ok-push.ensures.ok refl refl
