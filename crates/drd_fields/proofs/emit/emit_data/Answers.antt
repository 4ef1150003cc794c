use Rattle.std.proofs.Common.{◌≡◌, Bool, refl, sym, subst, ap, ◌∙◌}
use Rattle.dnw_encoder.specs.Encoders.{state}
use Rattle.dnw_encoder.specs.Effects.{Writes}
use Rattle.dnw_encoder.specs.State.{State, with_encoding, rdata_encoding}
use Rattle.drd_fields.specs.Writing.{EmitsFields, EmitsData, EndsWithin}
use Rattle.drd_fields.proofs.WritingLaws.{mode_writes, mode_emits, on_ok}
use Rattle.drd_fields.proofs.emit.emit_data.Goals as goal

pub returns-clause-writes : goal.returns-clause-writes
returns-clause-writes g c =
    let old = state c.args.encoder.now in
    let mid = state c.emit_fields-written.new.encoder in
    let w : Writes (with_encoding old c.name_encoding-names.result) mid = subst (λ (s : State). Writes s mid) c.set_name_encoding.ensures.state c.emit_fields-written.ensures.writes in
    subst (λ (s : State). Writes old s) (ap (with_encoding mid) (sym c.name_encoding-former.ensures) ∙ sym c.set_name_encoding-2.ensures.state) (mode_writes c.name_encoding-names.result old mid refl w)

pub returns-clause-ok : goal.returns-clause-ok
returns-clause-ok g c =
    let old = state c.args.encoder.now in
    let mid = state c.emit_fields-written.new.encoder in
    let fields = g.D.DataFields.fields c.args.fields.now in
    let names : c.name_encoding-names.result ≡ rdata_encoding c.args.kind old.canonical old.encoding =
    c.name_encoding-names.ensures ∙ ap (λ (b : Bool). rdata_encoding c.args.kind b c.name_encoding-former.result) c.is_canonical_form.ensures ∙ ap (rdata_encoding c.args.kind old.canonical) c.name_encoding-former.ensures in
    let began : state c.set_name_encoding.new.self ≡ with_encoding old (rdata_encoding c.args.kind old.canonical old.encoding) =
    c.set_name_encoding.ensures.state ∙ ap (with_encoding old) names in
    let ended : with_encoding mid old.encoding ≡ state c.set_name_encoding-2.new.self = ap (with_encoding mid) (sym c.name_encoding-former.ensures) ∙ sym c.set_name_encoding-2.ensures.state in
    on_ok c.emit_fields-written.result (λ emitted. subst (λ (s : State). EmitsData c.args.kind fields old s) ended
    (mode_emits c.args.kind fields old mid refl (subst (λ (s : State). EmitsFields fields s mid) began emitted) (subst (λ (s : State). EndsWithin s mid) began c.emit_fields-written.ensures.within))) c.emit_fields-written.ensures.ok
