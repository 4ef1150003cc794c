use Rattle.std.proofs.Common.{◌≡◌, ◌+◌, ◌^◌, ◌<◌, ◌≤◌, ◌⊎◌, [], ◌∷◌, length, ap, ◌∙◌, subst, rules}
use Rattle.drd_types.specs.drd_opt.Entries.{entries_octets, HasLong}
use Rattle.drd_types.specs.drd_opt.declared.opt.OPT.{OPT}
use Rattle.drd_types.specs.dnw_encoder.Effects.{WritesOctets}
use Rattle.drd_types.specs.dnw_encoder.Encoders.{state}
use Rattle.drd_types.specs.dnw_encoder.declared.modes.RDataEncoding.TheVariants.{Other}
use Rattle.drd_types.specs.drd_fields.Fields.{rest}
use Rattle.drd_types.specs.drd_fields.Writing.{EmitsData, RefusesFields}
use Rattle.drd_types.proofs.dnw_encoder_lemmas.Laws.{writes_then}
use Rattle.drd_types.proofs.drd_fields_lemmas.WritingLaws.{if_err, on_ok}
use Rattle.zst_edns.specs.Writing.{edns_data, opt_head}
use Rattle.zst_edns.proofs.WritingLaws.{edns_emitted, options_refused}
use Rattle.zst_edns.proofs.emit.EdnsBinEncodable.emit.Goals as goal

pub returns-clause-writes : goal.returns-clause-writes
returns-clause-writes c =
    writes_then (state c.args.encoder.now) (state c.emit_vec.new.self) (state c.emit.new.encoder) c.emit_vec.ensures.writes c.emit.ensures.writes

pub returns-clause-ok : goal.returns-clause-ok
returns-clause-ok c =
    let edns = c.args.self.now in
    let old = state c.args.encoder.now in
    let mid = state c.emit_vec.new.self in
    let new = state c.emit.new.encoder in
    let len = c.in-Some.len in
    let counted : len ≡ length (edns_data edns) = c.in-Some.ensures ∙ ap (λ (o : OPT). length (entries_octets o.options.items)) c.options.ensures in
    let small : len < 2 ^ 16 = search rules in
    let within : old.offset ≤ length old.octets = c.args.encoder.now.within in
    let head : WritesOctets (opt_head edns len) old mid = rw c.head.ensures.octets at c.in_ok-emit_vec.ensures.ok in
    let fits : old.offset + length (opt_head edns len) ≤ old.maximum = rw c.head.ensures.octets at c.in_ok-emit_vec.ensures.fits in
    on_ok c.emit.result
    (λ wrote. edns_emitted edns len old mid new counted small within c.head.ensures.fits head fits (subst (λ (o : OPT). EmitsData Other (rest (entries_octets o.options.items) ∷ []) mid new) c.options-2.ensures wrote.0)) c.emit.ensures.ok

pub returns-clause-err : goal.returns-clause-err
returns-clause-err c =
    let edns = c.args.self.now in
    let old = state c.args.encoder.now in
    let mid = state c.emit_vec.new.self in
    let len = c.in-Some.len in
    let counted : len ≡ length (edns_data edns) = c.in-Some.ensures ∙ ap (λ (o : OPT). length (entries_octets o.options.items)) c.options.ensures in
    let small : len < 2 ^ 16 = search rules in
    let head : WritesOctets (opt_head edns len) old mid = rw c.head.ensures.octets at c.in_ok-emit_vec.ensures.ok in
    if_err c.emit.result
    (λ e refused. options_refused edns len old mid e counted small head (subst (λ (o : OPT). RefusesFields (rest (entries_octets o.options.items) ∷ []) mid e ⊎ HasLong o.options.items e) c.options-2.ensures refused)) c.emit.ensures.err
