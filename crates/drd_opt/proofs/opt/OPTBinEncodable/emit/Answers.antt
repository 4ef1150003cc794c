use Rattle.std.proofs.Common.{◌≡◌, ◌≤◌, List, [], ◌∷◌, ◌++◌, ◌⊎◌, length, sym, ap, subst, ◌∙◌, append_assoc, append-nil, arith, rules}
use Rattle.std.proofs.lemmas.List.{nil_from_length}
use Rattle.std.proofs.lemmas.List.Elements.{All-push}
use Rattle.std.proofs.lemmas.Option.{MatchOption-at_none}
use Rattle.drd_fields.specs.dnw_encoder.Encoders.{state}
use Rattle.drd_fields.specs.dnw_encoder.Effects.{IsRefusal}
use Rattle.drd_fields.proofs.dnw_encoder_lemmas.Laws.{writes_then}
use Rattle.drd_fields.specs.dnw_encoder.declared.modes.RDataEncoding.TheVariants.{Other}
use Rattle.drd_fields.specs.Fields.{rest}
use Rattle.drd_fields.specs.Writing.{EmitsData, RefusesFields}
use Rattle.drd_opt.specs.Options.{option_octets, IsLong}
use Rattle.drd_opt.specs.Entries.{Entry, raw_of, raw_octets, entries_octets, AreCountable, HasLong}
use Rattle.drd_opt.proofs.WriteLemmas.{entry_behind, entry_refused, puts_data}
use Rattle.drd_opt.proofs.opt.OPTBinEncodable.emit.Goals as goal

pub options-preserved : goal.options-preserved
options-preserved c =
    let left : c.options.left.now ≡ c.in-Some.entry.now ∷ c.in-Some.later.now = search rules in
    let entry = c.in-Some.entry.now in
    let later = c.in-Some.later.now in
    let front = c.options.invariant.front in
    let old = state c.args.encoder.now in
    let mid = state c.options.encoder in
    let new = state c.emit_entry.new.encoder in
    let within : old.offset ≤ length old.octets = omega (arith, c.offset-start.ensures.value, c.offset-start.ensures.within) in
    record {
      same = c.emit_entry.ensures.same_reference ∙ c.options.invariant.same;
      writes = writes_then old mid new c.options.invariant.writes c.emit_entry.ensures.writes;
      within = λ some. omega (arith, c.in-Ok.ensures.fits, c.options.invariant.writes.modes.maximum);
      front = (
        front.0 ++ entry ∷ [],
        front.1 ∙ ap (λ (es : List Entry). front.0 ++ es) left ∙ sym (append_assoc front.0 (entry ∷ []) later),
        entry_behind front.0 entry old mid new within front.2 c.in-Ok.ensures.ok,
        All-push (λ (e : Entry). length (option_octets e.1) ≤ 65535) front.0 entry front.3 c.in-Ok.ensures.few,
      );
    }

pub returns-in-Err-clause-writes : goal.returns-in-Err-clause-writes
returns-in-Err-clause-writes c =
    writes_then (state c.args.encoder.now) (state c.options.encoder) (state c.emit_entry.new.encoder) c.options.invariant.writes c.emit_entry.ensures.writes

pub returns-in-Err-clause-err : goal.returns-in-Err-clause-err
returns-in-Err-clause-err c =
    let left : c.options.left.now ≡ c.in-Some.entry.now ∷ c.in-Some.later.now = search rules in
    let entry = c.in-Some.entry.now in
    let later = c.in-Some.later.now in
    let front = c.options.invariant.front in
    let old = state c.args.encoder.now in
    let mid = state c.options.encoder in
    let e = c.in-Err.refused in
    let start : c.as_slice-left.result.now ≡ c.args.self.now.options.items = c.as_slice-left.ensures.value in
    let whole : c.args.self.now.options.items ≡ front.0 ++ entry ∷ later = sym start ∙ front.1 ∙ ap (λ (es : List Entry). front.0 ++ es) left in
    let cause : IsRefusal mid (length (raw_octets (raw_of entry))) e ⊎ IsLong (option_octets entry.1) e = rw c.in-Err.is at c.emit_entry.ensures.cause in
    subst (λ (es : List Entry). RefusesFields (rest (entries_octets es) ∷ []) old e ⊎ HasLong es e) (sym whole) (entry_refused front.0 entry later old mid e front.2 cause)

pub returns-clause-ok : goal.returns-clause-ok
returns-clause-ok c =
    let none : c.options.left.now ≡ [] = nil_from_length c.options.left.now (MatchOption-at_none _ _ c.in_default.is c.split_first.ensures.cases) in
    let front = c.options.invariant.front in
    let old = state c.args.encoder.now in
    let new = state c.options.encoder in
    let start : c.as_slice-left.result.now ≡ c.args.self.now.options.items = c.as_slice-left.ensures.value in
    let whole : front.0 ≡ c.args.self.now.options.items = sym (append-nil front.0) ∙ ap (λ (es : List Entry). front.0 ++ es) (sym none) ∙ sym front.1 ∙ start in
    subst (λ (es : List Entry). EmitsData Other (rest (entries_octets es) ∷ []) old new × AreCountable es) whole (puts_data (entries_octets front.0) old new front.2 c.options.invariant.within, front.3)
