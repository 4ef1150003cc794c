use Rattle.std.proofs.Common.{◌≡◌, ◌≤◌, ◌+◌, ◌⊎◌, ℕ, List, [], ◌∷◌, ◌++◌, Vec, Global, length, map, sym, ap, subst, ◌∙◌, append_assoc, arith, rules}
use Rattle.std.specs.List.{flat_map}
use Rattle.dnw_encoder.specs.Encoders.{state}
use Rattle.dnw_encoder.specs.Effects.{IsRefusal}
use Rattle.dnw_encoder.proofs.Laws.{writes_then}
use Rattle.drd_fields.specs.Fields.{string}
use Rattle.drd_fields.specs.Writing.{EmitsField, IsTooLong, SomeTooLong, string_octets}
use Rattle.drd_fields.proofs.WritingLaws.{emits_string_more, strings_refused, puts_string, puts_within, within_then}
use Rattle.drd_fields.proofs.emit.emit_strings.Goals as goal

pub strings-preserved : goal.strings-preserved
strings-preserved c =
    let items = λ (v : Vec ℕ Global). v.items in
    let left : c.strings.left.now ≡ c.in-Some.first.now ∷ c.in-Some.later.now = search rules in
    let s = c.in-Some.first.now.items in
    let front = c.strings.invariant.front in
    let old = state c.args.encoder.now in
    let mid = state c.strings.encoder in
    let new = state c.emit_character_data.new.self in
    let within : old.offset ≤ length old.octets = omega (arith, c.offset-start.ensures.value, c.offset-start.ensures.within) in
    let value : c.deref.result.now ≡ s = c.deref.ensures.value in
    let emitted : EmitsField (string s) mid new =
    subst (λ (o : List ℕ). EmitsField (string o) mid new) value (puts_string c.deref.result.now mid new c.in-Ok.ensures.short c.in-Ok.ensures.ok) in
    record {
      same = c.emit_character_data.ensures.same_reference ∙ c.strings.invariant.same;
      writes = writes_then old mid new c.strings.invariant.writes c.emit_character_data.ensures.writes;
      within = within_then old mid new c.strings.invariant.writes.modes.maximum c.emit_character_data.ensures.writes.forward c.strings.invariant.within
          (puts_within c.emit_character_data.result _ (length c.deref.result.now + 1) mid new (omega arith) c.emit_character_data.ensures.ok c.emit_character_data.ensures.fits c.emit_character_data.ensures.err);
      front = (
        front.0 ++ s ∷ [],
        front.1 ∙ ap (λ (vs : List (Vec ℕ Global)). front.0 ++ map items vs) left ∙ sym (append_assoc front.0 (s ∷ []) (map items c.in-Some.later.now)),
        emits_string_more front.0 s old mid new within front.2 c.strings.invariant.writes emitted c.emit_character_data.ensures.writes,
      );
    }

pub returns-in-Err-clause-cause : goal.returns-in-Err-clause-cause
returns-in-Err-clause-cause c =
    let items = λ (v : Vec ℕ Global). v.items in
    let left : c.strings.left.now ≡ c.in-Some.first.now ∷ c.in-Some.later.now = search rules in
    let s = c.in-Some.first.now.items in
    let front = c.strings.invariant.front in
    let old = state c.args.encoder.now in
    let mid = state c.strings.encoder in
    let e = c.in-Err.refused in
    let whole : map items c.args.texts.now ≡ front.0 ++ s ∷ map items c.in-Some.later.now = front.1 ∙ ap (λ (vs : List (Vec ℕ Global)). front.0 ++ map items vs) left in
    let value : c.deref.result.now ≡ s = c.deref.ensures.value in
    let cause : IsTooLong s e ⊎ IsRefusal mid (length s + 1) e =
    subst (λ (o : List ℕ). IsTooLong o e ⊎ IsRefusal mid (length o + 1) e) value (rw c.in-Err.is at c.emit_character_data.ensures.cause) in
    subst (λ (ss : List (List ℕ)). IsRefusal old (length (flat_map string_octets ss)) e ⊎ SomeTooLong ss e) (sym whole)
    (strings_refused front.0 s (map items c.in-Some.later.now) old mid e c.strings.invariant.writes.modes front.2.size cause)
