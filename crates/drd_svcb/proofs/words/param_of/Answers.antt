use Rattle.std.proofs.Common.{ℕ, List, inr, refl, subst, arith}
use Rattle.std.specs.List.{before_first, after_first}
use Rattle.drd_params.specs.dnw_codes.declared.error.ParseError.TheVariants.{UnexpectedToken}
use Rattle.drd_param_keys.proofs.KeyTexts.{key-found}
use Rattle.drd_param_keys.specs.Keys.{key_of_text}
use Rattle.drd_param_keys.specs.Texts.{IsKeyText}
use Rattle.drd_svcb.proofs.ParamWords.{param-is, cause-of-key, cause-of-value, cause-of-length}
use Rattle.drd_param_keys.specs.Words.{is_equals, IsUnquoted}
use Rattle.drd_svcb.proofs.words.param_of.Goals as goal

pub returns-in-Some-clause-ok : goal.returns-in-Some-clause-ok
returns-in-Some-clause-ok c =
    let is : IsKeyText c.in-Ok.key (before_first is_equals c.args.word.now) =
    subst (λ (t : List ℕ). IsKeyText c.in-Ok.key t) c.parts_of.ensures.key (key-found (key_of_text c.parts_of.result.0.now) c.in-Ok.key UnexpectedToken c.in-Ok.ensures.value) in
    let quotes : IsUnquoted (after_first is_equals c.args.word.now) c.unquoted.result.now =
    subst (λ (t : List ℕ). IsUnquoted t c.unquoted.result.now) c.parts_of.ensures.value c.unquoted.ensures in
    param-is c.args.word.now c.unquoted.result.now c.in-Ok.key c.in-Ok-value_of.value is quotes c.in-Ok-value_of.ensures.ok (omega (arith, c.in-Some.ensures))

pub returns-in-Err-clause-refused : goal.returns-in-Err-clause-refused
returns-in-Err-clause-refused c =
    inr (cause-of-key c.args.word.now c.parts_of.result.0.now c.in-Err.refused c.parts_of.ensures.key c.in-Err.ensures.value)

pub returns-in-Err-value_of-clause-refused : goal.returns-in-Err-value_of-clause-refused
returns-in-Err-value_of-clause-refused c =
    let is : IsKeyText c.in-Ok.key (before_first is_equals c.args.word.now) =
    subst (λ (t : List ℕ). IsKeyText c.in-Ok.key t) c.parts_of.ensures.key (key-found (key_of_text c.parts_of.result.0.now) c.in-Ok.key UnexpectedToken c.in-Ok.ensures.value) in
    let quotes : IsUnquoted (after_first is_equals c.args.word.now) c.unquoted.result.now =
    subst (λ (t : List ℕ). IsUnquoted t c.unquoted.result.now) c.parts_of.ensures.value c.unquoted.ensures in
    cause-of-value c.args.word.now c.unquoted.result.now c.in-Ok.key c.in-Err-value_of.refused is quotes c.in-Err-value_of.ensures.refused

pub returns-in-None-clause-refused : goal.returns-in-None-clause-refused
returns-in-None-clause-refused c =
    let is : IsKeyText c.in-Ok.key (before_first is_equals c.args.word.now) =
    subst (λ (t : List ℕ). IsKeyText c.in-Ok.key t) c.parts_of.ensures.key (key-found (key_of_text c.parts_of.result.0.now) c.in-Ok.key UnexpectedToken c.in-Ok.ensures.value) in
    let quotes : IsUnquoted (after_first is_equals c.args.word.now) c.unquoted.result.now =
    subst (λ (t : List ℕ). IsUnquoted t c.unquoted.result.now) c.parts_of.ensures.value c.unquoted.ensures in
    inr (cause-of-length c.args.word.now c.unquoted.result.now c.in-Ok.key c.in-Ok-value_of.value _ refl is quotes c.in-Ok-value_of.ensures.ok c.in-None.ensures)
