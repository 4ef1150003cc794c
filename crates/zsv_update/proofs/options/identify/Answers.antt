use Rattle.std.proofs.Common.{◌∙◌, [], ◌∷◌, ap, sym}
use Rattle.std.proofs.lemmas.Bool.{true≢false}
use Rattle.std.proofs.lemmas.Result.{on_ok_weaker}
use Rattle.std.specs.Prelude.{Bool, if◌then◌else◌, option_copied}
use Rattle.drd_types.specs.declared.EdnsCode.TheVariants.{NSID}
use Rattle.drd_types.specs.declared.EdnsOption.TheVariants as option_with
use Rattle.zsv_update.specs.Options.{identifier}
use Rattle.zsv_update.proofs.Named.{asks_told, named}
use Rattle.zsv_update.proofs.options.identify.Goals as goal

pub returns-then-is_none-clause-options : goal.returns-then-is_none-clause-options
returns-then-is_none-clause-options c =
    let asked = c.args.asked.now in
    let payload = c.in-Some.payload.now in
    let told = ap (identifier asked) (ap option_copied c.in-Some.is) ∙ ap (λ (b : Bool). if b then (NSID, option_with.NSID payload) ∷ [] else []) (asks_told (λ option. option.now) asked c.option.result _ c.option.ensures c.if-is_none.ensures) in
    c.requires ∙ sym told

pub returns-then-is_none-clause-within : goal.returns-then-is_none-clause-within
returns-then-is_none-clause-within c = λ asks.
    absurd (true≢false (sym asks ∙ asks_told (λ option. option.now) c.args.asked.now c.option.result _ c.option.ensures c.if-is_none.ensures))

pub returns-clause-options : goal.returns-clause-options
returns-clause-options c =
    let asked = c.args.asked.now in
    let payload = c.in-Some.payload.now in
    let told = ap (identifier asked) (ap option_copied c.in-Some.is) ∙ ap (λ (b : Bool). if b then (NSID, option_with.NSID payload) ∷ [] else []) (asks_told (λ option. option.now) asked c.option.result _ c.option.ensures c.if-is_none.ensures) in
    let before = ap (λ o. o.options.items) c.options_mut.ensures.value ∙ c.requires in
    on_ok_weaker c.insert.result (λ put. named c.in_ok-copy.copy payload c.options_mut.result.now.options.items c.insert.new.self.options.items put before c.in_ok-copy.ensures.copy ∙ sym told) c.insert.ensures.ok
