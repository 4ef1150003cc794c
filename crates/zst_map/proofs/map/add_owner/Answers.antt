use Rattle.std.proofs.Common.{◌∙◌, ap, sym}
use Rattle.std.specs.Prelude.{Bool, Some, cond}
use Rattle.std.specs.BTreeMap.{get}
use Rattle.std.proofs.lemmas.Result.{on_ok_weaker}
use Rattle.zst_handler.specs.dnw_name.DomainName.{DomainName, name_cmp, name_eq}
use Rattle.zst_handler.specs.dnw_name.NameOrderLaws.{name_eq-by_cmp}
use Rattle.zst_map.proofs.map.add_owner.Goals as goal

pub returns-clause-owners : goal.returns-clause-owners
returns-clause-owners c =
    on_ok_weaker c.insert_key.result
    (λ updates name. updates.0 name
    ∙ ap (λ (b : Bool). cond b (Some tt) (get name_cmp c.args.owners.now name)) (sym (name_eq-by_cmp c.in_ok-clone.field-0 name))
    ∙ ap (λ (k : DomainName). cond (name_eq k name) (Some tt) (get name_cmp c.args.owners.now name)) c.in_ok-clone.ensures.cases)
    c.insert_key.ensures.updates
