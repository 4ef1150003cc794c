use Rattle.std.proofs.Common.{◌∙◌, sym, ap, Some, is_some}
use Rattle.std.specs.Prelude.{Bool, cond}
use Rattle.std.specs.BTreeMap.{BTreeMap, Updates, get}
use Rattle.std.proofs.lemmas.Result.{on_ok_weaker}
use Rattle.zst_handler.specs.dnw_name.DomainName.{DomainName, name_cmp}
use Rattle.zst_handler.specs.dnw_name.NameOrderLaws.{name_eq-by_cmp}
use Rattle.zst_handler.specs.zst_record.RecordLaws.{name_eq_equiv}
use Rattle.zst_map.specs.Indexes.{HasName}
use Rattle.zst_map.proofs.index.put.Goals as goal

-- A key that was inserted is there for each name that equals it.
inserted : (old new : BTreeMap DomainName (Unit {0})) (key : DomainName) → Updates name_cmp old new key (Some tt) → HasName new key
inserted old new key updates name e =
    ap is_some (updates.0 name)
    ∙ ap (λ (b : Bool). is_some (cond b (Some tt) (get name_cmp old name)))
    (sym (name_eq-by_cmp key name) ∙ sym (name_eq_equiv.symm name key) ∙ e)

pub returns-clause-there : goal.returns-clause-there
returns-clause-there c =
    on_ok_weaker c.insert_key.result
    (λ updates. rw (← c.in_ok-clone.ensures.cases) (inserted c.args.names.now c.insert_key.new.keys c.in_ok-clone.field-0 updates))
    c.insert_key.ensures.updates
