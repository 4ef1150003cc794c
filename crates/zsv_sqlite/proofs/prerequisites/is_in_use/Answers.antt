use Rattle.std.proofs.Common.{◌∙◌, List, ap, sym}
use Rattle.std.specs.Prelude.{is_some}
use Rattle.zst_map.specs.zst_handler.Lookups.{sets_of_name}
use Rattle.zst_map.specs.zst_record.RecordSets.{RRset}
use Rattle.zsv_sqlite.proofs.Alike.{in_use_any, in_use_one, some_copied}
use Rattle.zsv_sqlite.proofs.prerequisites.is_in_use.Goals as goal

pub returns-then-asks_any : goal.returns-then-asks_any
returns-then-asks_any c =
    in_use_any c.args.zone.now.sets c.sets_at.result.now c.in_ok-key.key c.args.asked.now c.is_empty.result c.in_ok-key.ensures.key
    (c.sets_at.ensures ∙ ap (λ (sets : List RRset). sets_of_name sets c.in_ok-key.key) c.records.ensures)
    c.is_empty.ensures (sym c.asks_any.ensures ∙ c.if-asks_any.true)

pub returns : goal.returns
returns c =
    in_use_one c.args.zone.now.sets c.in_ok-key.key c.args.asked.now c.record_type.result c.is_some.result c.in_ok-key.ensures.key c.record_type.ensures
    (c.is_some.ensures ∙ sym (some_copied c.get_at.result) ∙ ap is_some c.get_at.ensures)
    (sym c.asks_any.ensures ∙ c.if-asks_any.false)
