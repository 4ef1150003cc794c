use Rattle.std.proofs.Common.{◌≡◌, ◌∙◌, ◌==◌, List, sym, ap}
use Rattle.std.specs.List.{list_any}
use Rattle.std.proofs.lemmas.List.{map-id}
use Rattle.std.specs.Slice.Iter.{iter_rest}
use Rattle.std.specs.Iterator.Adapters.{copied_source}
use Rattle.std.proofs.lemmas.Iterator.{items_from_drains, YieldsList-from_slice}
use Rattle.std.proofs.lemmas.Iterator.Consumers.{YieldsList-from_copied}
use Rattle.dnw_wire.specs.dnw_codes.RecordType.{record_type_number}
use Rattle.dnw_wire.specs.dnw_codes.declared.record_type.RecordType.{RecordType}
use Rattle.drd_csync.proofs.Words.{if_ok}
use Rattle.drd_csync.proofs.types.set_of.Goals as goal

pub returns : goal.returns
returns c =
    if_ok c.new.result (λ set found.
    let same : found.0 ≡ c.args.types.now = sym (map-id found.0) ∙ items_from_drains {s = c.copied.result} found.0 (found.1.1.0, found.1.1.1, λ done. (found.1.0, found.1.1.2)) (YieldsList-from_copied {s = c.copied.result} (YieldsList-from_slice {s = copied_source c.copied.result} c.args.types.now (ap iter_rest c.copied.ensures.source ∙ c.iter.ensures.rest))) in
    record { same = λ code. found.2 code ∙ ap (λ (ts : List RecordType). list_any (λ t. record_type_number t == code) ts) same })
    c.new.ensures
