use Rattle.zst_draft.proofs.DraftedZones.{new_zone}
use Rattle.zst_draft.proofs.zone.ZoneDraft.new.Goals as goal

pub returns : goal.returns
returns c = λ zone order stored. new_zone zone (record { owners = c.new.result }) c.new.ensures.empty order stored
