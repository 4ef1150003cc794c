use Rattle.std.proofs.Common.{inl, refl, subst}
use Rattle.std.specs.Str.Lines.{lines}
use Rattle.zst_zone.specs.zst_handler.Zones.{empty_zone}
use Rattle.authority_load.specs.ZoneText.{IsRefusedAt, Loads}
use Rattle.authority_load.proofs.Loads.{loads_keep, loads_loaded, loads_read_back}
use Rattle.authority_load.proofs.loader.load_stored.Goals as goal

pub returns-in-Err-load_lines-clause-answers : goal.returns-in-Err-load_lines-clause-answers
returns-in-Err-load_lines-clause-answers c =
    inl (subst (λ z. IsRefusedAt z c.args.text.now c.in-Err-load_lines.error.line c.in-Err-load_lines.error.cause) c.in-Ok.ensures c.in-Err-load_lines.ensures.refused)

pub returns-in-Ok-load_lines-clause-answers : goal.returns-in-Ok-load_lines-clause-answers
returns-in-Ok-load_lines-clause-answers c =
    subst (λ z. Loads z (lines c.args.text.now) c.load_lines.new.zone) c.in-Ok.ensures c.in-Ok-load_lines.ensures.loads

pub returns-in-Ok-load_lines-clause-settings : goal.returns-in-Ok-load_lines-clause-settings
returns-in-Ok-load_lines-clause-settings c =
    loads_keep (empty_zone c.args.origin c.args.settings) (lines c.args.text.now) c.load_lines.new.zone
    (subst (λ z. Loads z (lines c.args.text.now) c.load_lines.new.zone) c.in-Ok.ensures c.in-Ok-load_lines.ensures.loads)

pub returns-in-Ok-load_lines-clause-reads_back : goal.returns-in-Ok-load_lines-clause-reads_back
returns-in-Ok-load_lines-clause-reads_back c =
    loads_read_back (empty_zone c.args.origin c.args.settings) (lines c.args.text.now) c.load_lines.new.zone
    (subst (λ z. Loads z (lines c.args.text.now) c.load_lines.new.zone) c.in-Ok.ensures c.in-Ok-load_lines.ensures.loads) tt

pub returns-in-Ok-load_lines-clause-loaded : goal.returns-in-Ok-load_lines-clause-loaded
returns-in-Ok-load_lines-clause-loaded c =
    loads_loaded (empty_zone c.args.origin c.args.settings) (lines c.args.text.now) c.load_lines.new.zone refl
    (subst (λ z. Loads z (lines c.args.text.now) c.load_lines.new.zone) c.in-Ok.ensures c.in-Ok-load_lines.ensures.loads)
    c.origin-origin.ensures.ordered c.origin-origin.ensures.stored
