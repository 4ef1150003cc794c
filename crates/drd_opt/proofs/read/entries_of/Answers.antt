use Rattle.std.proofs.Common.{◌≡◌, ℕ, List, [], ◌∷◌, ◌++◌, subst, sym, ◌∙◌, rules}
use Rattle.drd_fields.specs.dnw_decoder.Octets.{Stands}
use Rattle.drd_opt.specs.Entries.{FitsLengths, raw_option, raw_octets}
use Rattle.drd_opt.specs.Reading.{HasRead}
use Rattle.drd_opt.proofs.ReadingLaws.{one_more}
use Rattle.drd_opt.proofs.read.entries_of.Goals as goal

pub options-preserved : goal.options-preserved
options-preserved c =
    let octets = c.args.octets.now in
    let found = c.in-Ok-Some.option in
    let was = c.options.decoder in
    let new = c.read_raw.new.decoder in
    let step : Stands was.octets was.index (raw_octets (raw_option found.0 found.1.now)) new.index × FitsLengths (raw_option found.0 found.1.now) = search rules in
    let there : Stands octets was.index (raw_octets (raw_option found.0 found.1.now)) new.index =
    subst (λ (o : List ℕ). Stands o was.index (raw_octets (raw_option found.0 found.1.now)) new.index) c.options.invariant.same step.0 in
    let pushed : c.push.new.self.items ≡ c.options.entries.items ++ c.in-Ok.entry ∷ [] = rw c.in-Ok-push.is at c.push.ensures.items in
    record {
      same = c.read_raw.ensures.same ∙ c.options.invariant.same;
      known = subst (HasRead octets new.index) (sym pushed) (one_more octets was.index c.options.entries.items (raw_option found.0 found.1.now) new.index c.in-Ok.entry c.options.invariant.known step.1 there c.in-Ok.ensures.ok);
    }
