use Rattle.std.proofs.Common.{◌≡◌, ◌∙◌, ap, sym, None}
use Rattle.std.specs.Prelude.{option_copied, option_map}
use Rattle.zst_handler.specs.dnw_name.DomainName.{lowercase_name}
use Rattle.zst_handler.specs.zst_record.RecordSets.{renamed}
use Rattle.zst_handler.specs.Found.{found}
use Rattle.zst_map.proofs.Searched.{third_found, wildcard_found}
use Rattle.zst_map.proofs.zone_sets.ZoneSets.find_unowned.Goals as goal

pub returns-in-Some : goal.returns-in-Some
returns-in-Some c =
    let zone = c.args.self.now in
    sym (ap (option_map (renamed (lowercase_name c.args.key.now))) (sym (ap option_copied c.in-Some.is) ∙ c.in_ok-set.ensures)
    ∙ wildcard_found zone c.args.key.now c.args.record_type ∙ sym (third_found zone c.args.key.now c.args.record_type c.requires.uncut c.requires.own))

-- No wildcard answers.
pub returns-in_ok-exists_given-in-Some-is_alike : goal.returns-in_ok-exists_given-in-Some-is_alike
returns-in_ok-exists_given-in-Some-is_alike c =
    let zone = c.args.self.now in
    let none : found zone c.args.key.now c.args.record_type ≡ None
    = sym (ap (option_map (renamed (lowercase_name c.args.key.now))) (sym (ap option_copied c.in_default.is) ∙ c.in_ok-set.ensures)
    ∙ wildcard_found zone c.args.key.now c.args.record_type ∙ sym (third_found zone c.args.key.now c.args.record_type c.requires.uncut c.requires.own)) in
    (none, c.in_ok-exists_given-in-Some-is_alike.ensures)

pub returns-in_ok-exists-in-None : goal.returns-in_ok-exists-in-None
returns-in_ok-exists-in-None c =
    let zone = c.args.self.now in
    let none : found zone c.args.key.now c.args.record_type ≡ None
    = sym (ap (option_map (renamed (lowercase_name c.args.key.now))) (sym (ap option_copied c.in_default.is) ∙ c.in_ok-set.ensures)
    ∙ wildcard_found zone c.args.key.now c.args.record_type ∙ sym (third_found zone c.args.key.now c.args.record_type c.requires.uncut c.requires.own)) in
    (none, c.in_ok-exists-in-None.ensures)
