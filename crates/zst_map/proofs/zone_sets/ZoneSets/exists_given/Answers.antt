use Rattle.std.proofs.Common.{◌≡◌, ◌∙◌, ap, sym, List}
use Rattle.std.specs.Prelude.{false}
use Rattle.zst_handler.specs.zst_record.RecordSets.{RRset}
use Rattle.zst_key.specs.Ancestors.{other_flag}
use Rattle.zst_handler.specs.Zones.{exists_in}
use Rattle.zst_map.specs.ZoneMaps.{exists_alike}
use Rattle.zst_map.proofs.Indexed.{none_relative}
use Rattle.zst_map.proofs.Names.{exists_either, one_exists, other_exists}
use Rattle.zst_map.proofs.zone_sets.ZoneSets.exists_given.Goals as goal

pub returns-then-is_alike : goal.returns-then-is_alike
returns-then-is_alike c =
    let zone = c.args.self.now in
    let key = c.args.key.now in
    sym (exists_either zone key ∙ one_exists (exists_alike zone key) (exists_alike zone (other_flag key)) (sym c.requires ∙ c.if-is_alike.true))

pub returns-then-not-self : goal.returns-then-not-self
returns-then-not-self c =
    let zone = c.self.inside.sets in
    let key = c.args.key.now in
    let alike : exists_alike zone key ≡ false = ap (λ (sets : List RRset). exists_alike sets key) c.self.view_is ∙ sym c.requires ∙ c.if-is_alike.false in
    sym (exists_either zone key ∙ other_exists (exists_alike zone key) (exists_alike zone (other_flag key)) alike
    ∙ none_relative zone key (sym c.if-is_fqdn.ensures) (c.self.invariant.absolute c.if-not-self.true))
    ∙ ap (λ (sets : List RRset). exists_in sets key) c.self.view_is

pub returns : goal.returns
returns c =
    let zone = c.self.inside.sets in
    let key = c.args.key.now in
    let alike : exists_alike zone key ≡ false = ap (λ (sets : List RRset). exists_alike sets key) c.self.view_is ∙ sym c.requires ∙ c.if-is_alike.false in
    c.place_at.ensures.exists_is ∙ ap (exists_alike zone) (c.to_other_flag.ensures ∙ ap other_flag c.in_ok-other.ensures.cases)
    ∙ sym (exists_either zone key ∙ other_exists (exists_alike zone key) (exists_alike zone (other_flag key)) alike)
    ∙ ap (λ (sets : List RRset). exists_in sets key) c.self.view_is
