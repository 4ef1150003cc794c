use Rattle.std.proofs.Common.{◌≡◌, ◌∙◌, ap, sym, Option, List}
use Rattle.std.specs.Prelude.{Some, None, option_map}
use Rattle.zst_handler.specs.dnw_name.DomainName.{DomainName}
use Rattle.zst_handler.specs.zst_record.RecordSets.{RRset}
use Rattle.zst_map.proofs.Kept.{nearest_as}
use Rattle.zst_map.proofs.map.ZoneMap.nearest.Goals as goal

abbrev the_pair : DomainName → List RRset → Option (DomainName × List RRset)
the_pair owner own = Some (owner, own)

named : {owner : DomainName} {a b : List RRset} → a ≡ b → the_pair owner a ≡ the_pair owner b
named e = ap (the_pair _) e

pub returns-in_default : goal.returns-in_default
returns-in_default c =
    nearest_as c.self.inside.nodes c.self.inside.owners c.self.invariant c.args.self.now c.self.view_is c.args.key.now None
    (sym (ap (option_map (λ p. (p.0.now, p.1.now))) c.in_default.is) ∙ c.in_ok-owner.ensures)

pub returns : goal.returns
returns c =
    named c.sets_at-sets.ensures
    ∙ nearest_as c.self.inside.nodes c.self.inside.owners c.self.invariant c.args.self.now c.self.view_is c.args.key.now (Some (c.in-Some.owner.now, c.in-Some.field-0-1.now))
    (sym (ap (option_map (λ p. (p.0.now, p.1.now))) c.in-Some.is) ∙ c.in_ok-owner.ensures)
