use Rattle.std.proofs.Common.{ℕ, List, Vec, Global, ◌∙◌, subst}
use Rattle.drd_fields.specs.FieldLaws.{strings_more}
use Rattle.drd_fields.specs.Fields.{StringAt}
use Rattle.drd_fields.proofs.strings.strings_before.Goals as goal

pub strings-preserved : goal.strings-preserved
strings-preserved c =
    let last : StringAt c.args.decoder.now.octets c.strings.decoder.index c.in_ok-string.string.items c.read_string_within.new.decoder.index =
    subst (λ (o : List ℕ). StringAt o c.strings.decoder.index c.in_ok-string.string.items c.read_string_within.new.decoder.index) c.strings.invariant.same c.in_ok-string.ensures.ok in
    record {
      read = strings_more (λ (s : Vec ℕ Global). s.items) c.args.decoder.now.octets c.args.decoder.now.index c.strings.strings.items c.strings.decoder.index c.in_ok-string.string c.push.new.self.items c.read_string_within.new.decoder.index c.strings.invariant.read last c.in-Ok.ensures.items;
      same = c.read_string_within.ensures.same ∙ c.strings.invariant.same;
      below = c.in_ok-string.ensures.within;
    }
