use Rattle.std.proofs.Common.{◌∙◌, ◌++◌, ap}
use Rattle.std.specs.Prelude.{Option, option_to_list}
use Rattle.zst_circle.specs.dnw_name.DomainName.{DomainName}
use Rattle.zst_zone.proofs.SeenKeys.{moved}
use Rattle.zst_zone.proofs.seen.Seen.hash.Goals as goal

pub keys-preserved : goal.keys-preserved
keys-preserved c = λ k.
    moved c.keys.self.rising.items c.pop.new.self.items c.keys.self.hashed.keys c.put.new.keys.keys c.in-Some.key (c.pop.ensures.items ∙ ap (λ (key : Option DomainName). c.pop.new.self.items ++ option_to_list key) c.in-Some.is) c.in_ok-put.ensures.after k
    ∙ c.keys.invariant k
