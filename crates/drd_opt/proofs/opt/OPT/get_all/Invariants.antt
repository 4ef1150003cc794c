use Rattle.std.proofs.Common.{◌≡◌, ◌++◌, length, map}
use Rattle.drd_opt.specs.Entries.{options_of}
use Rattle.drd_opt.proofs.opt.OPT.get_all.Given as goal

abbrev pub invariant-options : goal.invariant-options
invariant-options l = options_of l.code l.initial.left ≡ map (λ option. option.now) l.found.items ++ options_of l.code l.left

abbrev pub decreases-options : goal.decreases-options
decreases-options l = length l.left
