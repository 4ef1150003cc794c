-- Why networks are refused.
use Rattle.std.proofs.Common.{List, [], ◌∷◌, inl, inr}
use Rattle.authority_handle.specs.Sources.{RefusesFirst, RefusesNetworks}
use Rattle.authority_handle.specs.declared.refusal.Refusal.{Refusal}
use Rattle.authority_handle.specs.declared.refusal.Refusal.TheVariants as refusals
use Rattle.authority_handle.specs.declared.sources.Network.{Network}

-- No network is refused for being out of memory.
not_memory : (networks : List Network) → RefusesFirst networks refusals.OutOfMemory → ⊥
not_memory [] refused = refused
not_memory (network ∷ later) (inl refused) = refused
not_memory (network ∷ later) (inr refused) = not_memory later refused.1

pub refuses : (networks : List Network) (refusal : Refusal) → RefusesFirst networks refusal → RefusesNetworks networks refusal
refuses networks refusals.OutOfMemory refused = absurd (not_memory networks refused)
refuses networks refusals.NoRoom refused = refused
refuses networks refusals.WrongAddress refused = refused
refuses networks refusals.WrongName refused = refused
refuses networks refusals.WrongText refused = refused
refuses networks refusals.WrongSetting refused = refused
refuses networks refusals.TooLong refused = refused
refuses networks refusals.NotFound refused = refused
refuses networks (refusals.Line error) refused = refused
