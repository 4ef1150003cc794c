use Rattle.std.proofs.Common.{drop}
use Rattle.authority_handle.specs.Sources.{AreNetworks, RefusesFirst}
use Rattle.authority_handle.specs.declared.refusal.Refusal.{Refusal}
use Rattle.authority_handle.proofs.sources.check.Given as goal

-- What holds of the networks from here on holds of all.
abbrev pub invariant-networks : goal.invariant-networks
invariant-networks l =
    ((refusal : Refusal) → RefusesFirst (drop l.network-index l.networks) refusal → RefusesFirst l.networks refusal)
    × (AreNetworks (drop l.network-index l.networks) → AreNetworks l.networks)
