use Rattle.std.proofs.Common.{drop}
use Rattle.authority_handle.specs.Sources.{AddsNetworks}
use Rattle.authority_server.specs.zsv_access.Access.{no_networks}
use Rattle.authority_server.specs.zsv_access.declared.access.AccessControl.{AccessControl}
use Rattle.authority_handle.proofs.sources.access_of.Given as goal

-- What is added from here on is added in all.
abbrev pub invariant-networks : goal.invariant-networks
invariant-networks l =
    (end : AccessControl) → AddsNetworks l.access (drop l.network-index l.networks) end → AddsNetworks no_networks l.networks end
