-- What a handler means: a zone that is stored, or names that are blocked.
use Rattle.std.specs.Prelude.{ℕ, Bool, List, Option, Some, None}
use Rattle.std.specs.declared.net.ipv4_addr.Ipv4Addr.{Ipv4Addr}
use Rattle.std.specs.declared.net.ipv6_addr.Ipv6Addr.{Ipv6Addr}
use Rattle.zst_codes.specs.declared.nx_proof.NxProofKind.{NxProofKind}
use Rattle.zst_codes.specs.declared.settings.AxfrPolicy.{AxfrPolicy}
use Rattle.zst_codes.specs.declared.settings.AxfrPolicy.TheVariants.{Deny}
use Rattle.zst_codes.specs.declared.settings.ZoneType.{ZoneType}
use Rattle.zst_codes.specs.declared.settings.ZoneType.TheVariants.{External}
use Rattle.zst_denial.specs.dnw_name.DomainName.{DomainName}
use Rattle.zst_denial.specs.zst_handler.Zones.{Guard, Zone}
use Rattle.zst_request.specs.declared.blocklist.BlocklistConsultAction.{BlocklistConsultAction}

-- A list of names that are blocked, and its settings: whether a wildcard among the names stands for
-- those below it, and over how many labels at least; the addresses that are answered in place of a
-- blocked host's, if they aren't all zeros, how long they may be kept, and a message that goes with
-- them; whether other handlers' answers give way.
pub record Blocklist : Type 0 where
  pub origin : DomainName
  pub names : List DomainName
  pub wildcard_match : Bool
  pub min_wildcard_depth : ℕ
  pub sinkhole_ipv4 : Option Ipv4Addr
  pub sinkhole_ipv6 : Option Ipv6Addr
  pub ttl : ℕ
  pub block_message : Option (List ℕ)
  pub consult_action : BlocklistConsultAction

pub data View : Type 0 where
  Stored : Zone → View
  Blocked : Blocklist → View

abbrev pub origin_of : View → DomainName
origin_of (Stored zone) = zone.origin
origin_of (Blocked blocklist) = blocklist.origin

-- Blocked names are another server's.
abbrev pub zone_type_of : View → ZoneType
zone_type_of (Stored zone) = zone.zone_type
zone_type_of (Blocked blocklist) = External

-- A guard's policy is asked first, then the zone's own.
abbrev pub outer_policy : AxfrPolicy → Option Guard → AxfrPolicy
outer_policy own None = own
outer_policy own (Some guard) = guard.axfr_policy

-- Nobody may transfer a list of them.
abbrev pub axfr_policy_of : View → AxfrPolicy
axfr_policy_of (Stored zone) = outer_policy zone.axfr_policy zone.guard
axfr_policy_of (Blocked blocklist) = Deny

abbrev pub nx_proof_kind_of : View → Option NxProofKind
nx_proof_kind_of (Stored zone) = zone.nx_proof_kind
nx_proof_kind_of (Blocked blocklist) = None
