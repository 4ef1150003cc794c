-- Blocklists as octets and numbers.
use Rattle.std.specs.Prelude.{◌≡◌, ◌==◌, if◌then◌else◌, ◌<◌, ◌≤◌, ◌^◌, ◌⊎◌, ℕ, List, [], ◌∷◌, length, Option, Some, None, IsSome}
use Rattle.std.specs.Str.{IsUtf8}
use Rattle.std.specs.Net.Addr.{ipv4_octets, ipv6_segments, segments_of}
use Rattle.std.specs.declared.net.ipv4_addr.Ipv4Addr.{Ipv4Addr}
use Rattle.std.specs.declared.net.ipv6_addr.Ipv6Addr.{Ipv6Addr}
use Rattle.authority_handle.specs.declared.blocklists.BlocklistSettings.{BlocklistSettings}
use Rattle.authority_handle.specs.declared.refusal.Refusal.{Refusal}
use Rattle.authority_handle.specs.declared.refusal.Refusal.TheVariants as refusals
use Rattle.authority_load.specs.ZoneText.{IsOwnerText}
use Rattle.authority_server.specs.zsv_catalog.zsv_answer.zst_request.Views.{Blocklist}
use Rattle.authority_server.specs.zsv_catalog.zsv_answer.zst_request.declared.blocklist.BlocklistConsultAction.{BlocklistConsultAction}
use Rattle.authority_server.specs.zsv_catalog.zsv_answer.zst_request.declared.blocklist.BlocklistConsultAction.TheVariants as actions
use Rattle.authority_server.specs.zsv_catalog.zsv_answer.zst_request.dnw_name.DomainName.{DomainName}
use Rattle.zsv_blocklist.specs.Blocklists.{blocklist_of}
use Rattle.zsv_blocklist.specs.declared.config.BlocklistConfig.{BlocklistConfig}
use Rattle.zsv_blocklist.specs.zsv_blocked.BlockedNames.{AddsListed}

-- The consult actions by number.
abbrev pub action_of : ℕ → Option BlocklistConsultAction
action_of number =
    if number == 0 then Some actions.Disabled
    else (if number == 1 then Some actions.Enforce
    else (if number == 2 then Some actions.Log else None))

-- The message; none if it is empty.
abbrev pub message_of : List ℕ → Option (List ℕ)
message_of [] = None
message_of (octet ∷ octets) = Some (octet ∷ octets)

-- A blocklist has these settings.
pub record HasSettings (settings : BlocklistSettings) (message : List ℕ) (list : Blocklist)
    : Type 0 where
  pub wildcard_match : list.wildcard_match ≡ settings.wildcard_match
  pub min_wildcard_depth : list.min_wildcard_depth ≡ settings.min_wildcard_depth
  pub ipv4 : (address : Ipv4Addr) × (list.sinkhole_ipv4 ≡ Some address)
      × (ipv4_octets address ≡ settings.sinkhole_ipv4)
  pub ipv6 : (address : Ipv6Addr) × (list.sinkhole_ipv6 ≡ Some address)
      × (ipv6_segments address ≡ segments_of settings.sinkhole_ipv6)
  pub ttl : list.ttl ≡ settings.ttl
  pub block_message : list.block_message ≡ message_of message
  pub consult_action : action_of settings.action ≡ Some list.consult_action

-- A blocklist of the names in a text.
abbrev pub IsListOf : DomainName → BlocklistConfig → List ℕ → Blocklist → Type 0
IsListOf origin config text list =
    (names : List DomainName) × AddsListed [] text names × (list ≡ blocklist_of origin names config)

-- A blocklist of this origin, text, message and settings.
pub record IsBlocklist (settings : BlocklistSettings) (name text message : List ℕ)
    (list : Blocklist) : Type 0 where
  pub named : IsOwnerText name list.origin
  pub utf8 : IsUtf8 text
  pub short : length text < 2 ^ 32
  pub names : AddsListed [] text list.names
  pub message_utf8 : IsUtf8 message
  pub fits : length message ≤ 255
  pub has : HasSettings settings message list

-- Why a blocklist is refused: an unknown action; a message or text that is too long; a text or
-- message that isn't UTF-8; an origin that isn't a fully qualified name. The first of these is
-- returned.
abbrev pub RefusesBlocklist : BlocklistSettings → List ℕ → List ℕ → List ℕ → Refusal → Type 0
RefusesBlocklist settings name text message refusals.OutOfMemory =
    IsSome (action_of settings.action) × (length message ≤ 255) × (length text < 2 ^ 32)
    × IsUtf8 text × IsUtf8 message
RefusesBlocklist settings name text message refusals.WrongSetting = action_of settings.action ≡ None
RefusesBlocklist settings name text message refusals.TooLong =
    IsSome (action_of settings.action) × ((255 < length message) ⊎ (2 ^ 32 ≤ length text))
RefusesBlocklist settings name text message refusals.WrongText =
    IsSome (action_of settings.action) × (length message ≤ 255) × (length text < 2 ^ 32)
    × ((IsUtf8 text × IsUtf8 message) → ⊥)
RefusesBlocklist settings name text message refusals.WrongName =
    IsSome (action_of settings.action) × (length message ≤ 255) × (length text < 2 ^ 32)
    × IsUtf8 text × IsUtf8 message × ((origin : DomainName) → IsOwnerText name origin → ⊥)
RefusesBlocklist settings name text message other = ⊥
