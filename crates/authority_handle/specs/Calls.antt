-- The calls from other languages: octets and numbers in, octets and numbers out.
use Rattle.std.specs.Prelude.{◌≡◌, ◌==◌, if◌then◌else◌, ◌<◌, ◌≤◌, ◌≢◌, ◌⊎◌, ℕ, suc, zero, ℤ, pos, Bool, true, false, List, [], ◌∷◌, drop, length, take, Option, Some, None, IsSome}
use Rattle.std.specs.Str.{IsUtf8}
use Rattle.std.specs.declared.net.SocketAddr.{SocketAddr}
use Rattle.authority_handle.specs.Blocklists.{IsBlocklist, RefusesBlocklist}
use Rattle.authority_handle.specs.Refusals.{Changes, code_of}
use Rattle.authority_handle.specs.Sources.{AddsNetworks, IsNoAddress, IsSource, RefusesNetworks}
use Rattle.authority_handle.specs.declared.blocklists.BlocklistSettings.{BlocklistSettings}
use Rattle.authority_handle.specs.declared.refusal.Refusal.{Refusal}
use Rattle.authority_handle.specs.declared.refusal.Refusal.TheVariants as refusals
use Rattle.authority_handle.specs.declared.sources.Network.{Network}
use Rattle.authority_load.specs.ZoneText.{IsLoadFault, IsOwnerText, IsZoneText}
use Rattle.authority_load.specs.declared.loader.LoadCause.TheVariants as causes
use Rattle.authority_load.specs.zst_zone.zst_codes.declared.settings.AxfrPolicy.TheVariants as policies
use Rattle.authority_load.specs.zst_zone.zst_codes.declared.settings.ZoneType.{ZoneType}
use Rattle.authority_load.specs.zst_zone.zst_codes.declared.settings.ZoneType.TheVariants as kinds
use Rattle.authority_load.specs.zst_zone.zst_handler.Zones.{Zone}
use Rattle.authority_server.specs.Servers.{with_zones, without_zones}
use Rattle.authority_server.specs.Serving.{Received, Refuses, Serves, World}
use Rattle.authority_server.specs.declared.server.ServeError.{ServeError}
use Rattle.authority_server.specs.zsv_access.Access.{no_networks}
use Rattle.authority_server.specs.zsv_access.declared.access.AccessControl.{AccessControl}
use Rattle.authority_server.specs.zsv_catalog.Chains.{chain_at}
use Rattle.authority_server.specs.zsv_catalog.ReadingBack.{ViewReadsBack}
use Rattle.authority_server.specs.zsv_catalog.zsv_answer.zst_request.Views.{Blocked, Blocklist, Stored}
use Rattle.authority_server.specs.zsv_catalog.zsv_answer.zst_request.dnw_name.DomainName.{DomainName, lowercase_name}
use Rattle.authority_server.specs.zsv_catalog.zsv_answer.zsv_request.declared.protocol.Protocol.{Protocol}
use Rattle.authority_server.specs.zsv_catalog.zsv_answer.zsv_request.declared.protocol.Protocol.TheVariants as transports

-- ---- names
-- Why a text isn't read as a fully qualified name.
abbrev pub RefusesName : List ℕ → Refusal → Type 0
RefusesName text refusals.OutOfMemory = Unit {0}
RefusesName text refusals.WrongName = (name : DomainName) → IsOwnerText text name → ⊥
RefusesName text other = ⊥

-- ---- zones
-- The zone types by number.
abbrev pub kind_of : ℕ → Option ZoneType
kind_of number =
    if number == 0 then Some kinds.Primary
    else (if number == 1 then Some kinds.Secondary
    else (if number == 2 then Some kinds.External else None))

-- An empty zone. It is not transferred, and has no proofs of nonexistence.
abbrev pub bare_zone : DomainName → ZoneType → Zone
bare_zone name kind =
    record {
      origin = name;
      zone_type = kind;
      axfr_policy = policies.Deny;
      nx_proof_kind = None;
      guard = None;
      sets = [];
    }

-- A zone of this type, origin and text.
pub record IsZoneOf (kind : ℕ) (origin text : List ℕ) (name : DomainName) (zone : Zone)
    : Type 0 where
  pub zone_type : ZoneType
  pub of_kind : kind_of kind ≡ Some zone_type
  pub named : IsOwnerText origin name
  pub utf8 : IsUtf8 text
  pub loaded : IsZoneText (bare_zone name zone_type) text zone

-- Why a zone text is refused: at a line.
abbrev pub RefusesLoad : DomainName → ZoneType → List ℕ → Refusal → Type 0
RefusesLoad name kind text refusals.OutOfMemory = Unit {0}
RefusesLoad name kind text (refusals.Line error) =
    (error.cause ≢ causes.OutOfMemory) × IsLoadFault (bare_zone name kind) text error
RefusesLoad name kind text other = ⊥

-- Why a zone is refused: an unknown type; a text that isn't UTF-8; an origin that isn't a fully
-- qualified name; a line of the text. The first of these is returned.
abbrev pub RefusesZone : ℕ → List ℕ → List ℕ → Refusal → Type 0
RefusesZone kind origin text refusals.OutOfMemory = IsSome (kind_of kind) × IsUtf8 text
RefusesZone kind origin text refusals.WrongSetting = kind_of kind ≡ None
RefusesZone kind origin text refusals.WrongText =
    IsSome (kind_of kind) × (IsUtf8 text → ⊥)
RefusesZone kind origin text refusals.WrongName =
    IsSome (kind_of kind) × IsUtf8 text × ((name : DomainName) → IsOwnerText origin name → ⊥)
RefusesZone kind origin text (refusals.Line error) =
    (name : DomainName) × (zone_type : ZoneType) × (kind_of kind ≡ Some zone_type)
    × IsUtf8 text × IsOwnerText origin name × RefusesLoad name zone_type text (refusals.Line error)
RefusesZone kind origin text other = ⊥

-- The zone replaces the chain of its name.
abbrev pub PutsZone : World → ℕ → List ℕ → List ℕ → World → Type 0
PutsZone old kind origin text new =
    (name : DomainName) × (zone : Zone) × IsZoneOf kind origin text name zone
    × ViewReadsBack (Stored zone) × (new ≡ with_zones old name (Stored zone ∷ []))

abbrev pub AddsZone : World → ℕ → List ℕ → List ℕ → ℤ → World → Type 0
AddsZone old kind origin text result new =
    Changes old new result (PutsZone old kind origin text new) (RefusesZone kind origin text)

-- ---- blocklists
-- The blocklist replaces the chain of its name.
abbrev pub PutsBlocklist : World → BlocklistSettings → List ℕ → List ℕ → List ℕ → World → Type 0
PutsBlocklist old settings name text message new =
    (list : Blocklist) × IsBlocklist settings name text message list
    × (new ≡ with_zones old list.origin (Blocked list ∷ []))

abbrev pub AddsBlocklist : World → BlocklistSettings → List ℕ → List ℕ → List ℕ → ℤ → World
    → Type 0
AddsBlocklist old settings name text message result new =
    Changes old new result (PutsBlocklist old settings name text message new)
    (RefusesBlocklist settings name text message)

-- ---- removing
-- The chain of a name is removed.
abbrev pub TakesOut : World → List ℕ → World → Type 0
TakesOut old text new =
    (name : DomainName) × IsOwnerText text name
    × IsSome (chain_at old.chains (lowercase_name name))
    × (new ≡ without_zones old name)

-- Why a removal is refused: the text isn't a fully qualified name, or the name has no chain.
abbrev pub RefusesRemoval : World → List ℕ → Refusal → Type 0
RefusesRemoval old text refusals.NotFound =
    (name : DomainName) × IsOwnerText text name
    × (chain_at old.chains (lowercase_name name) ≡ None)
RefusesRemoval old text other = RefusesName text other

abbrev pub Removes : World → List ℕ → ℤ → World → Type 0
Removes old text result new =
    Changes old new result (TakesOut old text new) (RefusesRemoval old text)

-- ---- the access list
-- These networks replace the access list.
abbrev pub TellsAccess : World → List Network → World → Type 0
TellsAccess old networks new =
    (access : AccessControl) × AddsNetworks no_networks networks access
    × (new ≡ record old { access = access })

abbrev pub SetsAccess : World → List Network → ℤ → World → Type 0
SetsAccess old networks result new =
    Changes old new result (TellsAccess old networks new) (RefusesNetworks networks)

-- ---- the NSID (RFC 5001)
-- The NSID; none if there are no octets.
abbrev pub nsid_of : List ℕ → Option (List ℕ)
nsid_of [] = None
nsid_of (octet ∷ octets) = Some (octet ∷ octets)

-- Why an NSID is refused: OPT RDATA has at most 65,535 octets, and the option's code and length
-- take four of them.
abbrev pub RefusesNsid : List ℕ → Refusal → Type 0
RefusesNsid octets refusals.OutOfMemory = (0 < length octets) × (length octets ≤ 65531)
RefusesNsid octets refusals.TooLong = 65531 < length octets
RefusesNsid octets other = ⊥

abbrev pub SetsNsid : World → List ℕ → ℤ → World → Type 0
SetsNsid old octets result new =
    Changes old new result (new ≡ record old { nsid = nsid_of octets }) (RefusesNsid octets)

-- ---- a message
-- The transport.
abbrev pub transport_of : Bool → Protocol
transport_of true = transports.Tcp
transport_of false = transports.Udp

-- Octets that don't fit a buffer: there are more of them, or none.
abbrev pub IsUnfit : List ℕ → ℕ → Type 0
IsUnfit octets room = (octets ≡ []) ⊎ (room < length octets)

-- Octets at the start of a buffer, and their count.
pub record StandsIn (octets buffer : List ℕ) (count : ℕ) : Type 0 where
  pub some : octets ≡ [] → ⊥
  pub counted : count ≡ length octets
  pub front : take count buffer ≡ octets

-- The reply at the start of a buffer, by its length; none if that is 0.
abbrev pub reply_of : ℕ → List ℕ → Option (List ℕ)
reply_of zero buffer = None
reply_of (suc n) buffer = Some (take (suc n) buffer)

-- A message from a source.
abbrev pub received_from : List ℕ → SocketAddr → Bool → ℕ → Received
received_from message source stream now = record {
  message = message;
  source = source;
  transport = transport_of stream;
  now = now;
}

-- A message from this address and port is served.
abbrev pub ServesFrom : World → List ℕ → List ℕ → ℕ → Bool → ℕ → Option (List ℕ) → World → Type 0
ServesFrom old message address port stream now reply new =
    (source : SocketAddr) × IsSource address port source
    × Serves old (received_from message source stream now) reply new

-- Why a message isn't served: out of memory, a reply that doesn't fit the buffer, or an address of
-- neither 4 nor 16 octets.
abbrev pub RefusesMessage : World → List ℕ → List ℕ → ℕ → Bool → ℕ → ℕ → Refusal → World → Type 0
RefusesMessage old message address port stream now room refusals.OutOfMemory new =
    (source : SocketAddr) × IsSource address port source
    × (e : ServeError) × Refuses old (received_from message source stream now) e new
RefusesMessage old message address port stream now room refusals.NoRoom new =
    (reply : List ℕ) × ServesFrom old message address port stream now (Some reply) new
    × IsUnfit reply room
RefusesMessage old message address port stream now room refusals.WrongAddress new =
    IsNoAddress address × (new ≡ old)
RefusesMessage old message address port stream now room other new = ⊥

-- A reply of a length is at the start of a buffer, whose other octets are as before.
pub record FillsStart (n : ℕ) (before after : List ℕ) : Type 0 where
  pub within : n ≤ length after
  pub rest : drop n after ≡ drop n before

-- A message is served, and the result is the length of the reply at the start of the buffer; or it
-- is refused, and the buffer is as before.
abbrev pub ServesInto : World → List ℕ → List ℕ → ℕ → Bool → ℕ → List ℕ → ℤ → List ℕ → World
    → Type 0
ServesInto old message address port stream now before result after new =
    ((n : ℕ) × (result ≡ pos n) × FillsStart n before after
    × ServesFrom old message address port stream now (reply_of n after) new)
    ⊎ ((refusal : Refusal) × (result ≡ code_of refusal) × (after ≡ before)
    × RefusesMessage old message address port stream now (length after) refusal new)
