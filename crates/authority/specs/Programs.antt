-- What the program does with its words, its zone's file and its input.
use Rattle.std.specs.Prelude.{◌≡◌, ℕ, ◌⊎◌, false, List, [], ◌∷◌, Option, Some, None, Result, Ok, Err}
use Rattle.std.specs.Io.KnownBytes.{IsAtEnd}
use Rattle.std.specs.Net.Addr.{ipv4_octets}
use Rattle.std.specs.Net.Socket.{socket_ip, socket_port}
use Rattle.std.specs.declared.net.Ipv4Addr.{Ipv4Addr}
use Rattle.std.specs.declared.net.IpAddr.TheVariants as addresses
use Rattle.std.specs.declared.net.SocketAddr.{SocketAddr}
use Rattle.authority_transfer.specs.authority_load.declared.text.TextError.{TextError}
use Rattle.authority_transfer.specs.authority_load.declared.text.TextError.TheVariants as texts
use Rattle.authority.specs.declared.program.Fault.{Fault}
use Rattle.authority.specs.declared.program.Fault.TheVariants as faults
use Rattle.authority_server.specs.declared.stream.StreamError.{StreamError}
use Rattle.authority_server.specs.declared.stream.StreamError.TheVariants as streams
use Rattle.authority_transfer.specs.authority_load.zst_zone.zst_codes.declared.settings.ZoneType.TheVariants as kinds
use Rattle.authority_transfer.specs.authority_load.zst_zone.zst_codes.declared.settings.AxfrPolicy.TheVariants as policies
use Rattle.authority_server.specs.Servers.{no_zones, with_zones}
use Rattle.authority_server.specs.Serving.{World}
use Rattle.authority_server.specs.zsv_catalog.ReadingBack.{ViewReadsBack}
use Rattle.authority_server.specs.zsv_catalog.zsv_answer.zst_request.Views.{Stored}
use Rattle.authority_server.specs.zsv_catalog.zsv_answer.zst_request.dnw_name.DomainName.{DomainName}
use Rattle.authority_server.specs.zsv_catalog.zsv_update.Keys.{no_keys}
use Rattle.authority_transfer.specs.authority_load.zst_zone.zst_handler.Zones.{Zone}
use Rattle.authority_transfer.specs.authority_load.ZoneText.{IsOwnerText, IsNumberText, IsZoneText, IsLoadFault}
use Rattle.authority_server.specs.Frames.{ServesFrames, ServesUntil}

-- Three words: an origin that ends at the root, a file, and a moment of 64 bits.
pub record AreWords (words : List (List ℕ)) (origin : DomainName) (now : ℕ) : Type 0 where
  pub origin_word : List ℕ
  pub file : List ℕ
  pub now_word : List ℕ
  pub spelled : words ≡ origin_word ∷ file ∷ now_word ∷ []
  pub origin_text : IsOwnerText origin_word origin
  pub now_text : IsNumberText 64 now_word now

-- The zone that the program begins with: kept here, transferred to everybody, without proofs of
-- absence or records.
abbrev pub first_zone : DomainName → Zone
first_zone name =
    record {
      origin = name;
      zone_type = kinds.Primary;
      axfr_policy = policies.AllowAll;
      nx_proof_kind = None;
      guard = None;
      sets = [];
    }

-- The words are right, and the file is the text of a zone, all of whose records can be read back.
pub record Starts (words : List (List ℕ)) (file : Option (List ℕ)) : Type 0 where
  pub origin : DomainName
  pub now : ℕ
  pub text : List ℕ
  pub zone : Zone
  pub right_words : AreWords words origin now
  pub readable : file ≡ Some text
  pub loaded : IsZoneText (first_zone origin) text zone
  pub reads_back : ViewReadsBack (Stored zone)

-- The server of the program: the zone alone, under its own name, for every address, without keys.
abbrev pub one_zone : Zone → World
one_zone zone = with_zones (no_zones no_keys) zone.origin (Stored zone ∷ [])

-- Each message counts as sent from 127.0.0.1, port 53.
pub record IsLoopback (source : SocketAddr) : Type 0 where
  pub address : Ipv4Addr
  pub ip : socket_ip source ≡ addresses.V4 address
  pub octets : ipv4_octets address ≡ 127 ∷ 0 ∷ 0 ∷ 1 ∷ []
  pub port : socket_port source ≡ 53

-- It started, and served the frames of its input over that zone, up to the input's end; the zone is
-- as before.
pub record Finishes (words : List (List ℕ))
    (file left rest before after : Option (List ℕ)) : Type 0 where
  pub starts : Starts words file
  pub source : SocketAddr
  pub from_here : IsLoopback source
  pub frames : ServesFrames (one_zone starts.zone) source starts.now left rest before after
      (one_zone starts.zone)
  pub ended : IsAtEnd rest

-- It started, and left the stream for this fault, behind the frames that were served whole over
-- that zone.
pub record LeavesStream (words : List (List ℕ)) (file left rest before after : Option (List ℕ))
    (fault : StreamError) : Type 0 where
  pub starts : Starts words file
  pub source : SocketAddr
  pub from_here : IsLoopback source
  pub frames : ServesUntil (one_zone starts.zone) source starts.now left rest before after
      (one_zone starts.zone) fault

-- Out of memory before the zone is served.
abbrev pub out_of_memory : Fault
out_of_memory = faults.Stream (streams.OutOfMemory false)

-- The fault stands: wrong words; a file that could not be read; a text that is refused at a line;
-- out of memory before the zone is served, which may be answered at any time.
abbrev pub FaultStands : List (List ℕ) → Option (List ℕ) → Fault → Type 0
FaultStands words file faults.Words =
    (origin : DomainName) (now : ℕ) → AreWords words origin now → ⊥
FaultStands words file faults.ZoneFile =
    (origin : DomainName) × (now : ℕ) × AreWords words origin now × (file ≡ None)
FaultStands words file (faults.Zone error) =
    (origin : DomainName) × (now : ℕ) × (text : List ℕ) × AreWords words origin now
    × (file ≡ Some text)
    × IsLoadFault (first_zone origin) text error
FaultStands words file (faults.Stream error) = error ≡ streams.OutOfMemory false

-- The program ends before it serves, and leaves input and output alone, or it leaves the stream.
abbrev pub EndsBy : List (List ℕ) → Option (List ℕ) → Option (List ℕ) → Option (List ℕ)
    → Option (List ℕ) → Option (List ℕ) → Fault → Type 0
EndsBy words file left rest before after fault =
    ((rest ≡ left) × (after ≡ before) × FaultStands words file fault)
    ⊎ ((error : StreamError) × (fault ≡ faults.Stream error)
    × LeavesStream words file left rest before after error)

-- What the program answers: it ends with its input, or a fault stands.
abbrev pub Answers : {X : Type 0} → List (List ℕ) → Option (List ℕ) → Option (List ℕ)
    → Option (List ℕ) → Option (List ℕ) → Option (List ℕ) → Result X Fault → Type 0
Answers words file left rest before after (Ok done) = Finishes words file left rest before after
Answers words file left rest before after (Err fault) =
    EndsBy words file left rest before after fault

-- The status of a fault.
abbrev pub status_of : Fault → ℕ
status_of faults.Words = 2
status_of faults.ZoneFile = 3
status_of (faults.Zone error) = 3
status_of (faults.Stream error) = 4

-- The status of the program: 0 where it ends with its input, else that of a fault that stands.
abbrev pub StatusIs : List (List ℕ) → Option (List ℕ) → Option (List ℕ) → Option (List ℕ)
    → Option (List ℕ) → Option (List ℕ) → ℕ → Type 0
StatusIs words file left rest before after status =
    ((status ≡ 0) × Finishes words file left rest before after)
    ⊎ ((fault : Fault) × (status ≡ status_of fault)
    × EndsBy words file left rest before after fault)

-- What was read of a word, where a malformed one is a fault.
abbrev pub read_or_usage : {X : Type 0} → Result X TextError → Result X Fault
read_or_usage (Ok x) = Ok x
read_or_usage (Err texts.Malformed) = Err faults.Words
read_or_usage (Err texts.OutOfMemory) = Err out_of_memory

-- What the words give.
abbrev pub WordsGive : {C : Type 0} → List (List ℕ) → (C → DomainName) → (C → ℕ) → Result C Fault
    → Type 0
WordsGive words origin now (Ok command) = AreWords words (origin command) (now command)
WordsGive words origin now (Err faults.Words) =
    (name : DomainName) (n : ℕ) → AreWords words name n → ⊥
WordsGive words origin now (Err faults.ZoneFile) = ⊥
WordsGive words origin now (Err (faults.Zone error)) = ⊥
WordsGive words origin now (Err (faults.Stream error)) = error ≡ streams.OutOfMemory false

-- What the text gives; `zone_of` gives the zone of what is made.
abbrev pub TextGives : {X : Type 0} → DomainName → List ℕ → (X → Zone) → Result X Fault → Type 0
TextGives origin text zone_of (Ok made) =
    IsZoneText (first_zone origin) text (zone_of made)
    × ((zone_of made).zone_type ≡ kinds.Primary)
TextGives origin text zone_of (Err faults.Words) = ⊥
TextGives origin text zone_of (Err faults.ZoneFile) = ⊥
TextGives origin text zone_of (Err (faults.Zone error)) =
    IsLoadFault (first_zone origin) text error
TextGives origin text zone_of (Err (faults.Stream error)) = ⊥

-- A status that stands for some words, file and streams: those of a process have no value in a
-- clause.
pub record IsExitStatus (status : ℕ) : Type 0 where
  pub words : List (List ℕ)
  pub file : Option (List ℕ)
  pub left : Option (List ℕ)
  pub rest : Option (List ℕ)
  pub before : Option (List ℕ)
  pub after : Option (List ℕ)
  pub stands : StatusIs words file left rest before after status
