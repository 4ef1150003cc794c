-- Messages on a stream: RFC 1035, section 4.2.2.
use Rattle.std.specs.Prelude.{◌≡◌, ℕ, ◌-◌, ◌^◌, ◌<◌, ◌≤◌, false, List, [], ◌++◌, length, take, map, Option, Some, None}
use Rattle.std.specs.List.{AllByRecursion, flat_map}
use Rattle.std.specs.declared.net.SocketAddr.{SocketAddr}
use Rattle.zsv_catalog.specs.zsv_answer.zsv_request.declared.protocol.Protocol.TheVariants as protocols
use Rattle.std.specs.Int.{w16, to_be_bytes}
use Rattle.std.specs.Io.KnownBytes.{Appends, Consumes, IsAtEnd}
use Rattle.authority_server.specs.declared.stream.StreamError.{StreamError}
use Rattle.authority_server.specs.declared.stream.StreamError.TheVariants as errors
use Rattle.authority_server.specs.declared.server.ServeError.TheVariants as refusals
use Rattle.authority_server.specs.Serving.{World, Received, Refuses, Serves, ServesAll}

-- A message after its length.
abbrev pub frame_of : List ℕ → List ℕ
frame_of message = to_be_bytes w16 (length message) ++ message

-- The octets of an answer: a frame, or nothing.
abbrev pub frame_of_answer : Option (List ℕ) → List ℕ
frame_of_answer None = []
frame_of_answer (Some reply) = frame_of reply

-- A frame that is cut: not both octets of its length, or fewer octets than they say.
pub data IsCutFrame : List ℕ → Type 0 where
  in_length : (octets : List ℕ) → length octets < 2 → IsCutFrame octets
  in_message : (size : ℕ) (part octets : List ℕ) → size < 2 ^ 16 → length part < size
      → octets ≡ to_be_bytes w16 size ++ part → IsCutFrame octets

-- Fewer octets than these were read.
abbrev pub ReadsLess : Option (List ℕ) → Option (List ℕ) → ℕ → Type 0
ReadsLess left rest size = (octets : List ℕ) × (length octets < size) × Consumes left rest octets

-- What reading a message of this length may answer instead: its cause, and what was read.
abbrev pub IsMessageFault : Option (List ℕ) → Option (List ℕ) → ℕ → StreamError → Type 0
IsMessageFault left rest size errors.Read = ReadsLess left rest size
IsMessageFault left rest size errors.Write = ⊥
IsMessageFault left rest size errors.CutFrame = ReadsLess left rest size × IsAtEnd rest
IsMessageFault left rest size (errors.OutOfMemory applied) =
    (applied ≡ false) × (0 < size) × Consumes left rest []
IsMessageFault left rest size errors.TooLong = ⊥

-- What reading a frame may answer instead. A fault of the reader leaves a cut frame, perhaps
-- nothing of it; `CutFrame` comes where the input ended inside a frame; out of memory, a nonzero
-- length was read and no more.
abbrev pub IsReadFault : Option (List ℕ) → Option (List ℕ) → StreamError → Type 0
IsReadFault left rest errors.Read =
    (octets : List ℕ) × IsCutFrame octets × Consumes left rest octets
IsReadFault left rest errors.Write = ⊥
IsReadFault left rest errors.CutFrame =
    (octets : List ℕ) × IsCutFrame octets × (0 < length octets) × Consumes left rest octets
    × IsAtEnd rest
IsReadFault left rest (errors.OutOfMemory applied) =
    (applied ≡ false) × (size : ℕ) × (0 < size) × Consumes left rest (to_be_bytes w16 size)
IsReadFault left rest errors.TooLong = ⊥

-- A prefix of these octets was written.
abbrev pub WritesFront : Option (List ℕ) → Option (List ℕ) → List ℕ → Type 0
WritesFront before after octets = (count : ℕ) × Appends before after (take count octets)

-- What serving a frame may answer instead. At a fault of the writer the message has taken effect,
-- and a prefix of its reply's frame is written; out of memory nothing is.
abbrev pub IsServeFault : World → Received → Option (List ℕ) → Option (List ℕ) → World → StreamError
    → Type 0
IsServeFault old received before after new errors.Read = ⊥
IsServeFault old received before after new errors.Write =
    (reply : List ℕ) × Serves old received (Some reply) new
    × WritesFront before after (frame_of reply)
IsServeFault old received before after new errors.CutFrame = ⊥
IsServeFault old received before after new (errors.OutOfMemory applied) =
    (after ≡ before) × Refuses old received (refusals.OutOfMemory applied) new
IsServeFault old received before after new errors.TooLong = ⊥

-- One message served, and its answer's frame written after what was written before.
abbrev pub ServesFrame : World → Received → Option (List ℕ) → Option (List ℕ) → World → Type 0
ServesFrame old received before after new =
    (answer : Option (List ℕ)) × Serves old received answer new
    × Appends before after (frame_of_answer answer)

-- A message as it comes over a stream.
abbrev pub stream_message : SocketAddr → ℕ → List ℕ → Received
stream_message source moment message = record {
  message = message;
  source = source;
  transport = protocols.Tcp;
  now = moment;
}

-- Two octets are the length of a message on a stream.
abbrev pub IsFramed : List ℕ → Type 0
IsFramed message = length message < 2 ^ 16

-- The frames of these messages were read, and the messages served in order, each answer's frame
-- written after those before. Of a reader or a writer whose octets aren't known nothing is said.
pub record ServesFrames (old : World) (source : SocketAddr) (moment : ℕ)
    (left rest before after : Option (List ℕ)) (new : World) : Type 0 where
  pub messages : List (List ℕ)
  pub answers : List (Option (List ℕ))
  pub framed : AllByRecursion IsFramed messages
  pub read : Consumes left rest (flat_map frame_of messages)
  pub run : ServesAll old (map (stream_message source moment) messages) answers new
  pub written : Appends before after (flat_map frame_of_answer answers)

-- What was done after the frames that were served whole: a frame was read in part; one was read and
-- not served whole; or there was no number left to count it.
pub data Leaves (source : SocketAddr) (moment : ℕ) (old : World)
    (left rest before after : Option (List ℕ)) (new : World) (fault : StreamError) : Type 0 where
  reading : IsReadFault left rest fault → after ≡ before → new ≡ old
      → Leaves source moment old left rest before after new fault
  serving : (message : List ℕ) → IsFramed message → Consumes left rest (frame_of message)
      → IsServeFault old (stream_message source moment message) before after new fault
      → Leaves source moment old left rest before after new fault
  counting : fault ≡ errors.TooLong → rest ≡ left → after ≡ before → new ≡ old
      → Leaves source moment old left rest before after new fault

-- The stream was left for a fault: the whole frames before it were served as ever, and after them
-- is what the fault left.
pub record ServesUntil (old : World) (source : SocketAddr) (moment : ℕ)
    (left rest before after : Option (List ℕ)) (new : World) (fault : StreamError) : Type 0 where
  pub middle : World
  pub behind : Option (List ℕ)
  pub held : Option (List ℕ)
  pub frames : ServesFrames old source moment left behind before held middle
  pub counted : fault ≡ errors.TooLong → length frames.messages ≡ 2 ^ 64 - 1
  pub leaves : Leaves source moment middle behind rest held after new fault
