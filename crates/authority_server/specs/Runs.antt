-- A run of the server over messages as they arrive.
use Rattle.std.specs.Prelude.{◌≡◌, ◌<◌, ℕ, false, List, [], ◌∷◌, ◌++◌, drop, length, take, Option, option_map}
use Rattle.std.proofs.Common.{Vec, Global}
use Rattle.authority_server.specs.declared.server.Arrival.{Arrival}
use Rattle.authority_server.specs.declared.server.ServeError.{ServeError}
use Rattle.authority_server.specs.declared.server.ServeError.TheVariants as errors
use Rattle.authority_server.specs.Serving.{World, Received, Refuses, Serves, ServesAll}

-- The octets of an answer.
abbrev pub octets_of : Option (Vec ℕ Global) → Option (List ℕ)
octets_of answer = option_map (λ reply. reply.items) answer

-- A message as it arrived, without its loans.
abbrev pub received_of : Arrival → Received
received_of arrival = record {
  message = arrival.message.now;
  source = arrival.src;
  transport = arrival.protocol;
  now = arrival.now;
}

-- One message served, its answer appended.
abbrev pub ServesNext : World → Received → List (Option (Vec ℕ Global))
    → List (Option (Vec ℕ Global)) → World → Type 0
ServesNext old message before after new =
    (answer : Option (Vec ℕ Global)) × (after ≡ before ++ answer ∷ [])
    × Serves old message (octets_of answer) new

-- The first messages served in order, one for each answer; the rest is untouched.
abbrev pub ServesFront : World → List Received → List (Option (List ℕ)) → List (Option (List ℕ))
    → World → Type 0
ServesFront old messages before after new =
    (answers : List (Option (List ℕ))) × (after ≡ before ++ answers)
    × ServesAll old (take (length answers) messages) answers new

-- The next message was refused.
abbrev pub RefusesFirst : World → List Received → ServeError → World → Type 0
RefusesFirst old [] e new = ⊥
RefusesFirst old (received ∷ later) e new = Refuses old received e new

-- The first messages served in order, one for each answer; the next one was refused, and the rest
-- is untouched.
abbrev pub ServesUntil : World → List Received → List (Option (List ℕ)) → List (Option (List ℕ))
    → ServeError → World → Type 0
ServesUntil old messages before after e new =
    (answers : List (Option (List ℕ))) × (middle : World) × (after ≡ before ++ answers)
    × ServesAll old (take (length answers) messages) answers middle
    × RefusesFirst middle (drop (length answers) messages) e new

-- Why a list of messages isn't served to its end: there is no room for the answers, or a message
-- was refused.
pub data StopsServing (old : World) (messages : List Received)
    (before after : List (Option (List ℕ))) (e : ServeError) (new : World) : Type 0 where
  no_room : e ≡ errors.OutOfMemory false → 0 < length messages → after ≡ before → new ≡ old
      → StopsServing old messages before after e new
  refused : ServesUntil old messages before after e new
      → StopsServing old messages before after e new
