-- A stream served, one frame more at a time.
use Rattle.std.proofs.Common.{◌≡◌, ℕ, ◌+◌, ◌-◌, ◌^◌, List, [], ◌∷◌, ◌++◌, length, map, Option, refl, sym, ap, subst, ◌∙◌, append-nil}
use Rattle.std.specs.List.{AllByRecursion, flat_map}
use Rattle.std.specs.declared.net.SocketAddr.{SocketAddr}
use Rattle.std.specs.Io.KnownBytes.{Appends, Consumes}
use Rattle.std.proofs.KnownBytes.{Appends-nil, Appends-trans, Consumes-nil, Consumes-trans}
use Rattle.std.proofs.lemmas.Grind.{flat_map-append}
use Rattle.std.proofs.lemmas.List.{length-append, map-append}
use Rattle.authority_server.specs.declared.stream.StreamError.{StreamError}
use Rattle.authority_server.specs.declared.stream.StreamError.TheVariants as errors
use Rattle.authority_server.specs.Serving.{World, Received, ServesAll}
use Rattle.authority_server.specs.Frames.{IsFramed, frame_of, frame_of_answer, stream_message, reading, serving, counting, IsReadFault, IsServeFault, ServesFrame, ServesFrames, ServesUntil}
use Rattle.authority_server.proofs.ServedRuns.{serves_more}

pub frames_none : (old : World) (source : SocketAddr) (moment : ℕ) (left before : Option (List ℕ)) → ServesFrames old source moment left left before before old
frames_none old source moment left before = record { messages = []; answers = []; framed = tt; read = Consumes-nil left; run = refl; written = Appends-nil before }

one_framed : (message : List ℕ) → flat_map frame_of (message ∷ []) ≡ frame_of message
one_framed message = append-nil (frame_of message)

one_answered : (answer : Option (List ℕ)) → flat_map frame_of_answer (answer ∷ []) ≡ frame_of_answer answer
one_answered answer = append-nil (frame_of_answer answer)

all_framed : (messages : List (List ℕ)) (message : List ℕ) → AllByRecursion IsFramed messages → IsFramed message → AllByRecursion IsFramed (messages ++ message ∷ [])
all_framed [] message all short = (short, tt)
all_framed (m ∷ ms) message all short = (all.0, all_framed ms message all.1 short)

pub frames_more : (old : World) (source : SocketAddr) (moment : ℕ) (left rest before after : Option (List ℕ)) (middle : World) (message : List ℕ) (less more : Option (List ℕ)) (new : World) →
    ServesFrames old source moment left rest before after middle → IsFramed message → Consumes rest less (frame_of message) → ServesFrame middle (stream_message source moment message) after more new → ServesFrames old source moment left less before more new
frames_more old source moment left rest before after middle message less more new s short read (answer, step, wrote) = record {
  messages = s.messages ++ message ∷ [];
  answers = s.answers ++ answer ∷ [];
  framed = all_framed s.messages message s.framed short;
  read = subst (λ (octets : List ℕ). Consumes left less octets) (sym (flat_map-append frame_of s.messages (message ∷ []) ∙ ap (λ (octets : List ℕ). flat_map frame_of s.messages ++ octets) (one_framed message))) (Consumes-trans left rest less (flat_map frame_of s.messages) (frame_of message) s.read read);
  run = subst (λ (ms : List Received). ServesAll old ms (s.answers ++ answer ∷ []) new) (sym (map-append (stream_message source moment) s.messages (message ∷ []))) (serves_more old (map (stream_message source moment) s.messages) s.answers middle (stream_message source moment message) answer new s.run step);
  written = subst (λ (octets : List ℕ). Appends before more octets) (sym (flat_map-append frame_of_answer s.answers (answer ∷ []) ∙ ap (λ (octets : List ℕ). flat_map frame_of_answer s.answers ++ octets) (one_answered answer))) (Appends-trans before after more (flat_map frame_of_answer s.answers) (frame_of_answer answer) s.written wrote);
}

-- At the end nothing more is read.
pub frames_end : (old : World) (source : SocketAddr) (moment : ℕ) (left rest before after : Option (List ℕ)) (new : World) (less : Option (List ℕ)) → ServesFrames old source moment left rest before after new → Consumes rest less [] → ServesFrames old source moment left less before after new
frames_end old source moment left rest before after new less s none = record {
  messages = s.messages;
  answers = s.answers;
  framed = s.framed;
  read = subst (λ (octets : List ℕ). Consumes left less octets) (append-nil (flat_map frame_of s.messages)) (Consumes-trans left rest less (flat_map frame_of s.messages) [] s.read none);
  run = s.run;
  written = s.written;
}

-- So many frames were served.
pub record Counted (old : World) (source : SocketAddr) (moment : ℕ) (left rest before after : Option (List ℕ)) (new : World) (count : ℕ) : Type 0 where
  pub frames : ServesFrames old source moment left rest before after new
  pub counted : length frames.messages ≡ count

pub counted_none : (old : World) (source : SocketAddr) (moment : ℕ) (left before : Option (List ℕ)) → Counted old source moment left left before before old 0
unfolding frames_none
counted_none old source moment left before = record { frames = frames_none old source moment left before; counted = refl }

pub counted_more : (old : World) (source : SocketAddr) (moment : ℕ) (left rest before after : Option (List ℕ)) (middle : World) (message : List ℕ) (less more : Option (List ℕ)) (new : World) (count : ℕ) →
    Counted old source moment left rest before after middle count → IsFramed message → Consumes rest less (frame_of message) → ServesFrame middle (stream_message source moment message) after more new → Counted old source moment left less before more new (count + 1)
unfolding frames_more
counted_more old source moment left rest before after middle message less more new count s short read step = record {
  frames = frames_more old source moment left rest before after middle message less more new s.frames short read step;
  counted = length-append s.frames.messages (message ∷ []) ∙ ap (λ (n : ℕ). n + 1) s.counted;
}

-- A fault comes while a frame is read,
pub left_reading : (old : World) (source : SocketAddr) (moment : ℕ) (left rest before after : Option (List ℕ)) (middle : World) (count : ℕ) (less : Option (List ℕ)) (fault : StreamError) →
    Counted old source moment left rest before after middle count → IsReadFault rest less fault → ServesUntil old source moment left less before after middle fault
left_reading old source moment left rest before after middle count less fault s read = record {
  middle = middle;
  behind = rest;
  held = after;
  frames = s.frames;
  counted = λ is. absurd (subst (IsReadFault rest less) is read);
  leaves = reading read refl refl;
}

-- or while one is served.
pub left_serving : (old : World) (source : SocketAddr) (moment : ℕ) (left rest before after : Option (List ℕ)) (middle : World) (count : ℕ) (message : List ℕ) (less more : Option (List ℕ)) (new : World) (fault : StreamError) →
    Counted old source moment left rest before after middle count → IsFramed message → Consumes rest less (frame_of message) → IsServeFault middle (stream_message source moment message) after more new fault → ServesUntil old source moment left less before more new fault
left_serving old source moment left rest before after middle count message less more new fault s short read fails = record {
  middle = middle;
  behind = rest;
  held = after;
  frames = s.frames;
  counted = λ is. absurd (subst (IsServeFault middle (stream_message source moment message) after more new) is fails);
  leaves = serving message short read fails;
}

-- or when there is no number left to count one.
pub left_counting : (old : World) (source : SocketAddr) (moment : ℕ) (left rest before after : Option (List ℕ)) (middle : World) (count : ℕ) →
    Counted old source moment left rest before after middle count → count ≡ 2 ^ 64 - 1 → ServesUntil old source moment left rest before after middle errors.TooLong
left_counting old source moment left rest before after middle count s all = record {
  middle = middle;
  behind = rest;
  held = after;
  frames = s.frames;
  counted = λ is. s.counted ∙ all;
  leaves = counting refl refl refl refl;
}
