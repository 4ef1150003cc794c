-- Faults of a stream: what a fault of a part says of the whole.
use Rattle.std.proofs.Common.{◌≡◌, ℕ, ◌+◌, ◌^◌, ◌<◌, ◌≤◌, List, [], ◌++◌, length, take, Option, refl, sym, subst, append-nil, rules}
use Rattle.std.specs.Int.{w16, to_be_bytes}
use Rattle.std.specs.Io.KnownBytes.{Appends, Consumes, Keeps}
use Rattle.std.proofs.KnownBytes.{Appends-kept, Appends-trans, Consumes-trans}
use Rattle.std.proofs.Math.Seq.{take-append-add, take-length}
use Rattle.std.proofs.lemmas.List.{take-append-le}
use Rattle.authority_server.specs.declared.stream.StreamError.{StreamError}
use Rattle.authority_server.specs.declared.stream.StreamError.TheVariants as errors
use Rattle.authority_server.specs.declared.faults.Faults.{Faults}
use Rattle.authority_server.specs.Faults.{IsFaultOf, WriterFailed, reader_failed}
use Rattle.authority_server.specs.Frames.{in_length, in_message, ReadsLess, IsMessageFault, IsReadFault, WritesFront}

-- What a part records is what the whole tells.
pub read_cause : (faults : Faults) (fault : StreamError) → (fault ≡ errors.Read) × (faults ≡ reader_failed) → IsFaultOf faults fault
read_cause faults fault (is, failed) = subst (IsFaultOf faults) (sym is) failed

pub write_cause : (faults : Faults) (fault : StreamError) → fault ≡ errors.Write → WriterFailed faults → IsFaultOf faults fault
write_cause faults fault is failed = subst (IsFaultOf faults) (sym is) failed

-- A fault inside the length of a frame.
pub length_fault : (left rest : Option (List ℕ)) (fault : StreamError) → (fault ≡ errors.Read) × ReadsLess left rest 2 → IsReadFault left rest fault
length_fault left rest fault (is, (octets, few, read)) = subst (IsReadFault left rest) (sym is) (octets, in_length octets few, read)

-- A fault behind the length of a frame.
pub message_fault : (left middle rest : Option (List ℕ)) (size : ℕ) (fault : StreamError) → size < 2 ^ 16 → Consumes left middle (to_be_bytes w16 size) → IsMessageFault middle rest size fault → IsReadFault left rest fault
message_fault left middle rest size errors.Read small long (octets, few, read) =
    (to_be_bytes w16 size ++ octets, in_message size octets (to_be_bytes w16 size ++ octets) small few refl, Consumes-trans left middle rest (to_be_bytes w16 size) octets long read)
message_fault left middle rest size errors.Write small long none = absurd none
message_fault left middle rest size errors.CutFrame small long ((octets, few, read), ended) =
    (to_be_bytes w16 size ++ octets, in_message size octets (to_be_bytes w16 size ++ octets) small few refl, search rules, Consumes-trans left middle rest (to_be_bytes w16 size) octets long read, ended)
message_fault left middle rest size (errors.OutOfMemory applied) small long (is, some, none) =
    (is, size, some, subst (Consumes left rest) (append-nil (to_be_bytes w16 size)) (Consumes-trans left middle rest (to_be_bytes w16 size) [] long none))
message_fault left middle rest size errors.TooLong small long none = absurd none

-- A front of the first part is a front of the whole.
pub front_first : (before after : Option (List ℕ)) (xs ys : List ℕ) (count : ℕ) → count ≤ length xs → Appends before after (take count xs) → WritesFront before after (xs ++ ys)
front_first before after xs ys count fits wrote = (count, subst (Appends before after) (sym (take-append-le count xs ys fits)) wrote)

-- So is a front of the second part behind the first.
pub front_second : (before middle after : Option (List ℕ)) (xs ys : List ℕ) (count : ℕ) → Appends before middle xs → Appends middle after (take count ys) → WritesFront before after (xs ++ ys)
front_second before middle after xs ys count first second =
    (length xs + count, subst (Appends before after) (sym (take-append-add xs ys count)) (Appends-trans before middle after xs (take count ys) first second))

-- And the whole is.
pub front_whole : (before middle held after : Option (List ℕ)) (xs ys : List ℕ) → Appends before middle xs → Appends middle held ys → Keeps held after → WritesFront before after (xs ++ ys)
front_whole before middle held after xs ys first second kept =
    (length (xs ++ ys), subst (Appends before after) (sym (take-length (xs ++ ys))) (Appends-kept before held after (xs ++ ys) (Appends-trans before middle held xs ys first second) kept))
