-- Which side of a stream failed, as it is recorded beside the stream.
use Rattle.std.specs.Prelude.{◌≡◌, true, false}
use Rattle.authority_server.specs.declared.faults.Faults.{Faults}
use Rattle.authority_server.specs.declared.stream.StreamError.{StreamError}
use Rattle.authority_server.specs.declared.stream.StreamError.TheVariants as errors

-- Nothing failed, and all that was written is flushed.
abbrev pub no_faults : Faults
no_faults = record { read = false; write = false; pending = false }

-- The reader failed, the writer didn't, and all that was written is flushed.
abbrev pub reader_failed : Faults
reader_failed = record { read = true; write = false; pending = false }

-- No side failed; octets may wait for a flush.
abbrev pub NoneFailed : Faults → Type 0
NoneFailed faults = (faults.read ≡ false) × (faults.write ≡ false)

-- The writer failed, the reader didn't.
abbrev pub WriterFailed : Faults → Type 0
WriterFailed faults = (faults.read ≡ false) × (faults.write ≡ true)

-- An error names the side that failed; any other comes where none did.
abbrev pub IsFaultOf : Faults → StreamError → Type 0
IsFaultOf faults errors.Read = faults ≡ reader_failed
IsFaultOf faults errors.Write = WriterFailed faults
IsFaultOf faults errors.CutFrame = faults ≡ no_faults
IsFaultOf faults (errors.OutOfMemory applied) = faults ≡ no_faults
IsFaultOf faults errors.TooLong = faults ≡ no_faults
