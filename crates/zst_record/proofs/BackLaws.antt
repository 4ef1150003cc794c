-- What reads back alone, or may be served, reads back where it is written.
use Rattle.std.proofs.Common.{inl, inr}
use Rattle.zst_record.specs.Records.{IsServable, ReadsBack, ReadsBackAlone}
use Rattle.zst_record.specs.declared.records.Record.{Record}

pub alone_back : (r : Record) → ReadsBackAlone r → ReadsBack r
alone_back r (inl read) = inl (read.0, inl read.1)
alone_back r (inr far) = inr far

pub servable_back : (r : Record) → IsServable r → ReadsBack r
servable_back r servable = alone_back r servable.alone
