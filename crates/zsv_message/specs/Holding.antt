-- The records that a message holds, where it holds any.
use Rattle.std.specs.Prelude.{List, [], Option, Some, None, slice_get}
use Rattle.zsv_sections.specs.zst_record.declared.records.Record.{Record}
use Rattle.zsv_sections.specs.zsv_parts.declared.tsig.TsigRecord.{TsigRecord}
use Rattle.zst_edns.specs.declared.edns.Edns.{Edns}
use Rattle.zsv_sections.specs.zsv_parts.Questions.{Asked}
use Rattle.zsv_sections.specs.zsv_parts.declared.header.Metadata.{Metadata}
use Rattle.zsv_message.specs.declared.records.HeldRecords.{HeldRecords}
use Rattle.zsv_message.specs.Messages.{Message}

abbrev pub answers_held : Option HeldRecords → List Record
answers_held None = []
answers_held (Some held) = held.answers.items

abbrev pub authorities_held : Option HeldRecords → List Record
authorities_held None = []
authorities_held (Some held) = held.authorities.items

abbrev pub additionals_held : Option HeldRecords → List Record
additionals_held None = []
additionals_held (Some held) = held.additionals.items

-- The signature is the first of a list of at most one.
abbrev pub signature_held : Option HeldRecords → Option TsigRecord
signature_held None = None
signature_held (Some held) = slice_get held.signature.items 0

-- A message of them.
abbrev pub message_of : Metadata → Asked → Option Edns → Option HeldRecords → Message
message_of m asked edns held = record {
  metadata = m;
  asked = asked;
  answers = answers_held held;
  authorities = authorities_held held;
  additionals = additionals_held held;
  edns = edns;
  signature = signature_held held;
}
