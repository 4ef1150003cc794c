-- The headers and lists of replies: RFC 1035, section 4.1.1.
use Rattle.std.specs.Prelude.{ℕ, ◌≤◌, Bool, true, false, not, ◌&&◌, List, [], ◌++◌, length, Option, None, if◌then◌else◌}
use Rattle.zsv_reply.specs.Replies.{ReplyParts}
use Rattle.zsv_reply.specs.zst_record.declared.records.Record.{Record}
use Rattle.zsv_reply.specs.zsv_message.zst_edns.declared.edns.Edns.{Edns}
use Rattle.zsv_reply.specs.zsv_message.zsv_parts.declared.header.Metadata.{Metadata}
use Rattle.zst_request.specs.zst_handler.Answers.{additionals_in, answers_in, is_lent, lends_all, records_in}
use Rattle.zst_request.specs.zst_handler.declared.lookup_records.LookupRecords.{LookupRecords}
use Rattle.zst_request.specs.zst_handler.declared.lookup_records.LookupRecords.TheVariants as lookups
use Rattle.zsv_answer.specs.Shown.{shown_if}
use Rattle.zsv_answer.specs.declared.response.OneList.{OneList}
use Rattle.zsv_answer.specs.declared.response.Response.{Response}

-- The records that answer; those of a referral stand as authority, before those beside.
abbrev pub parts_with : Metadata → Bool → List Record → List Record → List Record → ReplyParts
parts_with m referral records additionals beside = record {
  metadata = m;
  answers = if referral then [] else records;
  authorities = (if referral then records else []) ++ beside;
  additionals = additionals;
  edns = None;
  signature = None;
}

-- What denies; a referral denies nothing.
abbrev pub denial_of : Response → List Record
denial_of r = if r.is_referral then [] else records_in r.denial

-- What a response holds: of an answer that is forwarded the records that are shown, and nothing
-- that goes with them.
abbrev pub parts_of : Response → ReplyParts
parts_of r =
    parts_with r.metadata r.is_referral (shown_if r.asked (answers_in r.found))
    (if r.is_forwarded then [] else additionals_in r.found)
    (denial_of r ++ records_in r.beside)

-- What a response holds whose records stand in one list: those of them that are shown, as answers
-- or as authority.
abbrev pub list_parts : Metadata → OneList → ReplyParts
list_parts m list =
    let shown = shown_if list.asked (records_in list.records.now) in
    parts_with m false (if list.are_answers then shown else []) []
    (if list.are_answers then [] else shown)

-- The handlers lend all records of a response as they have them.
abbrev pub lends_records : Response → Bool
lends_records r = lends_all r.found && (is_lent r.denial && is_lent r.beside)

-- Nothing was looked up.
abbrev pub is_empty : LookupRecords → Bool
is_empty lookups.Empty = true
is_empty other = false

-- What was found is no referral, and nothing stands as authority beside it.
abbrev pub has_no_authority : Bool → LookupRecords → LookupRecords → Bool
has_no_authority referral denial beside = not referral && (is_empty denial && is_empty beside)
