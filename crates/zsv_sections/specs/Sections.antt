-- The records of a message, section by section, each where it may stand: RFC 1035, section 4.1.3;
-- RFC 2136, section 2; RFC 2931, section 3; RFC 6891, section 6.1.1; RFC 8945, section 5.1.
use Rattle.std.specs.Prelude.{◌≡◌, ℕ, ◌<◌, Bool, not, ◌&&◌, ◌||◌, ◌==◌, ◌⊎◌, List, [], ◌∷◌, length, Option, Some, None, if◌then◌else◌}
use Rattle.zst_record.specs.dnw_codes.declared.error.DecodeError.{DecodeError}
use Rattle.zst_record.specs.dnw_codes.declared.error.DecodeError.TheVariants.{DuplicateEdns, EdnsNameNotRoot, InvalidEmptyRecord, RecordAfterSig, RecordNotInAdditionalSection}
use Rattle.zst_record.specs.dnw_codes.declared.record_type.RecordType.TheVariants as kind
use Rattle.zst_record.specs.dnw_codes.RecordType.{same_record_type}
use Rattle.zst_record.specs.dnw_name.DomainName.{DomainName}
use Rattle.zst_record.specs.drd_rdata.Types.{is_update0, type_of}
use Rattle.zst_record.specs.declared.records.Record.{Record}
use Rattle.zst_record.specs.Reading.{RefusesRecordAt}
use Rattle.zst_record.specs.Records.{RecordAt}
use Rattle.zsv_sections.specs.declared.placing.Placing.{Placing}

-- The options of a message (RFC 6891, section 6.1.1).
abbrev pub is_opt : Record → Bool
is_opt r = same_record_type (type_of r.rdata) kind.OPT

-- Its signature by a shared key (RFC 8945, section 4.2).
abbrev pub is_tsig : Record → Bool
is_tsig r = same_record_type (type_of r.rdata) kind.TSIG

-- A signature of a message: that, or one by a public key (RFC 2931, section 3).
abbrev pub is_signature : Record → Bool
is_signature r = is_tsig r || same_record_type (type_of r.rdata) kind.SIG

abbrev pub is_root : DomainName → Bool
is_root name = name.fqdn && (length name.labels == 0)

-- Why a record may not stand where it does, if it may not; the first cause that applies. Nothing
-- stands behind a signature (RFC 8945, section 5.1; RFC 2931, section 3.1). Options and signatures
-- stand in the additional section. There are options once, and their owner is the root (RFC 6891,
-- sections 6.1.1 and 6.1.2). Only updates have records without data (RFC 2136, section 2.4), and
-- only messages without a TSIG's.
abbrev pub misplaced : Placing → Record → Option DecodeError
misplaced at r =
    if at.is_signed then Some RecordAfterSig
    else if not at.is_additional && (is_opt r || is_signature r) then
    Some (RecordNotInAdditionalSection (type_of r.rdata))
    else if is_opt r && not (is_root r.name) then Some EdnsNameNotRoot
    else if is_opt r && at.has_options then Some DuplicateEdns
    else if is_update0 r.rdata && (not at.is_update || is_tsig r) then Some InvalidEmptyRecord
    else None

-- Behind a record.
abbrev pub past : Placing → Record → Placing
past at r = record at {
  is_signed = at.is_signed || is_signature r;
  has_options = at.has_options || is_opt r;
}

abbrev pub past_all : Placing → List Record → Placing
past_all at [] = at
past_all at (r ∷ rs) = past_all (past at r) rs

-- Records from a place on, one behind the other, each where it may stand.
abbrev pub PlacedRecords : Placing → List ℕ → ℕ → List Record → ℕ → Type 0
PlacedRecords at message place [] end = end ≡ place
PlacedRecords at message place (r ∷ rs) end =
    (behind : ℕ) × RecordAt message place r behind × (misplaced at r ≡ None)
    × PlacedRecords (past at r) message behind rs end

-- So many of them.
abbrev pub SectionAt : Placing → List ℕ → ℕ → ℕ → List Record → ℕ → Type 0
SectionAt at message place count records end =
    PlacedRecords at message place records end × (length records ≡ count)

-- A record stands at a place, and may not.
pub record IsMisplaced (at : Placing) (message : List ℕ) (place : ℕ) (e : DecodeError) : Type 0
  where
    pub standing : Record
    pub end : ℕ
    pub there : RecordAt message place standing end
    pub cause : misplaced at standing ≡ Some e

-- No record is read at a place: none stands there, or one that may not.
abbrev pub RefusesPlaced : Placing → List ℕ → ℕ → DecodeError → Type 0
RefusesPlaced at message place e = RefusesRecordAt message place e ⊎ IsMisplaced at message place e

-- Fewer records than counted stand from a place on, and the next one is refused.
pub record RefusesSection (at : Placing) (message : List ℕ) (place count : ℕ) (e : DecodeError) :
    Type 0 where
  pub before : List Record
  pub next : ℕ
  pub there : PlacedRecords at message place before next
  pub fewer : length before < count
  pub cause : RefusesPlaced (past_all at before) message next e
