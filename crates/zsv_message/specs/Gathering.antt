-- What is kept of the first records of an additional section.
use Rattle.std.specs.Prelude.{◌≡◌, ◌<◌, ◌^◌, ◌++◌, ℕ, Bool, true, false, List, ◌∷◌, find, slice_get}
use Rattle.zsv_sections.specs.zst_record.dnw_decoder.Octets.{Stands, octets_16, octets_32}
use Rattle.zsv_sections.specs.zst_record.drd_rdata.declared.rdata.RData.{RData}
use Rattle.zsv_sections.specs.zst_record.drd_rdata.declared.rdata.RData.TheVariants as rdata
use Rattle.zsv_sections.specs.zst_record.declared.records.Record.{Record}
use Rattle.zsv_sections.specs.zsv_parts.declared.header.OpCode.{OpCode}
use Rattle.zsv_message.specs.declared.additionals.Additionals.{Additionals}
use Rattle.zsv_message.specs.Messages.{IsEdnsFor, IsSignatureFor, in_additionals, other_records}
use Rattle.zsv_sections.specs.Sections.{SectionAt, is_opt, is_tsig, past_all}

-- Data that are options.
abbrev pub holds_options : RData → Bool
holds_options (rdata.OPT options) = true
holds_options other = false

-- A record of the root that has a class, a TTL and no data: options, and none in them (RFC 6891,
-- section 6.1.2).
pub record IsBareOpt (message : List ℕ) (place class ttl end : ℕ) : Type 0 where
  pub there : Stands message place
      (0 ∷ (octets_16 41 ++ (octets_16 class ++ (octets_32 ttl ++ octets_16 0)))) end
  pub small_class : class < 2 ^ 16
  pub small_ttl : ttl < 2 ^ 32

-- So many records stand from a place on, and this is kept of them.
pub record Gathers (op : OpCode) (message : List ℕ) (place count : ℕ) (found : Additionals)
    (at : ℕ) : Type 0 where
  pub standing : List Record
  pub there : SectionAt (in_additionals op) message place count standing at
  pub next : found.next ≡ past_all (in_additionals op) standing
  pub additionals : found.records.items ≡ other_records standing
  pub edns : IsEdnsFor (find is_opt standing) found.edns
  pub signature : IsSignatureFor message at (find is_tsig standing)
      (slice_get found.signature.items 0)
