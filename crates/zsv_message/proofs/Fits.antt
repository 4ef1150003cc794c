-- Four bits hold the opcode of a message that was read.
use Rattle.std.proofs.Common.{◌≡◌, ℕ, ◌/◌, ◌%◌, List, Option, Some, None, refl, sym, ap, subst, arith}
use Rattle.std.specs.Prelude.{get_or}
use Rattle.zst_edns.specs.declared.edns.Edns.{Edns}
use Rattle.zsv_sections.specs.zst_record.dnw_decoder.Octets.{number_16}
use Rattle.zsv_sections.specs.zsv_parts.Headers.{FitsOpCode, header_of, metadata_of, op_code_of, op_code_number}
use Rattle.zsv_sections.specs.zsv_parts.declared.header.Header.{Header}
use Rattle.zsv_sections.specs.zsv_parts.declared.header.Metadata.{Metadata}
use Rattle.zsv_message.specs.Messages.{IsMessage, Message, joined_metadata}

op_code_back : (n : ℕ) → op_code_number (op_code_of n) ≡ n
op_code_back n = grind arith

fits_metadata : (id high low : ℕ) → FitsOpCode (metadata_of id high low)
fits_metadata id high low = record { op_code = ap op_code_of (op_code_back (high / 8 % 16)); small = omega (arith, op_code_back (high / 8 % 16)) }

-- So the header of some octets.
pub fits_header : (octets : List ℕ) (header : Header) → header ≡ header_of octets → FitsOpCode header.metadata
fits_header octets header is =
    subst (λ (h : Header). FitsOpCode h.metadata) (sym is) (fits_metadata (number_16 octets 0) (get_or octets 2 0) (get_or octets 3 0))

-- Options change nothing of the opcode.
pub fits_joined : (m joined : Metadata) (edns : Option Edns) → joined ≡ joined_metadata m edns → FitsOpCode m → FitsOpCode joined
fits_joined m joined edns is fits = subst FitsOpCode (sym is) (by edns)
  where
    by : (edns : Option Edns) → FitsOpCode (joined_metadata m edns)
    by None = fits
    by (Some edns) = record { op_code = fits.op_code; small = fits.small }

pub fits_request : (octets : List ℕ) (request : Message) → IsMessage octets request → FitsOpCode request.metadata
fits_request octets request is = fits_joined (header_of octets).metadata request.metadata request.edns is.metadata (fits_header octets (header_of octets) refl)
