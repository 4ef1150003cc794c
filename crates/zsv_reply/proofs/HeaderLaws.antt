-- The header of a reply is read as its fields, its response code as the last four bits.
use Rattle.std.proofs.Common.{◌≡◌, ℕ, ◌+◌, ◌*◌, ◌%◌, ◌^◌, ◌<◌, ◌==◌, Bool, true, false, List, [], ◌∷◌, ◌++◌, refl, ap, sym, subst, ◌∙◌, arith}
use Rattle.std.proofs.lemmas.Bool.{eqb-true}
use Rattle.std.specs.Prelude.{Option, Some, unwrap_or, find, if◌then◌else◌}
use Rattle.zsv_request.specs.zsv_message.zsv_parts.declared.header.Metadata.{Metadata}
use Rattle.zsv_request.specs.zsv_message.zsv_parts.Headers.{header_of, header_octets, op_code_number, op_code_of}
use Rattle.zsv_request.specs.zsv_message.zsv_parts.declared.header.OpCode.{OpCode}
use Rattle.zsv_request.specs.zsv_message.zsv_parts.zst_codes.ResponseCode.{joined_code, low_bits, named_response_codes, response_code_number, response_code_of}
use Rattle.zsv_request.specs.zsv_message.zsv_parts.zst_codes.declared.response_code.ResponseCode.{ResponseCode}
use Rattle.zsv_request.specs.zsv_message.zsv_parts.zst_codes.declared.response_code.ResponseCode.TheVariants.{Unknown}
use Rattle.zsv_request.proofs.zsv_message_lemmas.zsv_parts_lemmas.Flags.{octets_back}
use Rattle.zsv_reply.specs.Replies.{header_of_reply}
use Rattle.zsv_request.specs.zsv_message.zsv_parts.Headers.{FitsOpCode}

-- The number of the code of a number is that number.
number_by : (b : Bool) (named : ResponseCode) (n : ℕ) (found : Option ResponseCode) → (b ≡ true → response_code_number named ≡ n) → response_code_number (unwrap_or found (Unknown n)) ≡ n → response_code_number (unwrap_or (if b then Some named else found) (Unknown n)) ≡ n
number_by true named n found is other = is refl
number_by false named n found is other = other

code_found : (n : ℕ) (named : List ResponseCode) → response_code_number (unwrap_or (find (λ code. response_code_number code == n) named) (Unknown n)) ≡ n
code_found n [] = refl
code_found n (code ∷ codes) =
    number_by (response_code_number code == n) code n (find (λ code. response_code_number code == n) codes) (eqb-true (response_code_number code) n) (code_found n codes)

code_back : (n : ℕ) → response_code_number (response_code_of n) ≡ n
code_back n = code_found n named_response_codes

-- The code of the last four bits has these bits, and no others.
low_number : (code : ResponseCode) → response_code_number (joined_code 0 (low_bits code)) ≡ low_bits code
low_number code = code_back (16 * 0 + low_bits code % 16) ∙ omega arith

-- The code of the last four bits is that of its number.
low_back : (code : ResponseCode) → response_code_of (response_code_number (joined_code 0 (low_bits code))) ≡ joined_code 0 (low_bits code)
low_back code = ap response_code_of (code_back (16 * 0 + low_bits code % 16))

-- The header of a reply is read as itself.
pub reply_header_back : (m : Metadata) (truncated : Bool) (questions answers authorities additionals : ℕ) (rest : List ℕ) → FitsOpCode m → m.id < 2 ^ 16 → questions < 2 ^ 16 → answers < 2 ^ 16 → authorities < 2 ^ 16 → additionals < 2 ^ 16 →
    header_of (header_octets (header_of_reply m truncated questions answers authorities additionals) ++ rest) ≡ header_of_reply m truncated questions answers authorities additionals
reply_header_back m truncated questions answers authorities additionals rest fits id q a n d =
    octets_back (header_of_reply m truncated questions answers authorities additionals) rest (record {
      op_code = fits.op_code;
      small_op_code = fits.small;
      response_code = low_back m.response_code;
      small_response_code = omega (arith, low_number m.response_code);
    }) id q a n d

-- Whether four bits hold the opcode depends on the opcode alone.
pub fits_same : (m n : Metadata) → n.op_code ≡ m.op_code → FitsOpCode m → FitsOpCode n
fits_same m n same fits = record {
  op_code = subst (λ (op : OpCode). op_code_of (op_code_number op) ≡ op) (sym same) fits.op_code;
  small = subst (λ (op : OpCode). op_code_number op < 16) (sym same) fits.small;
}
