-- The header over a message is read as itself.
use Rattle.std.proofs.Common.{◌≡◌, ℕ, ◌+◌, ◌*◌, ◌%◌, ◌^◌, ◌<◌, ◌==◌, ◌∙◌, Bool, true, false, List, [], ◌∷◌, ◌++◌, append_assoc, drop, length, refl, sym, ap, arith}
use Rattle.std.proofs.lemmas.Bool.{eqb-true}
use Rattle.std.specs.Prelude.{Option, Some, unwrap_or, find, if◌then◌else◌}
use Rattle.zsv_sections.specs.zst_record.dnw_decoder.Octets.{Stands}
use Rattle.zsv_sections.proofs.zst_record_lemmas.dnw_decoder_lemmas.Standing.{stands_within}
use Rattle.zsv_sections.specs.zsv_parts.zst_codes.ResponseCode.{joined_code, low_bits, named_response_codes, response_code_number, response_code_of}
use Rattle.zsv_sections.specs.zsv_parts.zst_codes.declared.response_code.ResponseCode.{ResponseCode}
use Rattle.zsv_sections.specs.zsv_parts.zst_codes.declared.response_code.ResponseCode.TheVariants.{Unknown}
use Rattle.zsv_sections.specs.zsv_parts.Headers.{HeaderAt, header_of, header_octets}
use Rattle.zsv_sections.proofs.zsv_parts_lemmas.Flags.{octets_back}
use Rattle.zsv_message.specs.Messages.{Message}
use Rattle.zsv_message.specs.Writing.{IsCountable, ReadsBack, front_octets, header_over}

-- The number of the code of a number is that number.
number_by : (b : Bool) (named : ResponseCode) (n : ℕ) (found : Option ResponseCode) → (b ≡ true → response_code_number named ≡ n) → response_code_number (unwrap_or found (Unknown n)) ≡ n → response_code_number (unwrap_or (if b then Some named else found) (Unknown n)) ≡ n
number_by true named n found is other = is refl
number_by false named n found is other = other

code_found : (n : ℕ) (named : List ResponseCode) → response_code_number (unwrap_or (find (λ code. response_code_number code == n) named) (Unknown n)) ≡ n
code_found n [] = refl
code_found n (code ∷ codes) =
    number_by (response_code_number code == n) code n (find (λ code. response_code_number code == n) codes) (eqb-true (response_code_number code) n) (code_found n codes)

pub code_back : (n : ℕ) → response_code_number (response_code_of n) ≡ n
code_back n = code_found n named_response_codes

-- The code of the last four bits has these bits, and no others.
low_number : (code : ResponseCode) → response_code_number (joined_code 0 (low_bits code)) ≡ low_bits code
low_number code = code_back (16 * 0 + low_bits code % 16) ∙ omega arith

low_back : (code : ResponseCode) → response_code_of (response_code_number (joined_code 0 (low_bits code))) ≡ joined_code 0 (low_bits code)
low_back code = ap response_code_of (code_back (16 * 0 + low_bits code % 16))

-- The octets of the header are read as the header.
pub header_back : (m : Message) (rest : List ℕ) → IsCountable m → ReadsBack m → m.metadata.id < 2 ^ 16 → length m.asked.questions < 2 ^ 16 → header_of (header_octets (header_over m) ++ rest) ≡ header_over m
header_back m rest few back id questions =
    octets_back (header_over m) rest (record {
      op_code = back.op_code;
      small_op_code = back.small_op_code;
      response_code = low_back m.metadata.response_code;
      small_response_code = omega (arith, low_number m.metadata.response_code);
    }) id questions few.answers few.authorities few.additionals

pub header_stands : (m : Message) (message : List ℕ) (place end : ℕ) → ((rest : List ℕ) → header_of (header_octets (header_over m) ++ rest) ≡ header_over m) → Stands message place (front_octets m) end → HeaderAt message place (header_over m) (place + 12)
header_stands m message place end back there =
    let h = header_octets (header_over m) in
    record {
      means = sym (ap header_of (there.there ∙ append_assoc h m.asked.octets (drop end message)) ∙ back (m.asked.octets ++ drop end message));
      behind = refl;
      within = omega (arith, stands_within message place (front_octets m) end (omega arith) there, there.behind);
    }
