-- The header's octets hold its fields.
use Rattle.std.proofs.Common.{◌≡◌, ℕ, ◌+◌, ◌*◌, ◌/◌, ◌%◌, ◌^◌, ◌<◌, ◌≤◌, Bool, true, false, List, [], ◌∷◌, ◌++◌, append-nil, get_or, refl, sym, ap, ◌∙◌, arith, eq-eqb}
use Rattle.std.specs.Int.{w16, to_be_bytes}
use Rattle.std.specs.Prelude.{◌==◌}
use Rattle.zsv_parts.specs.declared.header.MessageType.{MessageType}
use Rattle.zsv_parts.specs.declared.header.MessageType.TheVariants as types
use Rattle.zsv_parts.specs.declared.header.OpCode.{OpCode}
use Rattle.zst_codes.specs.declared.response_code.ResponseCode.{ResponseCode}
use Rattle.zsv_parts.specs.declared.header.Metadata.{Metadata}
use Rattle.zsv_parts.specs.declared.header.Header.{Header}
use Rattle.std.specs.Prelude.{if◌then◌else◌}
use Rattle.zst_codes.specs.ResponseCode.{response_code_of, response_code_number}
use Rattle.zsv_parts.specs.Headers.{flag, is_response, op_code_of, op_code_number, high_octet, low_octet, metadata_of, header_of, header_octets, reserved_bit, FitsHeader}

flag_small : (b : Bool) → flag b ≤ 1
flag_small true = omega arith
flag_small false = omega arith

-- A bit that is the flag's number is the flag.
bit_is : (q : ℕ) (b : Bool) → q ≡ flag b → (q == 1) ≡ b
bit_is q true e = eq-eqb q 1 e
bit_is q false e = ap (λ (n : ℕ). n == 1) e

five_bits : (r op a t d : ℕ) → r ≤ 1 → op < 16 → a ≤ 1 → t ≤ 1 → d ≤ 1 →
    ((128 * r + 8 * op + 4 * a + 2 * t + d) / 128 % 2 ≡ r)
    × ((128 * r + 8 * op + 4 * a + 2 * t + d) / 8 % 16 ≡ op)
    × ((128 * r + 8 * op + 4 * a + 2 * t + d) / 4 % 2 ≡ a)
    × ((128 * r + 8 * op + 4 * a + 2 * t + d) / 2 % 2 ≡ t)
    × ((128 * r + 8 * op + 4 * a + 2 * t + d) / 1 % 2 ≡ d)
five_bits r op a t d h1 h2 h3 h4 h5 = (omega arith, omega arith, omega arith, omega arith, omega arith)

three_bits : (r a c code : ℕ) → r ≤ 1 → a ≤ 1 → c ≤ 1 → code < 16 →
    ((128 * r + 32 * a + 16 * c + code) / 128 % 2 ≡ r)
    × ((128 * r + 32 * a + 16 * c + code) / 32 % 2 ≡ a)
    × ((128 * r + 32 * a + 16 * c + code) / 16 % 2 ≡ c)
    × ((128 * r + 32 * a + 16 * c + code) % 16 ≡ code)
three_bits r a c code h1 h2 h3 h4 = (omega arith, omega arith, omega arith, omega arith)

type_back : (t : MessageType) (b : Bool) → b ≡ is_response t → (if b then types.Response else types.Query) ≡ t
type_back types.Query b e = ap (λ (x : Bool). if x then types.Response else types.Query) e
type_back types.Response b e = ap (λ (x : Bool). if x then types.Response else types.Query) e

made : ℕ → MessageType → OpCode → Bool → Bool → Bool → Bool → Bool → Bool → ResponseCode → Metadata
made id t op a tc rd ra ad cd code = record { id = id; message_type = t; op_code = op; authoritative = a; truncation = tc; recursion_desired = rd; recursion_available = ra; authentic_data = ad; checking_disabled = cd; response_code = code }

-- The two octets of flags hold what they were made of.
pub flags_back : (m : Metadata) → FitsHeader m → metadata_of m.id (high_octet m) (low_octet m) ≡ m
unfolding made
flags_back m f =
    let h = five_bits (flag (is_response m.message_type)) (op_code_number m.op_code % 16) (flag m.authoritative) (flag m.truncation) (flag m.recursion_desired)
    (flag_small (is_response m.message_type)) (omega arith) (flag_small m.authoritative) (flag_small m.truncation) (flag_small m.recursion_desired) in
    let l = three_bits (flag m.recursion_available) (flag m.authentic_data) (flag m.checking_disabled) (response_code_number m.response_code % 16)
    (flag_small m.recursion_available) (flag_small m.authentic_data) (flag_small m.checking_disabled) (omega arith) in
    let t = type_back m.message_type _ (bit_is _ _ h.0) in
    let four : op_code_number m.op_code % 16 ≡ op_code_number m.op_code = omega (arith, f.small_op_code) in
    let four_low : response_code_number m.response_code % 16 ≡ response_code_number m.response_code = omega (arith, f.small_response_code) in
    let op = ap op_code_of (h.1 ∙ four) ∙ f.op_code in
    let code = ap response_code_of (l.3 ∙ four_low) ∙ f.response_code in
    λ i. made m.id (t i) (op i) (bit_is _ _ h.2 i) (bit_is _ _ h.3 i) (bit_is _ _ h.4 i) (bit_is _ _ l.0 i) (bit_is _ _ l.1 i) (bit_is _ _ l.2 i) (code i)

header_made : Metadata → ℕ → ℕ → ℕ → ℕ → Header
header_made m q a n d = record { metadata = m; counts = record { queries = q; answers = a; authorities = n; additionals = d } }

-- Twelve octets hold the header that they were made of.
pub header_back : (h : Header) (i j high low q q' a a' n n' d d' : ℕ) (rest : List ℕ) → FitsHeader h.metadata → 256 * i + j ≡ h.metadata.id → high ≡ high_octet h.metadata → low ≡ low_octet h.metadata →
    256 * q + q' ≡ h.counts.queries → 256 * a + a' ≡ h.counts.answers → 256 * n + n' ≡ h.counts.authorities → 256 * d + d' ≡ h.counts.additionals →
    header_of (i ∷ j ∷ high ∷ low ∷ q ∷ q' ∷ a ∷ a' ∷ n ∷ n' ∷ d ∷ d' ∷ rest) ≡ h
unfolding header_made
header_back h i j high low q q' a a' n n' d d' rest f e_id e_high e_low e_q e_a e_n e_d =
    let flags : metadata_of (256 * i + j) high low ≡ h.metadata = (λ k. metadata_of (e_id k) (e_high k) (e_low k)) ∙ flags_back h.metadata f in
    λ k. header_made (flags k) (e_q k) (e_a k) (e_n k) (e_d k)

-- A number in two octets.
pub two_octets : (n : ℕ) (octets : List ℕ) → n < 2 ^ 16 → octets ≡ to_be_bytes w16 n → 256 * get_or octets 0 0 + get_or octets 1 0 ≡ n
two_octets n octets small e = rw e (omega arith)

halves : (n : ℕ) → n < 2 ^ 16 → 256 * (n / 256 % 256) + n % 256 ≡ n
halves n small = omega arith

-- The octets of a header hold it, whatever stands behind them.
pub octets_back : (h : Header) (rest : List ℕ) → FitsHeader h.metadata → h.metadata.id < 2 ^ 16 → h.counts.queries < 2 ^ 16 → h.counts.answers < 2 ^ 16 → h.counts.authorities < 2 ^ 16 → h.counts.additionals < 2 ^ 16 →
    header_of (header_octets h ++ rest) ≡ h
octets_back h rest f id queries answers authorities additionals =
    header_back h _ _ _ _ _ _ _ _ _ _ _ _ rest f (halves h.metadata.id id) refl refl (halves h.counts.queries queries) (halves h.counts.answers answers) (halves h.counts.authorities authorities) (halves h.counts.additionals additionals)

no_64 : (r a c code : ℕ) → r ≤ 1 → a ≤ 1 → c ≤ 1 → code < 16 → (128 * r + 32 * a + 16 * c + code) / 64 % 2 ≡ 0
no_64 r a c code h1 h2 h3 h4 = omega arith

-- They leave the reserved bit zero.
pub reserved_zero : (h : Header) (rest : List ℕ) → reserved_bit (header_octets h ++ rest) ≡ false
reserved_zero h rest =
    let m = h.metadata in
    bit_is _ false (no_64 (flag m.recursion_available) (flag m.authentic_data) (flag m.checking_disabled) (response_code_number m.response_code % 16)
    (flag_small m.recursion_available) (flag_small m.authentic_data) (flag_small m.checking_disabled) (omega arith))

pub reserved_of : (octets : List ℕ) (h : Header) → octets ≡ header_octets h → reserved_bit octets ≡ false
reserved_of octets h is = ap reserved_bit (is ∙ sym (append-nil (header_octets h))) ∙ reserved_zero h []
