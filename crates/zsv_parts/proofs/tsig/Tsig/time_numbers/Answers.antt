use Rattle.std.proofs.Common.{◌≡◌, ℕ, ◌/◌, ◌%◌, ◌^◌, ◌∷◌, ◌++◌, List, [], ap, arith}
use Rattle.dnw_encoder.specs.dnw_decoder.Octets.{octets_16, octets_32}
use Rattle.zsv_parts.proofs.tsig.Tsig.time_numbers.Goals as goal

-- The lower 16 bits of a number have its last two octets.
lower : (n : ℕ) → octets_16 (n % 65536) ≡ octets_16 n
lower n =
    let first : n % 65536 / 256 % 256 ≡ n / 256 % 256 = omega arith in
    let second : n % 65536 % 256 ≡ n % 256 = omega arith in
    λ i. first i ∷ second i ∷ []

pub returns-clause-octets : goal.returns-clause-octets
unfolding octets_32
returns-clause-octets c =
    let time = c.args.self.now.time in
    rw (c.to_be_bytes.ensures, c.to_be_bytes-2.ensures, c.to_be_bytes-3.ensures, c.to_be_bytes-4.ensures)
    (ap (λ (front : List ℕ). front ++ (octets_32 (time % 2 ^ 32) ++ (octets_16 c.args.self.now.fudge ++ octets_16 c.args.mac_size))) (lower (time / 2 ^ 32)))
