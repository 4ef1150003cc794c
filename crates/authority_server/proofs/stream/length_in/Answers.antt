use Rattle.std.proofs.Common.{◌≡◌, ◌+◌, ◌*◌, ◌/◌, ◌%◌, ◌<◌, ℕ, List, ◌∷◌, [], arith, length, get_or, sym}
use Rattle.authority_server.proofs.stream.length_in.Goals as goal

-- Two octets are the octets of their number.
pair : (octets : List ℕ) (n : ℕ) → length octets ≡ 2 → get_or octets 0 0 < 256 → get_or octets 1 0 < 256 → n ≡ get_or octets 0 0 * 256 + get_or octets 1 0 → octets ≡ n / 256 % 256 ∷ n % 256 ∷ []
pair [] n long a b e = absurd (omega arith)
pair (x ∷ []) n long a b e = absurd (omega arith)
pair (x ∷ y ∷ []) n long a b e =
    let high : x ≡ n / 256 % 256 = omega arith in
    let low : y ≡ n % 256 = omega arith in
    λ i. high i ∷ low i ∷ []
pair (x ∷ y ∷ z ∷ zs) n long a b e = absurd (omega arith)

pub returns : goal.returns
returns c = sym (pair c.args.octets.now c.from_be_bytes.result c.requires (omega (arith, c.type_inv.octets 0)) (omega (arith, c.type_inv.octets 1)) c.from_be_bytes.ensures)
