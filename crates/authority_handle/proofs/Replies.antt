-- The octets at the start of a buffer are the reply of that length.
use Rattle.std.proofs.Common.{◌≡◌, ℕ, suc, zero, List, [], ◌∷◌, ap, arith, refl, sym}
use Rattle.std.specs.Prelude.{Some}
use Rattle.authority_handle.specs.Calls.{StandsIn, reply_of}

pub replied : (octets buffer : List ℕ) (count : ℕ) → StandsIn octets buffer count → Some octets ≡ reply_of count buffer
replied [] buffer count stands = absurd (stands.some refl)
replied (octet ∷ octets) buffer zero stands = absurd (omega arith)
replied (octet ∷ octets) buffer (suc n) stands = ap Some (sym stands.front)
