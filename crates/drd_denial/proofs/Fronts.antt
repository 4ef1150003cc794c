-- The numbers of RRSIG data, octet by octet.
use Rattle.std.proofs.Common.{◌≡◌, ℕ, List, [], ◌∷◌, refl, slice_index_or, w16, w32}
use Rattle.std.specs.Int.{to_be_bytes}
use Rattle.drd_plain.specs.dnw_decoder.Octets.{octets_32}
use Rattle.drd_denial.specs.Rrsig.{Signing, front_octets}

abbrev pub front_of : ℕ → ℕ → List ℕ → List ℕ → List ℕ → List ℕ → List ℕ
front_of algorithm labels ttl end start tag =
    algorithm ∷ labels
    ∷ slice_index_or ttl 0 0 ∷ slice_index_or ttl 1 0 ∷ slice_index_or ttl 2 0 ∷ slice_index_or ttl 3 0
    ∷ slice_index_or end 0 0 ∷ slice_index_or end 1 0 ∷ slice_index_or end 2 0 ∷ slice_index_or end 3 0
    ∷ slice_index_or start 0 0 ∷ slice_index_or start 1 0 ∷ slice_index_or start 2 0 ∷ slice_index_or start 3 0
    ∷ slice_index_or tag 0 0 ∷ slice_index_or tag 1 0 ∷ []

pub front_is : (labels ttl : ℕ) (s : Signing) →
    front_of s.algorithm labels (to_be_bytes w32 ttl) (to_be_bytes w32 s.expiration) (to_be_bytes w32 s.inception) (to_be_bytes w16 s.key_tag) ≡ front_octets labels ttl s
unfolding octets_32
front_is labels ttl s = refl
