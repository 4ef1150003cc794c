-- Options of EDNS: a code and octets (RFC 6891 6.1.2).
use Rattle.std.specs.Prelude.{◌≡◌, ℕ, ◌<◌, ◌==◌, ◌&&◌, nat_eq, Bool, List, [], ◌∷◌, ◌++◌, length}
use Rattle.std.specs.Cmp.Lexicographic.{pointwise, slice_cmp}
use Rattle.std.specs.Ordering.{on, then_cmp, nat_cmp}
use Rattle.std.specs.declared.cmp.Ordering.{Ordering}
use Rattle.std.specs.Hash as fed
use Rattle.drd_fields.specs.dnw_codes.declared.error.ProtoError.{ProtoError}
use Rattle.drd_fields.specs.dnw_codes.declared.error.ProtoError.TheVariants.{Message}
use Rattle.drd_opt.specs.Subnets.{subnet_octets, SubnetAt}
use Rattle.drd_opt.specs.declared.subnet.ClientSubnet.{ClientSubnet}
use Rattle.drd_opt.specs.declared.option.EdnsOption.{EdnsOption}
use Rattle.drd_opt.specs.declared.option.EdnsOption.TheVariants.{DAU, Subnet, NSID, Unknown}

-- The number of an option's code.
abbrev pub option_code : EdnsOption → ℕ
option_code (DAU algorithms) = 5
option_code (Subnet subnet) = 8
option_code (NSID payload) = 3
option_code (Unknown number octets) = number

-- The octets of an option.
abbrev pub option_octets : EdnsOption → List ℕ
option_octets (DAU algorithms) = algorithms.items
option_octets (Subnet subnet) = subnet_octets subnet
option_octets (NSID payload) = payload
option_octets (Unknown number octets) = octets.items

-- No option of this code and these octets has a form of its own.
pub record HasNoForm (code : ℕ) (octets : List ℕ) : Type 0 where
  pub no_identifier : code ≡ 3 → ⊥
  pub no_algorithms : code ≡ 5 → ⊥
  pub no_subnet : code ≡ 8 → (subnet : ClientSubnet) (end : ℕ) → SubnetAt octets 0 subnet end → ⊥

-- The option of a code and octets: an identifier (RFC 5001 2.3), algorithms (RFC 6975 3), or a
-- subnet, whose octets may have others behind them (RFC 7871 6); otherwise the code and the octets
-- as they are.
abbrev pub IsOptionOf : ℕ → List ℕ → EdnsOption → Type 0
IsOptionOf code octets (NSID payload) = (code ≡ 3) × (payload ≡ octets)
IsOptionOf code octets (DAU algorithms) = (code ≡ 5) × (algorithms.items ≡ octets)
IsOptionOf code octets (Subnet subnet) = (code ≡ 8) × ((end : ℕ) × SubnetAt octets 0 subnet end)
IsOptionOf code octets (Unknown number kept) =
    (number ≡ code) × (kept.items ≡ octets) × HasNoForm code octets

-- Two options are the same where their codes and their octets are.
abbrev pub same_option : EdnsOption → EdnsOption → Bool
same_option a b =
    (option_code a == option_code b) && pointwise nat_eq (option_octets a) (option_octets b)

-- Octets behind their number: those that are fewer stand first, and those that are as many stand as
-- numbers from the left.
abbrev pub counted_cmp : List ℕ → List ℕ → Ordering
counted_cmp = then_cmp (on length nat_cmp) (slice_cmp nat_cmp)

-- Options stand by their codes, and those of one code by their octets.
abbrev pub option_cmp : EdnsOption → EdnsOption → Ordering
option_cmp = then_cmp (on option_code nat_cmp) (on option_octets counted_cmp)

-- What of an option is fed to a hasher: the code, and the octets.
abbrev pub option_input : EdnsOption → List (List ℕ)
option_input option = fed.u16 (option_code option) ++ option_octets option ∷ []

-- The octets are more than the 16 bits of an option's length can count.
abbrev pub IsLong : List ℕ → ProtoError → Type 0
IsLong octets (Message words) = 65535 < length octets
IsLong octets other = ⊥

-- The octets are more than an option can have in a message: code and length, 4 octets, come before
-- them in the RDATA of the OPT record, which are at most 65,535 (RFC 6891, section 6.1.2).
abbrev pub IsLongIdentifier : List ℕ → ProtoError → Type 0
IsLongIdentifier octets (Message words) = 65531 < length octets
IsLongIdentifier octets other = ⊥
