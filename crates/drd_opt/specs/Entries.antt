-- The entries of an OPT record: options under their codes (RFC 6891 6.1.2).
use Rattle.std.specs.Prelude.{ℕ, ◌<◌, ◌≤◌, ◌^◌, Bool, not, List, [], ◌∷◌, ◌++◌, length, map, codes}
use Rattle.std.proofs.Common.{◌⊎◌}
use Rattle.std.specs.List.{All, filter, flat_map}
use Rattle.std.specs.Fmt.{decimal}
use Rattle.drd_fields.specs.dnw_codes.declared.error.ProtoError.{ProtoError}
use Rattle.drd_fields.specs.dnw_decoder.Octets.{octets_16}
use Rattle.drd_opt.specs.Codes.{edns_code_number, same_edns_code}
use Rattle.drd_opt.specs.Options.{option_octets, IsLong}
use Rattle.hex.specs.Hex.{encode_lower}
use Rattle.drd_opt.specs.declared.code.EdnsCode.{EdnsCode}
use Rattle.drd_opt.specs.declared.option.EdnsOption.{EdnsOption}

abbrev pub Entry : Type 0
Entry = EdnsCode × EdnsOption

-- An option as it is written: the number of its code, and its octets.
pub record RawOption : Type 0 where
  pub code : ℕ
  pub octets : List ℕ

abbrev pub raw_option : ℕ → List ℕ → RawOption
raw_option code octets = record { code = code; octets = octets }

abbrev pub raw_of : Entry → RawOption
raw_of entry = raw_option (edns_code_number entry.0) (option_octets entry.1)

-- 16 bits hold the code and the number of octets.
pub record FitsLengths (option : RawOption) : Type 0 where
  pub code : option.code < 2 ^ 16
  pub octets : length option.octets < 2 ^ 16

-- The code, the number of octets, and the octets.
abbrev pub raw_octets : RawOption → List ℕ
raw_octets option = octets_16 option.code ++ octets_16 (length option.octets) ++ option.octets

-- Options one behind the other.
abbrev pub options_octets : List RawOption → List ℕ
options_octets raws = flat_map raw_octets raws

abbrev pub entries_octets : List Entry → List ℕ
entries_octets entries = options_octets (map raw_of entries)

-- Some option has more octets than 16 bits can count.
abbrev pub HasLong : List Entry → ProtoError → Type 0
HasLong [] e = ⊥
HasLong (entry ∷ entries) e = IsLong (option_octets entry.1) e ⊎ HasLong entries e

-- No option has more.
abbrev pub AreCountable : List Entry → Type 0
AreCountable entries = All (λ entry. length (option_octets entry.1) ≤ 65535) entries

-- An entry under a code.
abbrev pub has_code : EdnsCode → Entry → Bool
has_code code entry = same_edns_code entry.0 code

-- The options under a code, in order.
abbrev pub options_of : EdnsCode → List Entry → List EdnsOption
options_of code entries = map (λ entry. entry.1) (filter (has_code code) entries)

-- The entries under other codes, in order.
abbrev pub entries_without : EdnsCode → List Entry → List Entry
entries_without code entries = filter (λ entry. not (has_code code entry)) entries

-- A code in decimal, a colon, and octets in hex.
abbrev pub entry_print : Entry → List ℕ
entry_print entry =
    decimal (edns_code_number entry.0) ++ codes ":" ++ encode_lower (option_octets entry.1)

-- The entries, one space apart.
abbrev pub entries_print : List Entry → List ℕ
entries_print [] = []
entries_print (entry ∷ later) =
    entry_print entry ++ flat_map (λ next. codes " " ++ entry_print next) later
