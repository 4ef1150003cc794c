-- Fields that are no data of their type.
use Rattle.std.specs.Prelude.{◌≡◌, false, List, ◌∷◌}
use Rattle.drd_words.specs.dnw_codes.declared.error.DecodeError.{DecodeError}
use Rattle.drd_words.specs.dnw_codes.declared.error.DecodeError.TheVariants.{Utf8}
use Rattle.drd_fields.specs.Fields.{Field, string}
use Rattle.drd_words.specs.Word.{are_alphanumeric}

-- The flags, which are the third field, have an octet that is no letter and no digit
-- (RFC 3403 4.1).
abbrev pub NaptrMisfits : List Field → DecodeError → Type 0
NaptrMisfits (order ∷ preference ∷ string flags ∷ fs) e =
    (e ≡ Utf8) × (are_alphanumeric flags ≡ false)
NaptrMisfits other e = ⊥
