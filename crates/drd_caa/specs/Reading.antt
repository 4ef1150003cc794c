-- Fields that are no CAA data.
use Rattle.std.specs.Prelude.{◌≡◌, false, List, ◌∷◌}
use Rattle.drd_words.specs.dnw_codes.declared.error.DecodeError.{DecodeError}
use Rattle.drd_words.specs.dnw_codes.declared.error.DecodeError.TheVariants.{CaaTagInvalid}
use Rattle.drd_fields.specs.Fields.{Field, string}
use Rattle.drd_caa.specs.Fields.{is_caa_tag}

-- The tag, which is the second field, isn't 1 to 15 letters and digits (RFC 8659 4.1).
abbrev pub CaaMisfits : List Field → DecodeError → Type 0
CaaMisfits (flags ∷ string tag ∷ fs) e = (e ≡ CaaTagInvalid) × (is_caa_tag tag ≡ false)
CaaMisfits other e = ⊥
