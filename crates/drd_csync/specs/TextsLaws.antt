-- The causes that words of CSYNC data are refused by, and what words of such data write.
use Rattle.std.specs.Prelude.{ℕ, List, [], ◌∷◌, codes, refl}
use Rattle.std.proofs.Common.{inl, inr, arith}
use Rattle.drd_words.specs.Refusals.{AreAlike, AreCauses, IsOneCause}
use Rattle.drd_words.specs.RefusalsLaws.{by_written, one_error, also_one, only_error, each_causes, each_one, message_memory, message_one, number_causes, number_one, one_then_one}
use Rattle.drd_words.specs.Word.{IsNumberWord, IsOutOfMemory}
use Rattle.drd_words.specs.Words.{OneThen}
use Rattle.drd_words.specs.dnw_codes.declared.error.ParseError.{ParseError}
use Rattle.drd_words.specs.dnw_codes.declared.error.ParseError.TheVariants.{UnknownRecordType}
use Rattle.drd_csync.specs.declared.csync.CSYNC.{CSYNC}
use Rattle.drd_csync.specs.Data.{csync_flags}
use Rattle.drd_csync.specs.OrderLaws.{few_flags}
use Rattle.drd_csync.specs.Texts.{IsTypeWord, AreTypeWords, RefusesType, RefusesTypes, IsFlagsWord, RefusesFlags, IsCsyncText, RefusesCsyncText}

pub type_causes : (word : List ℕ)
    → AreCauses (λ record_type. IsTypeWord record_type word) (RefusesType word)
type_causes word = one_error (λ record_type. IsTypeWord record_type word) UnknownRecordType (λ m. m)

pub types_causes : (words : List (List ℕ))
    → AreCauses (λ types. AreTypeWords types words) (RefusesTypes words)
types_causes words =
    by_written (λ types written. (written.0, written.1)) (each_causes type_causes words)

pub type_one : (word : List ℕ) → IsOneCause (RefusesType word)
type_one word = also_one (only_error UnknownRecordType refl)

pub types_one : (words : List (List ℕ)) → IsOneCause (RefusesTypes words)
types_one words = each_one type_causes type_one words

flags_none : (word : List ℕ) (e : ParseError) → RefusesFlags word e → (flags : ℕ)
    → IsFlagsWord flags word → ⊥
flags_none word e (inl no_number) flags written =
    (number_causes 16 word).none e no_number flags written.0
flags_none word e (inr (says, other)) flags written =
    omega (arith, other.1.1, written.0.1, other.2, written.1)

flags_memory : (word : List ℕ) (e : ParseError) → RefusesFlags word e → IsOutOfMemory e → ⊥
flags_memory word e (inl no_number) m = (number_causes 16 word).memory e no_number m
flags_memory word e (inr (says, past)) m =
    message_memory (codes "CSYNC flags are at most 3") e says m

pub flags_causes : (word : List ℕ) → AreCauses (λ flags. IsFlagsWord flags word) (RefusesFlags word)
flags_causes word = record { none = flags_none word; memory = flags_memory word }

one_flags : (word : List ℕ) (e f : ParseError) → RefusesFlags word e → RefusesFlags word f
    → AreAlike e f
one_flags word e f (inl h) (inl k) = (number_one 16 word).one e f h k
one_flags word e f (inl h) (inr k) = absurd (h.1 k.1.0 k.1.1)
one_flags word e f (inr h) (inl k) = absurd (k.1 h.1.0 h.1.1)
one_flags word e f (inr h) (inr k) =
    (message_one (codes "CSYNC flags are at most 3")).one e f h.0 k.0

pub flags_one : (word : List ℕ) → IsOneCause (RefusesFlags word)
flags_one word = record { one = one_flags word }

pub csync_one : (words : List (List ℕ)) → IsOneCause (RefusesCsyncText words)
csync_one words =
    one_then_one (number_causes 32) (number_one 32)
    (one_then_one flags_causes flags_one types_one) words

-- The words of data write their flags, which are at most 3.
pub csync_parts : (words : List (List ℕ)) (csync : CSYNC) → IsCsyncText words csync
    → OneThen (IsNumberWord 32 csync.soa_serial)
    (OneThen (IsFlagsWord (csync_flags csync)) (AreTypeWords csync.type_bit_maps)) words
csync_parts (serial ∷ flags ∷ types) csync written =
    (written.0, ((written.1.0, few_flags csync), written.1.1))
csync_parts (serial ∷ []) csync written = absurd written.1
csync_parts [] csync written = absurd written
