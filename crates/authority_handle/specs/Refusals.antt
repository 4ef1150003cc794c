-- The numbers that calls from other languages return.
use Rattle.std.specs.Prelude.{◌≡◌, ◌⊎◌, ℕ, ℤ, pos, negsuc, ◌-◌, ◌^◌, min, Result, Ok, Err}
use Rattle.authority_handle.specs.declared.refusal.Refusal.{Refusal}
use Rattle.authority_handle.specs.declared.refusal.Refusal.TheVariants as refusals
use Rattle.authority_server.specs.Serving.{World, WorldReadsBack}

-- The code of a line: its number, at most 2^63 - 1.
abbrev pub line_code : ℕ → ℤ
line_code line = pos (min line (2 ^ 63 - 1))

-- The codes of refusals: -1 to -8, or the code of a line.
abbrev pub code_of : Refusal → ℤ
code_of refusals.OutOfMemory = negsuc 0
code_of refusals.NoRoom = negsuc 1
code_of refusals.WrongAddress = negsuc 2
code_of refusals.WrongName = negsuc 3
code_of refusals.WrongText = negsuc 4
code_of refusals.WrongSetting = negsuc 5
code_of refusals.TooLong = negsuc 6
code_of refusals.NotFound = negsuc 7
code_of (refusals.Line error) = line_code error.line

-- The number that is returned: 0, or the code of the refusal.
abbrev pub number_of : {X : Type 0} → Result X Refusal → ℤ
number_of (Ok done) = pos 0
number_of (Err refusal) = code_of refusal

-- The number that is returned: a length, or the code of the refusal.
abbrev pub length_or_code : Result ℕ Refusal → ℤ
length_or_code (Ok length) = pos length
length_or_code (Err refusal) = code_of refusal

-- A call succeeds and returns 0, or it is refused for a cause that applies and changes nothing. If
-- all that the server held could be read back, it still can.
pub record Changes (old new : World) (result : ℤ) (Done : Type 0) (Refuses : Refusal → Type 0)
    : Type 0 where
  pub answers : ((result ≡ pos 0) × Done)
      ⊎ ((refusal : Refusal) × (result ≡ code_of refusal) × Refuses refusal × (new ≡ old))
  pub back : WorldReadsBack old → WorldReadsBack new
