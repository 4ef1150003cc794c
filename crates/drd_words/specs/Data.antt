-- Octets in base64 and hex (RFC 4648), in one word or several.
use Rattle.std.specs.Prelude.{ℕ, ◌≡◌, Ok, List}
use Rattle.base64.specs.Engines.{standard}
use Rattle.base64.specs.GeneralPurpose.{encode_of, IsBytes}
use Rattle.hex.specs.Hex.{decode_of}
use Rattle.drd_words.specs.Words.{Joined}

-- The base64 of the octets (RFC 4648 4), with its padding.
abbrev pub IsBase64Text : List ℕ → List ℕ → Type 0
IsBase64Text octets text = (text ≡ encode_of standard octets) × IsBytes octets

-- Two digits for each octet (RFC 4648 8), in either case.
abbrev pub IsHexText : List ℕ → List ℕ → Type 0
IsHexText octets text = decode_of text ≡ Ok octets

-- All words that are left make up the base64 of the octets.
abbrev pub IsBase64Words : List ℕ → List (List ℕ) → Type 0
IsBase64Words octets words = Joined (IsBase64Text octets) words

-- All words that are left make up the hex of the octets.
abbrev pub IsHexWords : List ℕ → List (List ℕ) → Type 0
IsHexWords octets words = Joined (IsHexText octets) words
