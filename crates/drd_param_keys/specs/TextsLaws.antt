-- The causes that texts of keys and protocols are refused by.
use Rattle.std.specs.Prelude.{ℕ, List, codes, String}
use Rattle.std.proofs.Common.{inl, inr, arith}
use Rattle.std.specs.declared.alloc.Global.{Global}
use Rattle.drd_words.specs.dnw_codes.declared.error.ParseError.{ParseError}
use Rattle.drd_words.specs.dnw_codes.declared.error.ParseError.TheVariants.{UnexpectedToken}
use Rattle.drd_words.specs.Refusals.{AreCauses}
use Rattle.drd_words.specs.RefusalsLaws.{message_memory, one_error}
use Rattle.drd_words.specs.Word.{IsOutOfMemory}
use Rattle.drd_param_keys.specs.Texts.{IsKeyText, RefusesKeyText, IsProtocolText, RefusesProtocolText}

pub key_causes : (text : List ℕ) → AreCauses (λ k. IsKeyText k text) (RefusesKeyText text)
key_causes text = one_error (λ k. IsKeyText k text) UnexpectedToken (λ m. m)

protocol_none : (text : List ℕ) (e : ParseError) → RefusesProtocolText text e
    → (protocol : String Global) → IsProtocolText protocol text → ⊥
protocol_none text e (inl none) protocol is = omega (arith, none.1, is.1)
protocol_none text e (inr long) protocol is = omega (arith, long.1, is.2)

protocol_memory : (text : List ℕ) (e : ParseError) → RefusesProtocolText text e
    → IsOutOfMemory e → ⊥
protocol_memory text e (inl none) =
    message_memory (codes "a protocol has at least one octet") e none.0
protocol_memory text e (inr long) =
    message_memory (codes "a protocol has at most 255 octets") e long.0

pub protocol_causes : (text : List ℕ)
    → AreCauses (λ protocol. IsProtocolText protocol text) (RefusesProtocolText text)
protocol_causes text = record { none = protocol_none text; memory = protocol_memory text }
