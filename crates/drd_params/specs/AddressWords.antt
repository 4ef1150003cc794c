-- The words that addresses are read from.
use Rattle.std.specs.Prelude.{ℕ, List}
use Rattle.std.specs.Net.Grammar.{IsIpv4Text, IsIpv6Text}
use Rattle.drd_param_keys.specs.dnw_codes.declared.error.ParseError.{ParseError}
use Rattle.drd_param_keys.specs.drd_words.Refusals.{RefusesIpv4, RefusesIpv6, RefusesMore, RefusesOneThen}
use Rattle.drd_param_keys.specs.drd_words.Words.{NoWords, OneThen}
use Rattle.drd_params.specs.declared.a.A.{A}
use Rattle.drd_params.specs.declared.aaaa.AAAA.{AAAA}

-- RFC 1035 3.4.1: the address as four decimal numbers.
abbrev pub IsAText : List (List ℕ) → A → Type 0
IsAText words a = OneThen (λ word. IsIpv4Text word a.0) NoWords words

abbrev pub RefusesAText : List (List ℕ) → ParseError → Type 0
RefusesAText = RefusesOneThen (λ address word. IsIpv4Text word address) RefusesIpv4 RefusesMore

-- RFC 3596 2.4: the address as RFC 4291 2.2 writes it.
abbrev pub IsAaaaText : List (List ℕ) → AAAA → Type 0
IsAaaaText words aaaa = OneThen (λ word. IsIpv6Text word aaaa.0) NoWords words

abbrev pub RefusesAaaaText : List (List ℕ) → ParseError → Type 0
RefusesAaaaText = RefusesOneThen (λ address word. IsIpv6Text word address) RefusesIpv6 RefusesMore
