-- The codes of EDNS options (RFC 6891 6.1.2 and its registry).
use Rattle.std.specs.Prelude.{ℕ, ◌==◌, Bool, List, [], ◌∷◌, unwrap_or, find}
use Rattle.std.specs.Ordering.{on, nat_cmp}
use Rattle.std.specs.declared.cmp.Ordering.{Ordering}
use Rattle.drd_opt.specs.declared.code.EdnsCode.{EdnsCode}
use Rattle.drd_opt.specs.declared.code.EdnsCode.TheVariants.{Zero, LLQ, UL, NSID, DAU, DHU, N3U, Subnet, Expire, Cookie, Keepalive, Padding, Chain, Unknown}

-- The number that stands for a code in a message.
abbrev pub edns_code_number : EdnsCode → ℕ
edns_code_number Zero = 0
edns_code_number LLQ = 1
edns_code_number UL = 2
edns_code_number NSID = 3
edns_code_number DAU = 5
edns_code_number DHU = 6
edns_code_number N3U = 7
edns_code_number Subnet = 8
edns_code_number Expire = 9
edns_code_number Cookie = 10
edns_code_number Keepalive = 11
edns_code_number Padding = 12
edns_code_number Chain = 13
edns_code_number (Unknown number) = number

-- The codes that have a name, by rising number.
abbrev pub named_edns_codes : List EdnsCode
named_edns_codes =
    Zero ∷ LLQ ∷ UL ∷ NSID ∷ DAU ∷ DHU ∷ N3U ∷ Subnet ∷ Expire ∷ Cookie ∷ Keepalive ∷ Padding
    ∷ Chain ∷ []

-- The code that a number stands for.
abbrev pub edns_code_of : ℕ → EdnsCode
edns_code_of number =
    unwrap_or (find (λ named. edns_code_number named == number) named_edns_codes) (Unknown number)

-- Two codes are the same where their numbers are.
abbrev pub same_edns_code : EdnsCode → EdnsCode → Bool
same_edns_code = on edns_code_number ◌==◌

-- Codes stand by their numbers.
abbrev pub edns_code_cmp : EdnsCode → EdnsCode → Ordering
edns_code_cmp = on edns_code_number nat_cmp
