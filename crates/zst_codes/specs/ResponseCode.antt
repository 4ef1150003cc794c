-- Response codes, their numbers and texts (RFC 1035 4.1.1; RFC 2136 2.2; RFC 6891 6.1.3).
use Rattle.std.specs.Prelude.{ℕ, Bool, ◌==◌, ◌+◌, ◌*◌, ◌/◌, ◌%◌, List, [], ◌∷◌, unwrap_or, codes, find}
use Rattle.std.specs.Ordering.{on}
use Rattle.zst_codes.specs.declared.response_code.ResponseCode.{ResponseCode}
use Rattle.zst_codes.specs.declared.response_code.ResponseCode.TheVariants.{NoError, FormErr, ServFail, NXDomain, NotImp, Refused, YXDomain, YXRRSet, NXRRSet, NotAuth, NotZone, BADVERS, BADKEY, BADTIME, BADMODE, BADNAME, BADALG, BADTRUNC, BADCOOKIE, Unknown}

-- The number that stands for a code in messages.
abbrev pub response_code_number : ResponseCode → ℕ
response_code_number NoError = 0
response_code_number FormErr = 1
response_code_number ServFail = 2
response_code_number NXDomain = 3
response_code_number NotImp = 4
response_code_number Refused = 5
response_code_number YXDomain = 6
response_code_number YXRRSet = 7
response_code_number NXRRSet = 8
response_code_number NotAuth = 9
response_code_number NotZone = 10
response_code_number BADVERS = 16
response_code_number BADKEY = 17
response_code_number BADTIME = 18
response_code_number BADMODE = 19
response_code_number BADNAME = 20
response_code_number BADALG = 21
response_code_number BADTRUNC = 22
response_code_number BADCOOKIE = 23
response_code_number (Unknown number) = number

-- The codes that have a name, by rising number.
abbrev pub named_response_codes : List ResponseCode
named_response_codes =
    NoError ∷ FormErr ∷ ServFail ∷ NXDomain ∷ NotImp ∷ Refused ∷ YXDomain ∷ YXRRSet ∷ NXRRSet
    ∷ NotAuth ∷ NotZone ∷ BADVERS ∷ BADKEY ∷ BADTIME ∷ BADMODE ∷ BADNAME ∷ BADALG ∷ BADTRUNC
    ∷ BADCOOKIE ∷ []

-- The code that a number stands for.
abbrev pub response_code_of : ℕ → ResponseCode
response_code_of number =
    unwrap_or (find (λ named. response_code_number named == number) named_response_codes)
    (Unknown number)

-- Two codes are the same where their numbers are.
abbrev pub same_response_code : ResponseCode → ResponseCode → Bool
same_response_code = on response_code_number ◌==◌

-- RFC 1035 4.1.1: a header holds the last four bits of a code.
abbrev pub low_bits : ResponseCode → ℕ
low_bits code = response_code_number code % 16

-- RFC 6891 6.1.3: an OPT record holds the eight bits above these. No message holds those above.
abbrev pub high_bits : ResponseCode → ℕ
high_bits code = response_code_number code / 16 % 256

-- RFC 6891 6.1.3: the code of the eight bits of an OPT record and the four of a header, which are
-- the last of an octet.
abbrev pub joined_code : ℕ → ℕ → ResponseCode
joined_code high low = response_code_of (16 * high + low % 16)

-- What a code means, in words; the unnamed ones have theirs together.
abbrev pub response_code_text : ResponseCode → List ℕ
response_code_text NoError = codes "No Error"
response_code_text FormErr = codes "Form Error"
response_code_text ServFail = codes "Server Failure"
response_code_text NXDomain = codes "Non-Existent Domain"
response_code_text NotImp = codes "Not Implemented"
response_code_text Refused = codes "Query Refused"
response_code_text YXDomain = codes "Name should not exist"
response_code_text YXRRSet = codes "RR Set should not exist"
response_code_text NXRRSet = codes "RR Set does not exist"
response_code_text NotAuth = codes "Not authorized"
response_code_text NotZone = codes "Name not in zone"
response_code_text BADVERS = codes "Bad option versions"
response_code_text BADKEY = codes "Key not recognized"
response_code_text BADTIME = codes "Signature out of time window"
response_code_text BADMODE = codes "Bad TKEY mode"
response_code_text BADNAME = codes "Duplicate key name"
response_code_text BADALG = codes "Algorithm not supported"
response_code_text BADTRUNC = codes "Bad truncation"
response_code_text BADCOOKIE = codes "Bad server cookie"
response_code_text (Unknown number) = codes "Unknown response code"
