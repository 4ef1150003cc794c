-- The texts of record data that are names and numbers (RFC 1035 5.1).
use Rattle.std.specs.Prelude.{ℕ, List, [], ◌∷◌, ◌++◌, Option}
use Rattle.std.specs.Fmt.{decimal, signed_decimal}
use Rattle.std.specs.List.{flat_map}
use Rattle.drd_words.specs.dnw_codes.Ascii.{space}
use Rattle.drd_words.specs.dnw_codes.declared.error.ParseError.{ParseError}
use Rattle.drd_words.specs.dnw_name.DomainName.{DomainName}
use Rattle.drd_words.specs.dnw_name.NamePrint.{name_print}
use Rattle.drd_words.specs.declared.word.TimeInterval.{TimeInterval}
use Rattle.drd_words.specs.declared.word.TimeToLive.{TimeToLive}
use Rattle.drd_words.specs.Refusals.{RefusesNumber, RefusesInterval, RefusesTtl, RefusesNameWord, RefusesMore, RefusesOneThen}
use Rattle.drd_words.specs.Word.{IsNumberWord, IsTtlWord, IsIntervalWord, IsNameWord}
use Rattle.drd_words.specs.Words.{NoWords, OneThen}
use Rattle.drd_names.specs.declared.aname.ANAME.{ANAME}
use Rattle.drd_names.specs.declared.cname.CNAME.{CNAME}
use Rattle.drd_names.specs.declared.mx.MX.{MX}
use Rattle.drd_names.specs.declared.ns.NS.{NS}
use Rattle.drd_names.specs.declared.ptr.PTR.{PTR}
use Rattle.drd_names.specs.declared.soa.SOA.{SOA}
use Rattle.drd_names.specs.declared.srv.SRV.{SRV}

-- No name is the first word, or it is, and the rest is refused; the same for a number of so many
-- bits, and for an interval.
abbrev pub RefusesNameThen : Option DomainName → (List (List ℕ) → ParseError → Type 0)
    → List (List ℕ) → ParseError → Type 0
RefusesNameThen origin RefusesRest =
    RefusesOneThen (IsNameWord origin) (RefusesNameWord origin) RefusesRest

abbrev pub RefusesNumberThen : ℕ → (List (List ℕ) → ParseError → Type 0) → List (List ℕ)
    → ParseError → Type 0
RefusesNumberThen bits RefusesRest =
    RefusesOneThen (IsNumberWord bits) (RefusesNumber bits) RefusesRest

abbrev pub RefusesIntervalThen : (List (List ℕ) → ParseError → Type 0) → List (List ℕ)
    → ParseError → Type 0
RefusesIntervalThen RefusesRest =
    RefusesOneThen (λ (interval : TimeInterval). IsIntervalWord interval.0) RefusesInterval
    RefusesRest

-- One word, a name.
abbrev pub IsOneName : List (List ℕ) → Option DomainName → DomainName → Type 0
IsOneName words origin name = OneThen (IsNameWord origin name) NoWords words

abbrev pub RefusesOneName : List (List ℕ) → Option DomainName → ParseError → Type 0
RefusesOneName words origin e = RefusesNameThen origin RefusesMore words e

-- RFC 1035 3.3.1: the canonical name.
abbrev pub IsCnameText : List (List ℕ) → Option DomainName → CNAME → Type 0
IsCnameText words origin cname = IsOneName words origin cname.0

-- RFC 1035 3.3.11: the name server.
abbrev pub IsNsText : List (List ℕ) → Option DomainName → NS → Type 0
IsNsText words origin ns = IsOneName words origin ns.0

-- RFC 1035 3.3.12: the name that is pointed to.
abbrev pub IsPtrText : List (List ℕ) → Option DomainName → PTR → Type 0
IsPtrText words origin ptr = IsOneName words origin ptr.0

-- draft-ietf-dnsop-aname-04 3.2: the target.
abbrev pub IsAnameText : List (List ℕ) → Option DomainName → ANAME → Type 0
IsAnameText words origin aname = IsOneName words origin aname.0

-- RFC 1035 3.3.9: the preference and the exchange.
abbrev pub IsMxText : List (List ℕ) → Option DomainName → MX → Type 0
IsMxText words origin mx =
    OneThen (IsNumberWord 16 mx.preference) (OneThen (IsNameWord origin mx.exchange) NoWords) words

abbrev pub RefusesMxText : List (List ℕ) → Option DomainName → ParseError → Type 0
RefusesMxText words origin e =
    RefusesNumberThen 16 (RefusesNameThen origin RefusesMore) words e

-- RFC 2782: priority, weight, port and target.
abbrev pub IsSrvText : List (List ℕ) → Option DomainName → SRV → Type 0
IsSrvText words origin srv =
    OneThen (IsNumberWord 16 srv.priority)
    (OneThen (IsNumberWord 16 srv.weight)
    (OneThen (IsNumberWord 16 srv.port) (OneThen (IsNameWord origin srv.target) NoWords))) words

abbrev pub RefusesSrvText : List (List ℕ) → Option DomainName → ParseError → Type 0
RefusesSrvText words origin e =
    RefusesNumberThen 16
    (RefusesNumberThen 16 (RefusesNumberThen 16 (RefusesNameThen origin RefusesMore))) words e

-- RFC 1035 3.3.13: the primary server, the mailbox, the serial number and four intervals, each a
-- time to live. Three of the intervals are held as signed numbers and have at most 31 bits.
abbrev pub IsSoaText : List (List ℕ) → Option DomainName → SOA → Type 0
IsSoaText words origin soa =
    OneThen (IsNameWord origin soa.mname)
    (OneThen (IsNameWord origin soa.rname)
    (OneThen (IsNumberWord 32 soa.serial)
    (OneThen (IsIntervalWord soa.refresh)
    (OneThen (IsIntervalWord soa.retry)
    (OneThen (IsIntervalWord soa.expire) (OneThen (IsTtlWord soa.minimum) NoWords)))))) words

abbrev pub RefusesSoaText : List (List ℕ) → Option DomainName → ParseError → Type 0
RefusesSoaText words origin e =
    RefusesNameThen origin
    (RefusesNameThen origin
    (RefusesNumberThen 32
    (RefusesIntervalThen
    (RefusesIntervalThen
    (RefusesIntervalThen
    (RefusesOneThen (λ (ttl : TimeToLive). IsTtlWord ttl.0) RefusesTtl RefusesMore)))))) words e

-- Printed words, one space apart.
abbrev pub spaces_between : List (List ℕ) → List ℕ
spaces_between [] = []
spaces_between (word ∷ words) = word ++ flat_map (λ later. space ∷ later) words

-- RFC 1035 3.3.9.
abbrev pub mx_print : MX → List ℕ
mx_print mx = spaces_between (decimal mx.preference ∷ name_print mx.exchange ∷ [])

-- RFC 2782.
abbrev pub srv_print : SRV → List ℕ
srv_print srv =
    spaces_between
    (decimal srv.priority ∷ decimal srv.weight ∷ decimal srv.port ∷ name_print srv.target ∷ [])

-- The serial number and the four intervals, in decimal digits.
abbrev pub numbers_print : SOA → List ℕ
numbers_print soa =
    spaces_between
    (decimal soa.serial ∷ signed_decimal soa.refresh ∷ signed_decimal soa.retry
    ∷ signed_decimal soa.expire ∷ decimal soa.minimum ∷ [])

-- RFC 1035 3.3.13: the two names, and the numbers.
abbrev pub soa_print : SOA → List ℕ
soa_print soa =
    name_print soa.mname ++ (space ∷ name_print soa.rname) ++ (space ∷ numbers_print soa)
