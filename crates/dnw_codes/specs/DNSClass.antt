-- Classes of records, their numbers and texts (RFC 1035 3.2.4; RFC 6895 3.2; RFC 3597 5).
use Rattle.std.specs.Prelude.{ℕ, ◌==◌, ◌++◌, Bool, List, [], ◌∷◌, Option, unwrap_or, codes, find}
use Rattle.std.specs.Fmt.{decimal}
use Rattle.std.specs.Option.{option_or, option_map}
use Rattle.std.specs.Ordering.{on, nat_cmp}
use Rattle.std.specs.Str.{bytes_eq}
use Rattle.std.specs.declared.cmp.Ordering.{Ordering}
use Rattle.dnw_codes.specs.Digits.{number_behind}
use Rattle.dnw_codes.specs.declared.dns_class.DNSClass.{DNSClass}
use Rattle.dnw_codes.specs.declared.dns_class.DNSClass.TheVariants.{IN, CH, HS, NONE, ANY, OPT, Unknown}

-- The number that stands for a class in a message.
abbrev pub class_number : DNSClass → ℕ
class_number IN = 1
class_number CH = 3
class_number HS = 4
class_number NONE = 254
class_number ANY = 255
class_number (OPT payload) = payload
class_number (Unknown number) = number

-- The classes that have a name, by rising number.
abbrev pub named_classes : List DNSClass
named_classes = IN ∷ CH ∷ HS ∷ NONE ∷ ANY ∷ []

-- The class that a number stands for.
abbrev pub class_of : ℕ → DNSClass
class_of number =
    unwrap_or (find (λ named. class_number named == number) named_classes) (Unknown number)

-- A class's name; the others have one together.
abbrev pub class_name : DNSClass → List ℕ
class_name IN = codes "IN"
class_name CH = codes "CH"
class_name HS = codes "HS"
class_name NONE = codes "NONE"
class_name ANY = codes "ANY"
class_name (OPT payload) = codes "OPT"
class_name (Unknown number) = codes "UNKNOWN"

-- A class's text: its name, or `CLASS` and its number (RFC 3597 5).
abbrev pub class_text : DNSClass → List ℕ
class_text (OPT payload) = codes "CLASS" ++ decimal payload
class_text (Unknown number) = codes "CLASS" ++ decimal number
class_text named = class_name named

-- Two classes are the same where their numbers are.
abbrev pub same_class : DNSClass → DNSClass → Bool
same_class = on class_number ◌==◌

-- Classes in the order of their numbers.
abbrev pub class_cmp : DNSClass → DNSClass → Ordering
class_cmp = on class_number nat_cmp

-- The class of a text: the one of that name, or the one of the number behind `CLASS` (RFC 3597 5).
abbrev pub class_of_text : List ℕ → Option DNSClass
class_of_text text =
    option_or
    (find (λ named. bytes_eq (class_name named) text) named_classes)
    (option_map class_of (number_behind (codes "CLASS") text))
