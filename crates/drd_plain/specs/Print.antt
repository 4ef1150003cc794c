-- Printed record data (RFC 1035 5.1).
use Rattle.std.specs.Prelude.{ℕ, List, [], ◌∷◌, ◌++◌}
use Rattle.std.specs.Fmt.{decimal}
use Rattle.std.specs.List.{flat_map}
use Rattle.base64.specs.Engines.{standard}
use Rattle.base64.specs.GeneralPurpose.{encode_of}
use Rattle.drd_words.specs.dnw_codes.Ascii.{space}
use Rattle.drd_words.specs.dnw_name.NamePrint.{name_print}
use Rattle.drd_words.specs.Print.{escaped_print, quotation, words_from}
use Rattle.drd_plain.specs.declared.hinfo.HINFO.{HINFO}
use Rattle.drd_plain.specs.declared.naptr.NAPTR.{NAPTR}
use Rattle.drd_plain.specs.declared.null.NULL.{NULL}
use Rattle.drd_plain.specs.declared.txt.TXT.{TXT}
use Rattle.drd_plain.specs.Fields.{txt_strings}

-- The processor and the operating system.
abbrev pub hinfo_print : HINFO → List ℕ
hinfo_print hinfo = words_from (escaped_print hinfo.cpu.items) (escaped_print hinfo.os.items ∷ [])

-- The strings without anything between them.
abbrev pub txt_print : TXT → List ℕ
txt_print txt = flat_map escaped_print (txt_strings txt)

-- Three strings, each behind a space.
abbrev pub naptr_strings : List ℕ → List ℕ → List ℕ → List ℕ
naptr_strings flags services regexp =
    space ∷ quotation flags ++ space ∷ quotation services ++ space ∷ quotation regexp

-- Order, preference, flags, services, regexp and replacement.
abbrev pub naptr_print : NAPTR → List ℕ
naptr_print n =
    decimal n.order ++ space ∷ decimal n.preference
    ++ naptr_strings n.flags.items n.services.items n.regexp.items
    ++ space ∷ name_print n.replacement

-- The octets in base64.
abbrev pub null_print : NULL → List ℕ
null_print null = encode_of standard null.anything.items
