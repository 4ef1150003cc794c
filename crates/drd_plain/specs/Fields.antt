-- The fields of record data that are strings, flags or octets alone.
use Rattle.std.specs.Prelude.{ℕ, List, [], ◌∷◌, map}
use Rattle.drd_fields.specs.Fields.{Field, short, name, string, strings, rest, Kind, a_short, a_name, a_string, all_strings, the_rest}
use Rattle.drd_plain.specs.declared.hinfo.HINFO.{HINFO}
use Rattle.drd_plain.specs.declared.naptr.NAPTR.{NAPTR}
use Rattle.drd_plain.specs.declared.null.NULL.{NULL}
use Rattle.drd_plain.specs.declared.txt.TXT.{TXT}

-- RFC 1035 3.3.2: the processor, then the operating system.
abbrev pub hinfo_fields : HINFO → List Field
hinfo_fields hinfo = string hinfo.cpu.items ∷ string hinfo.os.items ∷ []

abbrev pub hinfo_kinds : List Kind
hinfo_kinds = a_string ∷ a_string ∷ []

-- The octets of each string of the data.
abbrev pub txt_strings : TXT → List (List ℕ)
txt_strings txt = map (λ s. s.items) txt.txt_data.items

-- RFC 1035 3.3.14: strings up to the end of the data.
abbrev pub txt_fields : TXT → List Field
txt_fields txt = strings (txt_strings txt) ∷ []

abbrev pub txt_kinds : List Kind
txt_kinds = all_strings ∷ []

-- RFC 1035 3.3.10: anything at all.
abbrev pub null_fields : NULL → List Field
null_fields null = rest null.anything.items ∷ []

abbrev pub null_kinds : List Kind
null_kinds = the_rest ∷ []

-- RFC 3403 4.1: order, preference, flags, services, regexp and replacement.
abbrev pub naptr_fields : NAPTR → List Field
naptr_fields n =
    short n.order ∷ short n.preference ∷ string n.flags.items ∷ string n.services.items
    ∷ string n.regexp.items ∷ name n.replacement ∷ []

abbrev pub naptr_kinds : List Kind
naptr_kinds = a_short ∷ a_short ∷ a_string ∷ a_string ∷ a_string ∷ a_name ∷ []
