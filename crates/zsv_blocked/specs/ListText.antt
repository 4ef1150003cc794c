-- The text of a list of names, a name on a line, alone or behind the address 0.0.0.0 as in a file
-- of hosts.
use Rattle.std.specs.Prelude.{ℕ, ◌==◌, ◌&&◌, Bool, not, List, length, Option, Some, None, if◌then◌else◌, codes}
use Rattle.std.specs.List.{after_first, before_first, list_any}
use Rattle.std.specs.Str.{bytes_eq, trim}

abbrev pub is_space : ℕ → Bool
is_space octet = octet == 32

abbrev pub is_comment_sign : ℕ → Bool
is_comment_sign octet = octet == 35

-- A line without the comment behind a `#` and the blanks around what is left; a line without a
-- comment as it is.
abbrev pub entry_of : List ℕ → List ℕ
entry_of line =
    if list_any is_comment_sign line then trim (before_first is_comment_sign line) else line

abbrev pub is_all_blank : List ℕ → Bool
is_all_blank text = length (trim text) == 0

abbrev pub some_unless_empty : List ℕ → Option (List ℕ)
some_unless_empty text = if length text == 0 then None else Some text

-- The text of an entry's name: the entry, or what stands in it behind the address 0.0.0.0 and a
-- space. An entry of another address has none.
abbrev pub name_text : List ℕ → Option (List ℕ)
name_text entry =
    if list_any is_space entry
    then (if bytes_eq (trim (before_first is_space entry)) (codes "0.0.0.0")
    && not (is_all_blank (after_first is_space entry))
    then Some (after_first is_space entry) else None)
    else some_unless_empty entry

abbrev pub name_text_of_line : List ℕ → Option (List ℕ)
name_text_of_line line = name_text (entry_of line)
