-- Names that end as the name of a message's first question does, which stands behind the header,
-- from octet 12 on: RFC 1035, section 4.1.4.
use Rattle.std.specs.Prelude.{◌≡◌, ◌+◌, ◌-◌, ◌<◌, ◌≤◌, ◌++◌, ◌⊎◌, ℕ, zero, suc, List, [], ◌∷◌, Option, Some, None, length, take}
use Rattle.zst_record.specs.dnw_decoder.Octets.{octets_16}
use Rattle.zst_record.specs.dnw_decoder.Spelling.{pointer_octets}
use Rattle.drd_fields.specs.dnw_label.Labels.{label_octets}
use Rattle.zst_record.specs.dnw_name.DomainName.{DomainName}
use Rattle.zst_pointing.specs.declared.names.Spelling.{Spelling}

abbrev pub octets_of : DomainName → ℕ
octets_of name = length (label_octets name.labels)

-- Before the labels that end another name too, spelled alike, as many as there are, the labels of a
-- name take so many octets.
pub record IsOwn (name other : DomainName) (octets : ℕ) : Type 0 where
  pub before : List (List ℕ)
  pub shared : List (List ℕ)
  pub above : List (List ℕ)
  pub ends : name.labels ≡ before ++ shared
  pub other_ends : other.labels ≡ above ++ shared
  pub long : octets ≡ length (label_octets before)
  pub fewest : (b s a : List (List ℕ)) → name.labels ≡ b ++ s → other.labels ≡ a ++ s
      → length (label_octets before) ≤ length (label_octets b)

-- What the labels of a name share with the one that is asked for takes at most 126 octets, or all
-- that the other has.
pub record IsNear (asked name : DomainName) (octets : ℕ) : Type 0 where
  pub own : IsOwn name asked octets
  pub near : (octets_of name ≤ octets + 126) ⊎ (octets_of name ≡ octets + octets_of asked)

-- The end of a name, or a pointer to the last labels of one that has so many octets.
abbrev pub end_octets : ℕ → ℕ → List ℕ
end_octets all zero = 0 ∷ []
end_octets all (suc n) = pointer_octets (12 + (all - suc n))

-- A name whose first so many octets are its own: these, then the end or a pointer.
abbrev pub near_octets : DomainName → DomainName → ℕ → List ℕ
near_octets asked name own =
    take own (label_octets name.labels) ++ end_octets (octets_of asked) (octets_of name - own)

-- The end, or a pointer that is given as a number of 16 bits.
abbrev pub pointed_octets : Option ℕ → List ℕ
pointed_octets None = 0 ∷ []
pointed_octets (Some pointer) = octets_16 pointer

abbrev pub spelling_octets : Spelling → List ℕ
spelling_octets s = s.own.now ++ pointed_octets s.pointer

-- An owner has labels and ends the name that is asked for.
pub record PointsOwner (asked owner : DomainName) : Type 0 where
  pub near : IsNear asked owner 0
  pub some : 0 < length owner.labels
