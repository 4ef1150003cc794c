-- NSEC data as a decoder reads them: before offset 0 there is no target for a pointer.
use Rattle.std.proofs.Common.{◌≡◌, ℕ, zero, suc, ◌+◌, ◌-◌, ◌*◌, ◌≤◌, true, List, [], ◌∷◌, ◌++◌, length, drop, refl, sym, ap, subst, ◌∙◌, arith, append-nil, append_assoc, length-append, inl, inr, ◌⊎◌}
use Rattle.std.specs.List.{All}
use Rattle.std.proofs.lemmas.List.{length-drop, nil_from_length, drop_at}
use Rattle.std.proofs.lemmas.List.Elements.{All-cons, All-nil}
use Rattle.std.proofs.lemmas.List.Sums.{sum_by-cons}
use Rattle.dnw_wire.specs.BitMaps.{BitMaps, EmitsTypes, IsMap, TypesAt}
use Rattle.dnw_wire.specs.BitMaps.BitMaps.{no_window, window}
use Rattle.dnw_wire.specs.BitMapLaws.{read_once, tight_reads}
use Rattle.drd_plain.specs.dnw_codes.declared.error.DecodeError.{DecodeError}
use Rattle.drd_plain.specs.dnw_decoder.Reading.{IsWantOfMemory}
use Rattle.drd_plain.specs.dnw_encoder.Effects.{written_at}
use Rattle.drd_plain.specs.dnw_encoder.State.{State, new_state}
use Rattle.drd_plain.specs.dnw_encoder.declared.modes.NameEncoding.TheVariants.{Compressed}
use Rattle.std.specs.Prelude.{IfOk, IsNone, MatchOption, OnOk, Option, Some, None, Result, Ok, Err}
use Rattle.std.proofs.lemmas.Bool.{true≢false}
use Rattle.drd_plain.specs.dnw_decoder.Octets.{Stands}
use Rattle.drd_plain.specs.dnw_decoder.Spelling.{NameAt, Spelled}
use Rattle.drd_plain.specs.dnw_decoder.Spelling.Spelled.{at_end, at_label, at_pointer}
use Rattle.drd_plain.specs.dnw_name.DomainName.{DomainName, IsDomainName, domain_name, labels_len, name_octets}
use Rattle.drd_plain.specs.dnw_label.Label.{IsLabel}
use Rattle.drd_plain.specs.dnw_label.Labels.{label_octets}
use Rattle.drd_plain.proofs.dnw_decoder_lemmas.SpellingLaws.{name_once}
use Rattle.drd_plain.proofs.dnw_decoder_lemmas.Standing.{stands_joined}
use Rattle.drd_plain.proofs.dnw_encoder_lemmas.NameLaws.{name_stands}
use Rattle.drd_denial.specs.Nsec.{IsNsecData}

-- ---- a name at offset 0 is uncompressed
record InFull (message : List ℕ) (place : ℕ) (labels : List (List ℕ)) (end : ℕ) : Type 0 where
  each : All IsLabel labels
  there : Stands message place (label_octets labels ++ 0 ∷ []) end

in_full : (message : List ℕ) (bound place : ℕ) (labels : List (List ℕ)) (end : ℕ) → Spelled message 0 bound place labels end → InFull message place labels end
in_full message bound place _ end (at_end before there) = record { each = All-nil IsLabel; there = there }
in_full message bound place _ end (at_label {behind = behind} {first = first} {rest = rest} before is there later) =
    let more = in_full message bound behind rest end later in
    record {
      each = All-cons IsLabel first rest is more.each;
      there = subst (λ (o : List ℕ). Stands message place o end) (sym (append_assoc (length first ∷ first) (label_octets rest) (0 ∷ [])))
          (stands_joined message place (length first ∷ first) behind (label_octets rest ++ 0 ∷ []) end there more.there);
    }
in_full message bound place _ end (at_pointer before backward small there later) = absurd (omega (arith, backward))

pub name_in_full : (octets : List ℕ) (next : DomainName) (end : ℕ) → NameAt octets 0 next end → IsDomainName next × Stands octets 0 (name_octets next) end
name_in_full octets next end at =
    let whole = in_full octets (length octets) 0 next.labels end at.spelled in
    (record { each = whole.each; short = at.size }, whole.there)

-- ---- NSEC data that were read
pub nsec_read : (octets : List ℕ) (next : DomainName) (index len : ℕ) (types : List ℕ) (end : ℕ) → NameAt octets 0 next index → len ≡ length octets - index → TypesAt octets index len types end → IsNsecData octets next types
nsec_read octets next index len types end at all there =
    let full = name_in_full octets next index at in
    let none : drop end octets ≡ [] = nil_from_length (drop end octets) (omega (arith, length-drop end octets, there.there.behind, there.long, all)) in
    record {
      full = at.full;
      name = full.0;
      maps = there.octets;
      whole = full.1.there ∙ ap (λ (o : List ℕ). name_octets next ++ o) (there.there.there ∙ ap (λ (o : List ℕ). there.octets ++ o) none ∙ append-nil there.octets);
      are = there.maps;
    }

-- ---- a name and bit maps that can be read
-- The name and the bit maps after it.
record Parts (octets : List ℕ) (next : DomainName) (types : List ℕ) : Type 0 where
  index : ℕ
  name : NameAt octets 0 next index
  maps : List ℕ
  rest : drop index octets ≡ maps
  are : BitMaps IsMap 0 maps types

parts : (octets : List ℕ) (next : DomainName) (types : List ℕ) → IsNsecData octets next types → Parts octets next types
parts octets next types is =
    let index = length (name_octets next) in
    let rest : drop index octets ≡ is.maps = ap (λ (o : List ℕ). drop index o) is.whole ∙ drop_at (name_octets next) is.maps index refl in
    record {
      index = index;
      name = name_stands octets 0 next index is.full is.name (record { there = is.whole ∙ ap (λ (o : List ℕ). name_octets next ++ o) (sym rest); behind = omega arith });
      maps = is.maps;
      rest = rest;
      are = is.are;
    }

pub no_name : (octets : List ℕ) → ((name : DomainName) (end : ℕ) → NameAt octets 0 name end → ⊥) → (next : DomainName) (types : List ℕ) → IsNsecData octets next types → ⊥
no_name octets none next types is = let p = parts octets next types is in none next p.index p.name

-- After a name that was read there are the same bit maps.
same_rest : (octets : List ℕ) (next other : DomainName) (index : ℕ) (types : List ℕ) → NameAt octets 0 next index → (p : Parts octets other types) → drop index octets ≡ p.maps
same_rest octets next other index types at p =
    let same = name_once octets 0 next other index p.index at p.name in
    ap (λ (i : ℕ). drop i octets) same.1 ∙ p.rest

pub no_types : (octets : List ℕ) (next : DomainName) (index len : ℕ) → NameAt octets 0 next index → index ≤ length octets → len ≡ length octets - index → ((types : List ℕ) (end : ℕ) → TypesAt octets index len types end → ⊥) → (other : DomainName) (types : List ℕ) → IsNsecData octets other types → ⊥
no_types octets next index len at within all none other types is =
    let p = parts octets other types is in
    let rest = same_rest octets next other index types at p in
    let long : length p.maps ≡ len = sym (ap length rest) ∙ length-drop index octets ∙ sym all in
    let end : drop (index + length p.maps) octets ≡ [] = nil_from_length (drop (index + length p.maps) octets) (omega (arith, length-drop (index + length p.maps) octets, long, all)) in
    none types (index + length p.maps) (record {
      octets = p.maps;
      there = record { there = rest ∙ sym (append-nil p.maps) ∙ ap (λ (o : List ℕ). p.maps ++ o) (sym end); behind = refl };
      long = long;
      maps = p.are;
    })

-- ---- bit maps are short
maps_short : (above : ℕ) (octets types : List ℕ) → BitMaps IsMap above octets types → above ≤ 256 → length octets + 34 * above ≤ 34 * 256
maps_short above _ _ no_window low = omega (arith, low)
maps_short above octets types (window {number = n} {map = m} {rest = rest} {later = later} order below fine whole are more) low =
    omega (arith, maps_short (n + 1) rest later more (omega (arith, below)), order, fine.few, ap length whole, length-append m rest)

pub too_long : (octets : List ℕ) (next : DomainName) (index : ℕ) → NameAt octets 0 next index → 65536 ≤ length octets - index → (other : DomainName) (types : List ℕ) → IsNsecData octets other types → ⊥
too_long octets next index at more other types is =
    let p = parts octets other types is in
    let long : length p.maps ≡ length octets - index = sym (ap length (same_rest octets next other index types at p)) ∙ length-drop index octets in
    omega (arith, maps_short 0 p.maps types p.are (omega arith), long, more)

length-labels : (labels : List (List ℕ)) → length (label_octets labels) ≡ labels_len labels
length-labels [] = refl
length-labels (x ∷ xs) = omega (arith, length-append x (label_octets xs), length-labels xs, sum_by-cons (λ label. length label + 1) x xs)

-- NSEC data are short: a name of at most 255 octets, and bit maps of 256 windows.
pub nsec_short : (octets : List ℕ) (next : DomainName) (types : List ℕ) → IsNsecData octets next types → length octets ≤ 8959
nsec_short octets next types is =
    omega (
      arith,
      maps_short 0 is.maps types is.are (omega arith),
      is.name.short,
      ap length is.whole,
      length-append (name_octets next) is.maps,
      length-append (label_octets next.labels) (0 ∷ []),
      length-labels next.labels,
    )

-- ---- NSEC data have one next name and one list of types
pub nsec_once : (octets : List ℕ) (next other : DomainName) (types others : List ℕ) → IsNsecData octets next types → IsNsecData octets other others → (next ≡ other) × (types ≡ others)
nsec_once octets next other types others a b =
    let p = parts octets next types a in
    let q = parts octets other others b in
    let names = name_once octets 0 next other p.index q.index p.name q.name in
    (names.0, read_once 0 0 p.maps q.maps types others p.are q.are (sym p.rest ∙ ap (λ (i : ℕ). drop i octets) names.1 ∙ q.rest))

-- ---- answers
-- Nothing was read, though memory was there.
pub nothing_there : {T E : Type 0} (r : Result (Option T) E) (e : DecodeError) (P : Type 0) (Q : T → Type 0) → OnOk r (IsWantOfMemory e → ⊥) → IfOk r (λ found. IsNone found) → IsWantOfMemory e ⊎ P → IfOk r (λ found. MatchOption found P Q)
nothing_there (Err x) e P Q m n why = tt
nothing_there (Ok None) e P Q m n (inl w) = absurd (m w)
nothing_there (Ok None) e P Q m n (inr p) = p
nothing_there (Ok (Some x)) e P Q m n why = absurd (true≢false n)

pub or_not : {A B C : Type 0} → (B → C) → A ⊎ B → A ⊎ C
or_not f (inl a) = inl a
or_not f (inr b) = inr (f b)

none_dropped : (n : ℕ) (e : List ℕ) → e ≡ [] → drop n e ≡ []
none_dropped zero e h = h
none_dropped (suc n) [] h = refl
none_dropped (suc n) (x ∷ xs) h = absurd (cc h)

first_written : (more : List ℕ) → written_at [] 0 more ≡ more
first_written more = ap (λ (o : List ℕ). more ++ o) (none_dropped (0 + length more) [] refl) ∙ append-nil more

-- An encoder that begins with no octets writes the bit maps alone.
pub maps_alone : (types bytes : List ℕ) (new : State) → EmitsTypes types (new_state [] 0 Compressed) new → bytes ≡ new.octets → BitMaps IsMap 0 bytes types
maps_alone types bytes new emits is =
    subst (λ (o : List ℕ). BitMaps IsMap 0 o types) (sym (is ∙ emits.puts.octets ∙ first_written emits.octets)) (tight_reads 0 emits.octets types emits.maps)

pub nsec_written : (next : DomainName) (types all maps : List ℕ) → IsDomainName next → all ≡ (label_octets next.labels ++ 0 ∷ []) ++ maps → BitMaps IsMap 0 maps types → IsNsecData all (domain_name true next.labels) types
nsec_written next types all maps is whole are = record { full = refl; name = record { each = is.each; short = is.short }; maps = maps; whole = whole; are = are }
