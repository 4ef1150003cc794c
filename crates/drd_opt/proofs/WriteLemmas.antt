-- Options that are put one behind the other.
use Rattle.std.proofs.Common.{◌≡◌, ℕ, ◌+◌, ◌-◌, ◌≤◌, false, List, [], ◌∷◌, ◌++◌, ◌⊎◌, inl, inr, length, map, refl, sym, ap, subst, ◌∙◌, arith, append-nil}
use Rattle.std.proofs.lemmas.Grind.{flat_map-append}
use Rattle.std.proofs.lemmas.List.{length-append, map-append}
use Rattle.drd_fields.specs.dnw_codes.declared.error.ProtoError.{ProtoError}
use Rattle.drd_fields.specs.dnw_decoder.Octets.{octets_16}
use Rattle.drd_fields.specs.dnw_encoder.Effects.{WritesOctets, IsRefusal}
use Rattle.drd_fields.specs.dnw_encoder.State.{State, writes_pointers}
use Rattle.drd_fields.specs.dnw_encoder.declared.modes.NameEncoding.TheVariants.{Uncompressed}
use Rattle.drd_fields.specs.dnw_encoder.declared.modes.RDataEncoding.TheVariants.{Other}
use Rattle.drd_fields.specs.Fields.{rest}
use Rattle.drd_fields.specs.Writing.{EmitsData, EmitsFields, EndsWithin, RefusesFields}
use Rattle.drd_fields.proofs.WritingLaws.{puts_then, puts_rest, emits_one, refused_front, refused_later}
use Rattle.drd_opt.specs.Options.{option_octets, IsLong}
use Rattle.drd_opt.specs.Entries.{Entry, raw_option, raw_of, raw_octets, options_octets, entries_octets, HasLong}

in_full : writes_pointers Uncompressed ≡ false
unfolding writes_pointers
in_full = refl

-- Octets that are put are the data of one field.
pub puts_data : (octets : List ℕ) (old new : State) → WritesOctets octets old new → EndsWithin old new → EmitsData Other (rest octets ∷ []) old new
puts_data octets old new p within =
    let one : EmitsFields (rest octets ∷ []) old new = emits_one (rest octets) old new (puts_rest octets old new p) in
    record {
      stays = one.stays;
      size = one.size;
      exact = λ plain. subst (λ (o : List ℕ). WritesOctets o old new) (sym (append-nil octets)) p;
      candidates = one.candidates;
      within = within;
    }

data_puts : (octets : List ℕ) (old new : State) → EmitsData Other (rest octets ∷ []) old new → WritesOctets octets old new
data_puts octets old new d = subst (λ (o : List ℕ). WritesOctets o old new) (append-nil octets) (d.exact in_full)

pub entry_puts : (code : ℕ) (octets : List ℕ) (a b c d : State) → a.offset ≤ length a.octets → WritesOctets (octets_16 code) a b → WritesOctets (octets_16 (length octets)) b c → EmitsData Other (rest octets ∷ []) c d → WritesOctets (raw_octets (raw_option code octets)) a d
entry_puts code octets a b c d le first second third =
    puts_then (octets_16 code ++ octets_16 (length octets)) octets a c d le (puts_then (octets_16 code) (octets_16 (length octets)) a b c le first second) (data_puts octets c d third)

-- One entry more behind others.
entries_more : (front : List Entry) (entry : Entry) → entries_octets (front ++ entry ∷ []) ≡ entries_octets front ++ raw_octets (raw_of entry)
entries_more front entry =
    ap options_octets (map-append raw_of front (entry ∷ [])) ∙ flat_map-append raw_octets (map raw_of front) (raw_of entry ∷ []) ∙ ap (λ (o : List ℕ). entries_octets front ++ o) (append-nil (raw_octets (raw_of entry)))

pub entry_behind : (front : List Entry) (entry : Entry) (old mid new : State) → old.offset ≤ length old.octets → WritesOctets (entries_octets front) old mid → WritesOctets (raw_octets (raw_of entry)) mid new → WritesOctets (entries_octets (front ++ entry ∷ [])) old new
entry_behind front entry old mid new le p q =
    subst (λ (o : List ℕ). WritesOctets o old new) (sym (entries_more front entry)) (puts_then (entries_octets front) (raw_octets (raw_of entry)) old mid new le p q)

-- A refused entry behind others: so are all of them.
long_later : (front : List Entry) (entry : Entry) (later : List Entry) (e : ProtoError) → IsLong (option_octets entry.1) e → HasLong (front ++ entry ∷ later) e
long_later [] entry later e is = inl is
long_later (x ∷ xs) entry later e is = inr (long_later xs entry later e is)

whole_size : (front : List Entry) (entry : Entry) (later : List Entry) → length (entries_octets front) + length (raw_octets (raw_of entry)) ≤ length (entries_octets (front ++ entry ∷ later))
whole_size front entry later =
    let split : entries_octets (front ++ entry ∷ later) ≡ entries_octets front ++ (raw_octets (raw_of entry) ++ entries_octets later) =
    ap options_octets (map-append raw_of front (entry ∷ later)) ∙ flat_map-append raw_octets (map raw_of front) (raw_of entry ∷ map raw_of later) in
    omega (arith, ap length split, length-append (entries_octets front) (raw_octets (raw_of entry) ++ entries_octets later), length-append (raw_octets (raw_of entry)) (entries_octets later))

refused_more : (n m : ℕ) (a : State) (e : ProtoError) → n ≤ m → IsRefusal a n e → IsRefusal a m e
refused_more n m a e le refused =
    let sum : n + (m - n) ≡ m = omega (arith, le) in
    subst (λ (k : ℕ). IsRefusal a k e) sum (refused_front n (m - n) a e refused)

pub entry_refused : (front : List Entry) (entry : Entry) (later : List Entry) (old mid : State) (e : ProtoError) → WritesOctets (entries_octets front) old mid → IsRefusal mid (length (raw_octets (raw_of entry))) e ⊎ IsLong (option_octets entry.1) e → RefusesFields (rest (entries_octets (front ++ entry ∷ later)) ∷ []) old e ⊎ HasLong (front ++ entry ∷ later) e
entry_refused front entry later old mid e p (inr long) = inr (long_later front entry later e long)
entry_refused front entry later old mid e p (inl refused) =
    let n = length (entries_octets front) in
    let far : mid.offset ≤ old.offset + n = omega (arith, p.offset) in
    let whole : IsRefusal old (n + length (raw_octets (raw_of entry))) e = refused_later (length (raw_octets (raw_of entry))) n old mid e p.modes far refused in
    let le : n + length (raw_octets (raw_of entry)) ≤ length (entries_octets (front ++ entry ∷ later) ++ []) = omega (arith, whole_size front entry later, ap length (append-nil (entries_octets (front ++ entry ∷ later)))) in
    inl (inl (refused_more (n + length (raw_octets (raw_of entry))) (length (entries_octets (front ++ entry ∷ later) ++ [])) old e le whole))
