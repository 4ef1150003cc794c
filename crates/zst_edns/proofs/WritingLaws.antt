-- The octets of an OPT record: its options counted, written behind its head, and read from there.
use Rattle.std.proofs.Common.{◌≡◌, ℕ, ◌+◌, ◌<◌, ◌≤◌, ◌^◌, false, List, [], ◌∷◌, ◌++◌, ◌⊎◌, inl, inr, length, length-append, refl, ap, subst, arith, append-nil}
use Rattle.dnw_codes.specs.declared.error.ProtoError.{ProtoError}
use Rattle.dnw_codes.specs.declared.error.ProtoError.TheVariants.{Message}
use Rattle.drd_types.specs.dnw_decoder.Octets.{octets_16, octets_32, Stands}
use Rattle.drd_types.proofs.dnw_decoder_lemmas.Standing.{length-octets_32}
use Rattle.drd_types.specs.dnw_encoder.Effects.{WritesOctets, IsRefusal}
use Rattle.drd_types.specs.dnw_encoder.State.{State, writes_pointers}
use Rattle.drd_types.specs.dnw_encoder.declared.modes.NameEncoding.TheVariants.{Uncompressed}
use Rattle.drd_types.specs.dnw_encoder.declared.modes.RDataEncoding.TheVariants.{Other}
use Rattle.drd_types.specs.drd_fields.Fields.{rest}
use Rattle.drd_types.specs.drd_fields.Writing.{EmitsData, RefusesFields}
use Rattle.drd_types.proofs.drd_fields_lemmas.WritingLaws.{puts_then, refused_later}
use Rattle.drd_types.specs.drd_opt.Entries.{Entry, entries_octets, raw_of, raw_octets, HasLong}
use Rattle.drd_types.specs.drd_opt.Reading.{EntriesAt, HoldsEntries}
use Rattle.drd_types.specs.drd_opt.Options.{option_octets}
use Rattle.zst_edns.specs.declared.edns.Edns.{Edns}
use Rattle.zst_edns.specs.Edns.{edns_ttl}
use Rattle.zst_edns.specs.Writing.{EdnsReadsBack, EmitsEdns, FitsFields, RefusesEdns, edns_data, opt_head, opt_octets}

in_full : writes_pointers Uncompressed ≡ false
unfolding writes_pointers
in_full = refl

-- The octets of options are those of the first and those of the others.
first_size : (entry : Entry) (later : List Entry) → length (entries_octets (entry ∷ later)) ≡ 4 + length (option_octets entry.1) + length (entries_octets later)
first_size entry later = omega (arith, length-append (raw_octets (raw_of entry)) (entries_octets later))

pub head_size : (edns : Edns) (len : ℕ) → length (opt_head edns len) ≡ 11
head_size edns len =
    let ttl = octets_32 (edns_ttl edns) in
    omega (arith, length-append (octets_16 edns.max_payload) (ttl ++ octets_16 len), length-append ttl (octets_16 len), length-octets_32 (edns_ttl edns))

pub opt_size : (edns : Edns) → length (opt_octets edns) ≡ 11 + length (edns_data edns)
opt_size edns = omega (arith, length-append (opt_head edns (length (edns_data edns))) (edns_data edns), head_size edns (length (edns_data edns)))

-- An option that is too long makes all of them so.
too_long : (entries : List Entry) (e : ProtoError) → HasLong entries e → 2 ^ 16 ≤ length (entries_octets entries)
too_long [] e long = absurd long
too_long (entry ∷ later) (Message words) (inl long) = omega (arith, long, first_size entry later)
too_long (entry ∷ later) e (inl long) = absurd long
too_long (entry ∷ later) e (inr long) = omega (arith, too_long later e long, first_size entry later)

ends_within : (mid new maximum : ℕ) → (mid < new → new ≤ maximum) → mid ≤ maximum → new ≤ maximum
ends_within mid new maximum ends before = grind arith

-- Head and options, written one behind the other.
pub edns_emitted : (edns : Edns) (len : ℕ) (old mid new : State) → len ≡ length (edns_data edns) → len < 2 ^ 16 → old.offset ≤ length old.octets → FitsFields edns → WritesOctets (opt_head edns len) old mid → old.offset + length (opt_head edns len) ≤ old.maximum → EmitsData Other (rest (edns_data edns) ∷ []) mid new → EmitsEdns edns old new
edns_emitted edns len old mid new counted small within fields first fits second =
    let behind : WritesOctets (edns_data edns) mid new = subst (λ (o : List ℕ). WritesOctets o mid new) (append-nil (edns_data edns)) (second.exact in_full) in
    let head : WritesOctets (opt_head edns (length (edns_data edns))) old mid = subst (λ (n : ℕ). WritesOctets (opt_head edns n) old mid) counted first in
    record {
      octets = puts_then (opt_head edns (length (edns_data edns))) (edns_data edns) old mid new within head behind;
      fits = omega (arith, first.modes.maximum, ends_within mid.offset new.offset mid.maximum second.within (omega (arith, first.offset, first.modes.maximum, fits)));
      fields = fields;
      counted = omega (arith, counted, small);
    }

-- The options were refused, behind the head.
pub options_refused : (edns : Edns) (len : ℕ) (old mid : State) (e : ProtoError) → len ≡ length (edns_data edns) → len < 2 ^ 16 → WritesOctets (opt_head edns len) old mid → RefusesFields (rest (edns_data edns) ∷ []) mid e ⊎ HasLong edns.options.options.items e → RefusesEdns edns old e
options_refused edns len old mid e counted small first (inr long) = absurd (omega (arith, too_long edns.options.options.items e long, counted, small))
options_refused edns len old mid e counted small first (inl (inr (inl long))) = absurd long
options_refused edns len old mid e counted small first (inl (inr (inr long))) = absurd long
options_refused edns len old mid e counted small first (inl (inl refused)) =
    let n = length (edns_data edns ++ []) in
    let far : mid.offset ≤ old.offset + 11 = omega (arith, first.offset, head_size edns len) in
    let same : 11 + n ≡ length (opt_octets edns) = omega (arith, opt_size edns, ap length (append-nil (edns_data edns))) in
    inl (subst (λ (k : ℕ). IsRefusal old k e) same (refused_later n 11 old mid e first.modes far refused))

-- Where the octets of options stand, the options are read, or there are none.
read_by : (items : List Entry) (message : List ℕ) (place end : ℕ) → (items ≡ []) ⊎ HoldsEntries (entries_octets items) items → Stands message place (entries_octets items) end → ((length (entries_octets items) ≡ 0) × (items ≡ [])) ⊎ ((0 < length (entries_octets items)) × EntriesAt message place items end)
read_by [] message place end holds there = inl (refl, refl)
read_by (entry ∷ later) message place end (inl none) there = absurd (cc none)
read_by (entry ∷ later) message place end (inr holds) there =
    inr (omega (arith, first_size entry later), record { octets = entries_octets (entry ∷ later); there = there; holds = holds })

pub options_read : (edns : Edns) (message : List ℕ) (place end : ℕ) → EdnsReadsBack edns → Stands message place (edns_data edns) end → ((length (edns_data edns) ≡ 0) × (edns.options.options.items ≡ [])) ⊎ ((0 < length (edns_data edns)) × EntriesAt message place edns.options.options.items end)
options_read edns message place end back there = read_by edns.options.options.items message place end back.options there

-- Options of none are read back.
pub read_back_empty : (edns : Edns) → edns.flags.z < 2 ^ 15 → edns.options.options.items ≡ [] → EdnsReadsBack edns
read_back_empty edns flags none = record {
  flags = flags;
  options = inl none;
  counted = omega (arith, ap (λ (items : List Entry). length (entries_octets items)) none);
}
