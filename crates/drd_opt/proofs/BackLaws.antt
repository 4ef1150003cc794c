-- Options that were read are written as octets that hold them, and from which the same are read.
use Rattle.std.proofs.Common.{◌≡◌, ℕ, ◌+◌, ◌-◌, ◌/◌, ◌%◌, List, [], ◌∷◌, ◌++◌, inl, inr, length, take, drop, replicate, map, refl, sym, ap, subst, ◌∙◌, arith, append-nil}
use Rattle.std.proofs.lemmas.List.{take_at, drop_all, length-append, length-take, nil_from_length}
use Rattle.std.proofs.lemmas.List.Elements.{All-nil}
use Rattle.std.specs.List.{All}
use Rattle.drd_opt.specs.Codes.{edns_code_number, edns_code_of}
use Rattle.drd_opt.specs.Options.{option_octets, HasNoForm, IsOptionOf}
use Rattle.drd_opt.specs.Subnets.{family_of, address_size, address_octets, prefix_octets, prefix_size, subnet_head, subnet_octets, SubnetAt}
use Rattle.drd_opt.specs.declared.subnet.ClientSubnet.{ClientSubnet}
use Rattle.drd_opt.specs.declared.option.EdnsOption.{EdnsOption}
use Rattle.drd_opt.specs.declared.option.EdnsOption.TheVariants.{DAU, Subnet, NSID, Unknown}
use Rattle.drd_opt.specs.Entries.{Entry, RawOption, raw_option, raw_of, options_octets, entries_octets, FitsLengths}
use Rattle.drd_opt.specs.Reading.{IsEntryOf, AreEntriesOf, BreaksOff, HoldsEntries}
use Rattle.drd_opt.proofs.ReadingLaws.{left_same, stuck_short, stuck_broken}
use Rattle.drd_opt.proofs.FitLaws.{small_family, size_of_family, entry_number, all_fit}

-- A subnet that is read from the octets of another has the same octets.
subnet_back : (s t : ClientSubnet) (end : ℕ) → SubnetAt (subnet_octets t) 0 s end → subnet_octets s ≡ subnet_octets t
subnet_back s t end there =
    let h = subnet_head (family_of s.address) s.source_prefix s.scope_prefix in
    let k = subnet_head (family_of t.address) t.source_prefix t.scope_prefix in
    let n = prefix_size s.address s.source_prefix in
    let m = prefix_size t.address t.source_prefix in
    let b = take m (address_octets t.address) in
    let head : k ++ b ≡ h ++ b = there.0.there in
    let f_high : family_of t.address / 256 % 256 ≡ family_of s.address / 256 % 256 = cc head in
    let f_low : family_of t.address % 256 ≡ family_of s.address % 256 = cc head in
    let source : t.source_prefix ≡ s.source_prefix = cc head in
    let family : family_of t.address ≡ family_of s.address = omega (arith, f_high, f_low, small_family t.address, small_family s.address) in
    let same : m ≡ n = ap (λ (z : ℕ). prefix_octets t.source_prefix z) (size_of_family t.address s.address family) ∙ ap (λ (x : ℕ). prefix_octets x (address_size s.address)) source in
    let front = there.1.front in
    let rest = drop end (subnet_octets t) in
    let behind : b ≡ front ++ rest = there.1.there.there in
    let none : rest ≡ [] = nil_from_length rest (omega (arith, ap length behind, length-append front rest, there.1.long, same, length-take m (address_octets t.address))) in
    let whole : b ≡ front = behind ∙ ap (λ (o : List ℕ). front ++ o) none ∙ append-nil front in
    let taken : take n (address_octets s.address) ≡ front = ap (λ (o : List ℕ). take n o) there.1.padded ∙ take_at front _ n there.1.long in
    ap (λ (o : List ℕ). h ++ o) (taken ∙ sym whole) ∙ sym head

option_back : (code again : ℕ) (octets : List ℕ) (w v : EdnsOption) → IsOptionOf code octets w → IsOptionOf again (option_octets w) v → again ≡ code → option_octets v ≡ option_octets w
option_back code again octets w (DAU a) is back same = back.1
option_back code again octets w (NSID p) is back same = back.1
option_back code again octets w (Unknown n k) is back same = back.1
option_back code again octets (Subnet t) (Subnet s) is back same = subnet_back s t back.1.0 back.1.1
option_back code again octets (DAU a) (Subnet s) is back same = absurd (omega (arith, is.0, back.0, same))
option_back code again octets (NSID p) (Subnet s) is back same = absurd (omega (arith, is.0, back.0, same))
option_back code again octets (Unknown n k) (Subnet s) is back same =
    absurd (is.2.no_subnet (sym same ∙ back.0) s back.1.0 (subst (λ (o : List ℕ). SubnetAt o 0 s back.1.0) is.1 back.1.1))

entry_back : (r : RawOption) (w v : Entry) → IsEntryOf r w → IsEntryOf (raw_of w) v → raw_of v ≡ raw_of w
entry_back r w v is back =
    let octets : option_octets v.1 ≡ option_octets w.1 = option_back r.code (edns_code_number w.0) r.octets w.1 v.1 is.option back.option (entry_number r w is) in
    ap (λ (c : ℕ). raw_option c (option_octets v.1)) (entry_number (raw_of w) v back) ∙ ap (raw_option (edns_code_number w.0)) octets

entries_back : (rs : List RawOption) (ws vs : List Entry) → AreEntriesOf rs ws → AreEntriesOf (map raw_of ws) vs → map raw_of vs ≡ map raw_of ws
entries_back [] [] [] are back = refl
entries_back (r ∷ rs) (w ∷ ws) (v ∷ vs) are back =
    ap (λ (x : RawOption). x ∷ map raw_of vs) (entry_back r w v are.0 back.0) ∙ ap (λ (xs : List RawOption). raw_of w ∷ xs) (entries_back rs ws vs are.1 back.1)
entries_back [] (w ∷ ws) vs are back = absurd are
entries_back (r ∷ rs) [] vs are back = absurd are
entries_back [] [] (v ∷ vs) are back = absurd back
entries_back (r ∷ rs) (w ∷ ws) [] are back = absurd back

not_nothing : BreaksOff [] → ⊥
not_nothing (inl two) = omega (arith, two)
not_nothing (inr past) = omega (arith, past.0)

all_back : (rs : List RawOption) (ws vs : List Entry) → All FitsLengths rs → AreEntriesOf rs ws → HoldsEntries (entries_octets ws) vs → map raw_of vs ≡ map raw_of ws
all_back rs ws vs fit are (inl all) =
    let same = left_same all.raws (map raw_of ws) [] [] all.fit (all_fit rs ws fit are) (stuck_short [] (omega arith)) (stuck_short [] (omega arith)) (append-nil (options_octets all.raws) ∙ sym all.whole ∙ sym (append-nil (entries_octets ws))) in
    entries_back rs ws vs are (subst (λ (xs : List RawOption). AreEntriesOf xs vs) same.0 all.entries_of)
all_back rs ws vs fit are (inr none) =
    let same = left_same none.raws (map raw_of ws) none.left [] none.fit (all_fit rs ws fit are) (stuck_broken none.left none.breaks) (stuck_short [] (omega arith)) (sym none.whole ∙ sym (append-nil (entries_octets ws))) in
    absurd (not_nothing (subst BreaksOff same.1 none.breaks))

pub read_back : (source : List ℕ) (ws vs : List Entry) → HoldsEntries source ws → HoldsEntries (entries_octets ws) vs → map raw_of vs ≡ map raw_of ws
read_back source ws vs (inl all) found = all_back all.raws ws vs all.fit all.entries_of found
read_back source ws vs (inr none) found =
    let empty : HoldsEntries (entries_octets []) vs = subst (λ (es : List Entry). HoldsEntries (entries_octets es) vs) none.none found in
    subst (λ (es : List Entry). map raw_of vs ≡ map raw_of es) (sym none.none) (all_back [] [] vs (All-nil FitsLengths) tt empty)

-- The octets of a subnet that was read hold it.
subnet_own : (octets : List ℕ) (s : ClientSubnet) (end : ℕ) → SubnetAt octets 0 s end → (behind : ℕ) × SubnetAt (subnet_octets s) 0 s behind
subnet_own octets s end there =
    let n = prefix_size s.address s.source_prefix in
    let b = take n (address_octets s.address) in
    let front = there.1.front in
    let taken : b ≡ front = ap (λ (o : List ℕ). take n o) there.1.padded ∙ take_at front _ n there.1.long in
    let h = subnet_head (family_of s.address) s.source_prefix s.scope_prefix in
    let none : drop (4 + length b) (subnet_octets s) ≡ [] = drop_all (4 + length b) (subnet_octets s) (omega (arith, length-append h b)) in (
      4 + length b,
      (
        record { there = refl; behind = refl },
        record {
          front = b;
          long = ap length taken ∙ there.1.long;
          there = record { there = sym (append-nil b) ∙ ap (λ (o : List ℕ). b ++ o) (sym none); behind = refl };
          padded = subst (λ (o : List ℕ). address_octets s.address ≡ o ++ replicate (address_size s.address - length o) 0) (sym taken) there.1.padded;
        },
      ),
    )

-- Options that were read are those of their own codes and octets.
option_own : (code : ℕ) (octets : List ℕ) (w : EdnsOption) → IsOptionOf code octets w → IsOptionOf code (option_octets w) w
option_own code octets (DAU a) is = (is.0, refl)
option_own code octets (NSID p) is = (is.0, refl)
option_own code octets (Subnet s) is = (is.0, subnet_own octets s is.1.0 is.1.1)
option_own code octets (Unknown n k) is = (is.0, refl, subst (HasNoForm code) (sym is.1) is.2)

entry_own : (r : RawOption) (w : Entry) → IsEntryOf r w → IsEntryOf (raw_of w) w
entry_own r w is = record {
  code = is.code ∙ ap edns_code_of (sym (entry_number r w is));
  option = subst (λ (c : ℕ). IsOptionOf c (option_octets w.1) w.1) (sym (entry_number r w is)) (option_own r.code r.octets w.1 is.option);
}

entries_own : (rs : List RawOption) (ws : List Entry) → AreEntriesOf rs ws → AreEntriesOf (map raw_of ws) ws
entries_own [] [] are = tt
entries_own (r ∷ rs) (w ∷ ws) are = (entry_own r w are.0, entries_own rs ws are.1)
entries_own [] (w ∷ ws) are = absurd are
entries_own (r ∷ rs) [] are = absurd are

pub options_own : (source : List ℕ) (ws : List Entry) → HoldsEntries source ws → HoldsEntries (entries_octets ws) ws
options_own source ws (inl all) =
    inl (record { raws = map raw_of ws; fit = all_fit all.raws ws all.fit all.entries_of; whole = refl; entries_of = entries_own all.raws ws all.entries_of })
options_own source ws (inr none) =
    subst (λ (es : List Entry). HoldsEntries (entries_octets es) es) (sym none.none) (inl (record { raws = []; fit = All-nil FitsLengths; whole = refl; entries_of = tt }))
