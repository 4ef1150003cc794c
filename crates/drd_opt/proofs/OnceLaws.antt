-- Octets hold options in one way: those that are read have the same codes, by number, and the same octets.
use Rattle.std.proofs.Common.{◌≡◌, ℕ, ◌-◌, ◌/◌, ◌%◌, List, [], ◌∷◌, ◌++◌, inl, inr, length, take, replicate, map, refl, sym, ap, subst, ◌∙◌, arith, append-nil}
use Rattle.drd_fields.proofs.dnw_decoder_lemmas.Standing.{stands_same}
use Rattle.drd_opt.specs.Codes.{edns_code_number}
use Rattle.drd_opt.specs.Options.{option_octets, IsOptionOf}
use Rattle.drd_opt.specs.Subnets.{family_of, address_size, address_octets, prefix_octets, prefix_size, subnet_head, subnet_octets, SubnetAt}
use Rattle.drd_opt.specs.declared.subnet.ClientSubnet.{ClientSubnet}
use Rattle.drd_opt.specs.declared.option.EdnsOption.{EdnsOption}
use Rattle.drd_opt.specs.declared.option.EdnsOption.TheVariants.{DAU, Subnet, NSID, Unknown}
use Rattle.drd_opt.specs.Entries.{Entry, RawOption, raw_option, raw_of, options_octets}
use Rattle.drd_opt.proofs.FitLaws.{small_family, size_of_family}
use Rattle.drd_opt.specs.Reading.{IsEntryOf, AreEntriesOf, BreaksOff, HoldsEntries, EntriesAt}
use Rattle.drd_opt.proofs.ReadingLaws.{left_same, stuck_short, stuck_broken}

-- Subnets that are read from the same octets have the same octets.
subnet_once : (octets : List ℕ) (s t : ClientSubnet) (e f : ℕ) → SubnetAt octets 0 s e → SubnetAt octets 0 t f → subnet_octets s ≡ subnet_octets t
subnet_once octets s t e f is also =
    let h = subnet_head (family_of s.address) s.source_prefix s.scope_prefix in
    let k = subnet_head (family_of t.address) t.source_prefix t.scope_prefix in
    let n = prefix_size s.address s.source_prefix in
    let m = prefix_size t.address t.source_prefix in
    let head : h ≡ k = (stands_same octets 0 h k 4 4 refl is.0 also.0).0 in
    let high : family_of s.address / 256 % 256 ≡ family_of t.address / 256 % 256 = cc head in
    let low : family_of s.address % 256 ≡ family_of t.address % 256 = cc head in
    let source : s.source_prefix ≡ t.source_prefix = cc head in
    let family : family_of s.address ≡ family_of t.address = omega (arith, high, low, small_family s.address, small_family t.address) in
    let size : address_size s.address ≡ address_size t.address = size_of_family s.address t.address family in
    let same : n ≡ m = ap (λ (z : ℕ). prefix_octets s.source_prefix z) size ∙ ap (λ (x : ℕ). prefix_octets x (address_size t.address)) source in
    let front = (stands_same octets 4 is.1.front also.1.front e f (is.1.long ∙ same ∙ sym also.1.long) is.1.there also.1.there).0 in
    let address : address_octets s.address ≡ address_octets t.address = is.1.padded ∙ ap (λ (o : List ℕ). o ++ replicate (address_size s.address - length o) 0) front ∙ ap (λ (z : ℕ). also.1.front ++ replicate (z - length also.1.front) 0) size ∙ sym also.1.padded in
    ap (λ (o : List ℕ). o ++ take n (address_octets s.address)) head ∙ ap (λ (z : ℕ). k ++ take z (address_octets s.address)) same ∙ ap (λ (o : List ℕ). k ++ take m o) address

option_once : (code : ℕ) (octets : List ℕ) (v w : EdnsOption) → IsOptionOf code octets v → IsOptionOf code octets w → option_octets v ≡ option_octets w
option_once code octets (Subnet s) (Subnet t) is also = subnet_once octets s t is.1.0 also.1.0 is.1.1 also.1.1
option_once code octets (Subnet s) (DAU b) is also = absurd (omega (arith, is.0, also.0))
option_once code octets (Subnet s) (NSID q) is also = absurd (omega (arith, is.0, also.0))
option_once code octets (Subnet s) (Unknown m l) is also = absurd (also.2.no_subnet is.0 s is.1.0 is.1.1)
option_once code octets (DAU a) (Subnet t) is also = absurd (omega (arith, is.0, also.0))
option_once code octets (NSID p) (Subnet t) is also = absurd (omega (arith, is.0, also.0))
option_once code octets (Unknown n k) (Subnet t) is also = absurd (is.2.no_subnet also.0 t also.1.0 also.1.1)
option_once code octets (DAU a) (DAU b) is also = is.1 ∙ sym also.1
option_once code octets (DAU a) (NSID q) is also = is.1 ∙ sym also.1
option_once code octets (DAU a) (Unknown m l) is also = is.1 ∙ sym also.1
option_once code octets (NSID p) (DAU b) is also = is.1 ∙ sym also.1
option_once code octets (NSID p) (NSID q) is also = is.1 ∙ sym also.1
option_once code octets (NSID p) (Unknown m l) is also = is.1 ∙ sym also.1
option_once code octets (Unknown n k) (DAU b) is also = is.1 ∙ sym also.1
option_once code octets (Unknown n k) (NSID q) is also = is.1 ∙ sym also.1
option_once code octets (Unknown n k) (Unknown m l) is also = is.1 ∙ sym also.1

entry_once : (r : RawOption) (v w : Entry) → IsEntryOf r v → IsEntryOf r w → raw_of v ≡ raw_of w
entry_once r v w is also =
    let octets : option_octets v.1 ≡ option_octets w.1 = option_once r.code r.octets v.1 w.1 is.option also.option in
    ap (λ (c : ℕ). raw_option c (option_octets v.1)) (ap edns_code_number (is.code ∙ sym also.code)) ∙ ap (raw_option (edns_code_number w.0)) octets

all_once : (rs : List RawOption) (vs ws : List Entry) → AreEntriesOf rs vs → AreEntriesOf rs ws → map raw_of vs ≡ map raw_of ws
all_once [] [] [] are also = refl
all_once (r ∷ rs) (v ∷ vs) (w ∷ ws) are also =
    ap (λ (x : RawOption). x ∷ map raw_of vs) (entry_once r v w are.0 also.0) ∙ ap (λ (xs : List RawOption). raw_of w ∷ xs) (all_once rs vs ws are.1 also.1)
all_once [] (v ∷ vs) ws are also = absurd are
all_once (r ∷ rs) [] ws are also = absurd are
all_once [] [] (w ∷ ws) are also = absurd also
all_once (r ∷ rs) (v ∷ vs) [] are also = absurd also

not_nothing : BreaksOff [] → ⊥
not_nothing (inl two) = omega (arith, two)
not_nothing (inr past) = omega (arith, past.0)

held_once : (octets : List ℕ) (vs ws : List Entry) → HoldsEntries octets vs → HoldsEntries octets ws → map raw_of vs ≡ map raw_of ws
held_once octets vs ws (inl v) (inl w) =
    let same = left_same v.raws w.raws [] [] v.fit w.fit (stuck_short [] (omega arith)) (stuck_short [] (omega arith)) (append-nil (options_octets v.raws) ∙ sym v.whole ∙ w.whole ∙ sym (append-nil (options_octets w.raws))) in
    all_once w.raws vs ws (subst (λ (rs : List RawOption). AreEntriesOf rs vs) same.0 v.entries_of) w.entries_of
held_once octets vs ws (inl v) (inr w) =
    let same = left_same v.raws w.raws [] w.left v.fit w.fit (stuck_short [] (omega arith)) (stuck_broken w.left w.breaks) (append-nil (options_octets v.raws) ∙ sym v.whole ∙ w.whole) in
    absurd (not_nothing (subst BreaksOff (sym same.1) w.breaks))
held_once octets vs ws (inr v) (inl w) =
    let same = left_same v.raws w.raws v.left [] v.fit w.fit (stuck_broken v.left v.breaks) (stuck_short [] (omega arith)) (sym v.whole ∙ w.whole ∙ sym (append-nil (options_octets w.raws))) in
    absurd (not_nothing (subst BreaksOff same.1 v.breaks))
held_once octets vs ws (inr v) (inr w) = ap (map raw_of) (v.none ∙ sym w.none)

pub entries_once : (message : List ℕ) (place : ℕ) (vs ws : List Entry) (end : ℕ) → EntriesAt message place vs end → EntriesAt message place ws end → map raw_of vs ≡ map raw_of ws
entries_once message place vs ws end is also =
    let octets = stands_same message place is.octets also.octets end end (omega (arith, is.there.behind, also.there.behind)) is.there also.there in
    held_once also.octets vs ws (subst (λ (o : List ℕ). HoldsEntries o vs) octets.0 is.holds) also.holds
