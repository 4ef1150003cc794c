-- Laws of options that stand in record data of type OPT.
use Rattle.std.proofs.Common.{◌≡◌, ℕ, zero, suc, ◌+◌, ◌-◌, ◌<◌, ◌≤◌, ◌==◌, true, List, [], ◌∷◌, ◌++◌, length, take, drop, replicate, inl, inr, refl, sym, ap, subst, ◌∙◌, arith}
use Rattle.std.proofs.lemmas.Bool.{and_parts, eqb-true}
use Rattle.std.proofs.lemmas.List.{drop_at, length-append, length-drop, length-replicate, length-take, take-append-drop}
use Rattle.std.proofs.lemmas.List.Elements.{All-nil, All-cons, All-head, All-tail}
use Rattle.std.specs.List.{All, list_all}
use Rattle.drd_fields.specs.dnw_codes.declared.error.DecodeError.{DecodeError}
use Rattle.drd_fields.specs.dnw_decoder.Reading.{IsWantOfMemory}
use Rattle.drd_fields.proofs.dnw_decoder_lemmas.Standing.{stands_split}
use Rattle.drd_opt.specs.Codes.{edns_code_number, edns_code_of}
use Rattle.drd_opt.proofs.CodeLaws.{number_of_code}
use Rattle.drd_opt.specs.Options.{HasNoForm, IsOptionOf, option_code, option_octets}
use Rattle.drd_opt.specs.Subnets.{family_of, address_octets, address_size, prefix_size, subnet_head, subnet_octets, RefusesSubnet, SubnetAt}
use Rattle.drd_opt.specs.declared.code.EdnsCode.{EdnsCode}
use Rattle.drd_opt.specs.declared.option.EdnsOption.{EdnsOption}
use Rattle.drd_opt.specs.declared.option.EdnsOption.TheVariants.{DAU, Subnet, NSID, Unknown}
use Rattle.drd_opt.specs.declared.subnet.ClientSubnet.{ClientSubnet}
use Rattle.drd_opt.specs.Entries.{Entry, RawOption, raw_option, FitsLengths, options_octets, raw_octets}
use Rattle.drd_opt.proofs.FitLaws.{option_fits}
use Rattle.drd_opt.specs.Reading.{AreEntriesOf, HoldsEntries}
use Rattle.drd_fields.proofs.ReadableLaws.{whole}
use Rattle.drd_opt.specs.Readable.{StandsSomewhere, HasOwnForm, IsPadded}

-- ---- entries one by one
-- All are so exactly where those left from an index are.
pub record LeftFrom {X : Type 0} (P : X → Type 0) (xs : List X) (i : ℕ) : Type 0 where
  pub all : All P (drop i xs) → All P xs
  pub some : All P xs → All P (drop i xs)

pub left_first : {X : Type 0} (P : X → Type 0) (xs : List X) → LeftFrom P xs 0
left_first P xs = record { all = λ a. a; some = λ a. a }

pub left_next : {X : Type 0} (P : X → Type 0) (xs : List X) (i : ℕ) (x : X)
    → drop i xs ≡ x ∷ drop (i + 1) xs → P x → LeftFrom P xs i → LeftFrom P xs (i + 1)
left_next {X = X} P xs i x here is left = record {
  all =
      λ later. left.all
      (subst (λ (ys : List X). All P ys) (sym here) (All-cons P x (drop (i + 1) xs) is later));
  some =
      λ each. All-tail P x (drop (i + 1) xs)
      (subst (λ (ys : List X). All P ys) here (left.some each));
}

pub left_none : {X : Type 0} (P : X → Type 0) (xs : List X) (i : ℕ) (x : X)
    → drop i xs ≡ x ∷ drop (i + 1) xs → (P x → ⊥) → LeftFrom P xs i → All P xs → ⊥
left_none {X = X} P xs i x here none left each =
    none
    (All-head P x (drop (i + 1) xs) (subst (λ (ys : List X). All P ys) here (left.some each)))

pub left_end : {X : Type 0} (P : X → Type 0) (xs : List X) (i : ℕ) → drop i xs ≡ []
    → LeftFrom P xs i → All P xs
left_end {X = X} P xs i none left =
    left.all (subst (λ (ys : List X). All P ys) (sym none) (All-nil P))

-- ---- all entries from one run of options, and back
pub record Written (entries : List Entry) : Type 0 where
  pub raws : List RawOption
  pub fit : All FitsLengths raws
  pub entries_of : AreEntriesOf raws entries

written_all : (entries : List Entry) → All StandsSomewhere entries → Written entries
written_all [] each = record { raws = []; fit = All-nil FitsLengths; entries_of = tt }
written_all (entry ∷ entries) each =
    let first : StandsSomewhere entry = All-head StandsSomewhere entry entries each in
    let later = written_all entries (All-tail StandsSomewhere entry entries each) in
    record {
      raws = first.written ∷ later.raws;
      fit = All-cons FitsLengths first.written later.raws first.fits later.fit;
      entries_of = (first.is, later.entries_of);
    }

all_stand : (raws : List RawOption) (entries : List Entry) → All FitsLengths raws → AreEntriesOf raws entries → All StandsSomewhere entries
all_stand [] [] fit are = All-nil StandsSomewhere
all_stand (r ∷ raws) (entry ∷ entries) fit are =
    All-cons StandsSomewhere entry entries (record { written = r; fits = All-head FitsLengths r raws fit; is = are.0 }) (all_stand raws entries (All-tail FitsLengths r raws fit) are.1)
all_stand [] (entry ∷ entries) fit are = absurd are
all_stand (r ∷ raws) [] fit are = absurd are

-- What data hold are entries that stand somewhere; data that break off hold none.
pub entries_stand : (octets : List ℕ) (entries : List Entry) → HoldsEntries octets entries → All StandsSomewhere entries
entries_stand octets entries (inl all) = all_stand all.raws entries all.fit all.entries_of
entries_stand octets entries (inr none) = subst (λ (es : List Entry). All StandsSomewhere es) (sym none.none) (All-nil StandsSomewhere)

-- Octets that hold these entries, some octets.
pub record Holding (entries : List Entry) : Type 0 where
  pub octets : List ℕ
  pub some : 0 < length octets
  pub holds : HoldsEntries octets entries

-- Two octets break off behind a code, and hold no entries.
pub holding : (entries : List Entry) → All StandsSomewhere entries → Holding entries
holding [] each = record {
  octets = 0 ∷ 0 ∷ [];
  some = omega arith;
  holds = inr (record { raws = []; left = 0 ∷ 0 ∷ []; fit = All-nil FitsLengths; whole = refl; breaks = inl refl; none = refl });
}
holding (entry ∷ entries) each =
    let w = written_all (entry ∷ entries) each in
    record {
      octets = options_octets w.raws;
      some = some_octets w.raws (entry ∷ entries) w.entries_of refl;
      holds = inl (record { raws = w.raws; fit = w.fit; whole = refl; entries_of = w.entries_of });
    }
  where
    some_octets : (raws : List RawOption) (es : List Entry) → AreEntriesOf raws es → es ≡ entry ∷ entries → 0 < length (options_octets raws)
    some_octets (r ∷ raws) es are same = omega (arith, length-append (raw_octets r) (options_octets raws))
    some_octets [] [] are same = absurd (cc same)
    some_octets [] (e ∷ es) are same = absurd are

-- ---- a subnet that is padded by zeros
zeros : (octets : List ℕ) → list_all (λ octet. octet == 0) octets ≡ true → octets ≡ replicate (length octets) 0
zeros [] all = refl
zeros (o ∷ os) all =
    let both = and_parts (o == 0) (list_all (λ octet. octet == 0) os) all in
    ap (λ (x : ℕ). x ∷ os) (eqb-true o 0 both.0) ∙ ap (λ (xs : List ℕ). 0 ∷ xs) (zeros os both.1)

all_zero : (n : ℕ) → list_all (λ octet. octet == 0) (replicate n 0) ≡ true
all_zero zero = refl
all_zero (suc n) = all_zero n

-- The subnet that stands at a place is padded, and one that is padded stands in its own octets.
pub subnet_padded : (octets : List ℕ) (place : ℕ) (s : ClientSubnet) (end : ℕ) → SubnetAt octets place s end → IsPadded s
subnet_padded octets place s end there =
    let at = there.1 in
    let n = prefix_size s.address s.source_prefix in
    let padding : List ℕ = replicate (address_size s.address - length at.front) 0 in
    let behind : drop n (address_octets s.address) ≡ padding = ap (λ (o : List ℕ). drop n o) at.padded ∙ drop_at at.front padding n at.long in
    record {
      size = omega (arith, ap length at.padded, length-append at.front padding, length-replicate {A = ℕ} (address_size s.address - length at.front) 0, at.long);
      zeros = ap (λ (o : List ℕ). list_all (λ octet. octet == 0) o) behind ∙ all_zero (address_size s.address - length at.front);
    }

pub subnet_stands : (s : ClientSubnet) → IsPadded s → SubnetAt (subnet_octets s) 0 s (length (subnet_octets s))
subnet_stands s padded =
    let n = prefix_size s.address s.source_prefix in
    let front = take n (address_octets s.address) in
    let behind = drop n (address_octets s.address) in
    let both = stands_split (subnet_octets s) 0 (subnet_head (family_of s.address) s.source_prefix s.scope_prefix) front (length (subnet_octets s)) (whole (subnet_octets s)) in
    let long : length front ≡ n = omega (arith, length-take n (address_octets s.address), padded.size) in
    let left : length behind ≡ address_size s.address - length front = omega (arith, length-drop n (address_octets s.address), padded.size, long) in (
      both.0,
      record {
        front = front;
        long = long;
        there = both.1;
        padded = sym (take-append-drop n (address_octets s.address)) ∙ ap (λ (o : List ℕ). front ++ o) (zeros behind padded.zeros ∙ ap (λ (k : ℕ). replicate k 0) left);
      },
    )

-- ---- one entry
form_of : (option : EdnsOption) → HasOwnForm option → IsOptionOf (option_code option) (option_octets option) option
form_of (NSID payload) form = (refl, refl)
form_of (DAU algorithms) form = (refl, refl)
form_of (Subnet s) form = (refl, (length (subnet_octets s), subnet_stands s form))
form_of (Unknown number octets) form = (refl, refl, form)

-- An option in its own form stands under its code.
-- A code is the one of a number where it is the one of its own, which is that number.
pub own_code_of : (code : EdnsCode) (number : ℕ) → code ≡ edns_code_of (edns_code_number code)
    → edns_code_number code ≡ number → code ≡ edns_code_of number
own_code_of code number own same = own ∙ ap edns_code_of same

pub own_number : (code : EdnsCode) (number : ℕ) → code ≡ edns_code_of number
    → edns_code_number code ≡ number
own_number code number is = ap edns_code_number is ∙ number_of_code number

pub own_code : (code : EdnsCode) (number : ℕ) → code ≡ edns_code_of number
    → code ≡ edns_code_of (edns_code_number code)
own_code code number is = is ∙ ap edns_code_of (sym (own_number code number is))

pub entry_stands : (code : EdnsCode) (option : EdnsOption) → edns_code_number code < 65536 → code ≡ edns_code_of (option_code option) → length (option_octets option) ≤ 65535 → HasOwnForm option → StandsSomewhere (code, option)
entry_stands code option small same few form = record {
  written = raw_option (option_code option) (option_octets option);
  fits = record { code = omega (arith, small, own_number code (option_code option) same); octets = omega (arith, few) };
  is = record { code = same; option = form_of option form };
}

read_code : (number : ℕ) (octets : List ℕ) (option : EdnsOption) → IsOptionOf number octets option → number ≡ option_code option
read_code number octets (NSID payload) is = is.0
read_code number octets (DAU algorithms) is = is.0
read_code number octets (Subnet s) is = is.0
read_code number octets (Unknown kept found) is = sym is.0

read_form : (number : ℕ) (octets : List ℕ) (option : EdnsOption) → IsOptionOf number octets option → HasOwnForm option
read_form number octets (NSID payload) is = tt
read_form number octets (DAU algorithms) is = tt
read_form number octets (Subnet s) is = subnet_padded octets 0 s is.1.0 is.1.1
read_form number octets (Unknown kept found) is =
    subst (λ (o : List ℕ). HasNoForm kept o) (sym is.1) (subst (λ (n : ℕ). HasNoForm n octets) (sym is.0) is.2)

-- One that stands somewhere is in its own form, under its code.
pub entry_code : (code : EdnsCode) (option : EdnsOption) → StandsSomewhere (code, option) → code ≡ edns_code_of (option_code option)
entry_code code option s =
    s.is.code ∙ ap edns_code_of (read_code s.written.code s.written.octets option s.is.option)

pub entry_few : (code : EdnsCode) (option : EdnsOption) → StandsSomewhere (code, option) → length (option_octets option) ≤ 65535
entry_few code option s = omega (arith, option_fits s.written.code s.written.octets option s.fits.octets s.is.option)

pub entry_form : (code : EdnsCode) (option : EdnsOption) → StandsSomewhere (code, option) → HasOwnForm option
entry_form code option s = read_form s.written.code s.written.octets option s.is.option

-- ---- octets that begin with no subnet
-- No want of memory refuses a subnet.
pub refused_subnet : (octets : List ℕ) (e : DecodeError) → RefusesSubnet octets 0 e → IsWantOfMemory e → ⊥
refused_subnet octets e (inl cut) memory = subst IsWantOfMemory cut.0 memory
refused_subnet octets e (inr (family, source, scope, there, inl (inl one))) memory = subst IsWantOfMemory one.1.0 memory
refused_subnet octets e (inr (family, source, scope, there, inl (inr two))) memory = subst IsWantOfMemory two.1.0 memory
refused_subnet octets e (inr (family, source, scope, there, inr other)) memory = subst IsWantOfMemory other.0 memory
