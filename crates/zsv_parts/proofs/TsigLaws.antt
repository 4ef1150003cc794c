-- The data of a signature: where their fields stand, that they are told by their octets, and that fields which don't fill
-- the data are none.
use Rattle.std.proofs.Common.{suc, zero, ◌≡◌, ℕ, ◌+◌, ◌*◌, ◌/◌, ◌%◌, ◌^◌, ◌<◌, ◌≤◌, inl, inr, List, [], ◌∷◌, ◌++◌, length, drop, get_or, refl, sym, ap, subst, ◌∙◌, arith}
use Rattle.std.specs.Int.{w32, from_be_bytes}
use Rattle.std.proofs.lemmas.Nat.{from_be_bytes-to_be_bytes_4, be_bytes_4}
use Rattle.std.specs.Prelude.{◌⊎◌, Result, Ok, Err, IfErr}
use Rattle.dnw_codes.specs.declared.error.DecodeError.{DecodeError}
use Rattle.dnw_encoder.specs.dnw_name.DomainName.{DomainName}
use Rattle.dnw_encoder.specs.dnw_decoder.Octets.{octets_16, octets_32, number_16, Stands}
use Rattle.dnw_encoder.specs.dnw_decoder.Reading.{Reading, TakesOctets, IsWantOfMemory}
use Rattle.dnw_encoder.specs.dnw_decoder.Spelling.{NameAt}
use Rattle.dnw_encoder.proofs.dnw_decoder_lemmas.SpellingLaws.{name_once}
use Rattle.dnw_encoder.proofs.dnw_decoder_lemmas.Standing.{stands_head, stands_second, stands_within, stands_same, stands_split, length-octets_32}
use Rattle.zsv_parts.specs.declared.tsig.Tsig.{Tsig}
use Rattle.zsv_parts.specs.Signatures.{octets_48, counted, Signed, signed_of, time_octets, code_octets, signed_octets, FitsTime, FitsCodes, SignedAt, TsigAt, mac_size, time_sizes, code_sizes, field_sizes, RefusesFields, RefusesSigned}

-- ---- numbers
pub length-octets_48 : (n : ℕ) → length (octets_48 n) ≡ 6
length-octets_48 n = omega (arith, length-octets_32 (n % 2 ^ 32))

octets_32_once : (a b : ℕ) → a < 2 ^ 32 → b < 2 ^ 32 → octets_32 a ≡ octets_32 b → a ≡ b
unfolding octets_32
octets_32_once a b few less same =
    sym (from_be_bytes-to_be_bytes_4 a few) ∙ ap (from_be_bytes w32) same ∙ from_be_bytes-to_be_bytes_4 b less

low_small : (n : ℕ) → n % 2 ^ 32 < 2 ^ 32
low_small n = omega arith

octets_48_once : (a b : ℕ) → a < 2 ^ 48 → b < 2 ^ 48 → octets_48 a ≡ octets_48 b → a ≡ b
octets_48_once a b few less same =
    let first : a / 2 ^ 32 / 256 % 256 ≡ b / 2 ^ 32 / 256 % 256 = ap (λ (octets : List ℕ). get_or octets 0 0) same in
    let second : a / 2 ^ 32 % 256 ≡ b / 2 ^ 32 % 256 = ap (λ (octets : List ℕ). get_or octets 1 0) same in
    let later : octets_32 (a % 2 ^ 32) ≡ octets_32 (b % 2 ^ 32) = ap (λ (octets : List ℕ). drop 2 octets) same in
    let low = octets_32_once (a % 2 ^ 32) (b % 2 ^ 32) (low_small a) (low_small b) later in
    omega (arith, first, second, low, few, less)

four_small : (c d e f : ℕ) → c < 256 → d < 256 → e < 256 → f < 256 → (i : ℕ) → get_or (c ∷ d ∷ e ∷ f ∷ []) i 0 < 256
four_small c d e f c_small d_small e_small f_small zero = c_small
four_small c d e f c_small d_small e_small f_small (suc zero) = d_small
four_small c d e f c_small d_small e_small f_small (suc (suc zero)) = e_small
four_small c d e f c_small d_small e_small f_small (suc (suc (suc zero))) = f_small
four_small c d e f c_small d_small e_small f_small (suc (suc (suc (suc i)))) = omega arith

to_octets_32 : (c d e f : ℕ) → c < 256 → d < 256 → e < 256 → f < 256 → octets_32 (16777216 * c + (65536 * d + (256 * e + f))) ≡ c ∷ d ∷ e ∷ f ∷ []
unfolding octets_32
to_octets_32 c d e f c_small d_small e_small f_small = be_bytes_4 (c ∷ d ∷ e ∷ f ∷ []) (16777216 * c + (65536 * d + (256 * e + f))) refl (four_small c d e f c_small d_small e_small f_small) (omega arith)

-- Six octets are those of the number that their first two and their last four make up.
pub six_octets : (octets : List ℕ) (high low : ℕ) → length octets ≡ 6 → ((i : ℕ) → get_or octets i 0 < 256) → high ≡ 256 * get_or octets 0 0 + get_or octets 1 0 → low ≡ 16777216 * get_or octets 2 0 + (65536 * get_or octets 3 0 + (256 * get_or octets 4 0 + get_or octets 5 0)) → octets_48 (high * 2 ^ 32 + low) ≡ octets
six_octets (a ∷ b ∷ c ∷ d ∷ e ∷ f ∷ []) high low long small is_high is_low =
    let few : low < 2 ^ 32 = omega (arith, is_low, small 2, small 3, small 4, small 5) in
    let top : (high * 2 ^ 32 + low) / 2 ^ 32 ≡ 256 * a + b = omega (arith, few, is_high) in
    let rest : (high * 2 ^ 32 + low) % 2 ^ 32 ≡ 16777216 * c + (65536 * d + (256 * e + f)) = omega (arith, few, is_low) in
    let first : (high * 2 ^ 32 + low) / 2 ^ 32 / 256 % 256 ≡ a = omega (arith, top, small 0, small 1) in
    let second : (high * 2 ^ 32 + low) / 2 ^ 32 % 256 ≡ b = omega (arith, top, small 0, small 1) in
    let later = ap octets_32 rest ∙ to_octets_32 c d e f (small 2) (small 3) (small 4) (small 5) in
    λ i. first i ∷ second i ∷ later i
six_octets [] high low long small is_high is_low = absurd (omega (arith, long))
six_octets (a ∷ []) high low long small is_high is_low = absurd (omega (arith, long))
six_octets (a ∷ b ∷ []) high low long small is_high is_low = absurd (omega (arith, long))
six_octets (a ∷ b ∷ c ∷ []) high low long small is_high is_low = absurd (omega (arith, long))
six_octets (a ∷ b ∷ c ∷ d ∷ []) high low long small is_high is_low = absurd (omega (arith, long))
six_octets (a ∷ b ∷ c ∷ d ∷ e ∷ []) high low long small is_high is_low = absurd (omega (arith, long))
six_octets (a ∷ b ∷ c ∷ d ∷ e ∷ f ∷ g ∷ gs) high low long small is_high is_low = absurd (omega (arith, long))

-- The number that stands in two octets, whatever is behind them.
pub number_there : (message : List ℕ) (place n : ℕ) (later : List ℕ) (end : ℕ) → n < 2 ^ 16 → Stands message place (octets_16 n ++ later) end → number_16 message place ≡ n
number_there message place n later end small there =
    let high : get_or message place 0 ≡ n / 256 % 256 = stands_head message place _ _ end there in
    let low : get_or message (place + 1) 0 ≡ n % 256 = stands_second message place _ _ _ end there in
    omega (arith, high, low, small)

-- ---- where the fields stand
pub record TimesThere (message : List ℕ) (place time fudge : ℕ) (mac : List ℕ) (end : ℕ) : Type 0 where
  pub clock : Stands message place (octets_48 time) (place + 6)
  pub fudge_is : number_16 message (place + 6) ≡ fudge
  pub size : number_16 message (place + 8) ≡ length mac
  pub mac_there : Stands message (place + 10) mac end
  pub behind : end ≡ place + (10 + length mac)

pub times_there : (message : List ℕ) (place time fudge : ℕ) (mac : List ℕ) (end : ℕ) → FitsTime time fudge mac → Stands message place (time_octets time fudge mac) end → TimesThere message place time fudge mac end
times_there message place time fudge mac end fits there =
    let first = stands_split message place (octets_48 time) (octets_16 fudge ++ counted mac) end there in
    let six : place + length (octets_48 time) ≡ place + 6 = ap (λ (n : ℕ). place + n) (length-octets_48 time) in
    let clock = subst (λ (p : ℕ). Stands message place (octets_48 time) p) six first.0 in
    let later = subst (λ (p : ℕ). Stands message p (octets_16 fudge ++ counted mac) end) six first.1 in
    let second = stands_split message (place + 6) (octets_16 fudge) (counted mac) end later in
    let at_eight : place + 6 + 2 ≡ place + 8 = omega arith in
    let eight : Stands message (place + 8) (counted mac) end = subst (λ (p : ℕ). Stands message p (counted mac) end) at_eight second.1 in
    let third = stands_split message (place + 8) (octets_16 (length mac)) mac end eight in
    let at_ten : place + 8 + 2 ≡ place + 10 = omega arith in
    let ten : Stands message (place + 10) mac end = subst (λ (p : ℕ). Stands message p mac end) at_ten third.1 in
    record {
      clock = clock;
      fudge_is = number_there message (place + 6) fudge (counted mac) end fits.1 later;
      size = number_there message (place + 8) (length mac) mac end fits.2 eight;
      mac_there = ten;
      behind = omega (arith, ten.behind);
    }

pub record CodesThere (message : List ℕ) (place oid error : ℕ) (other : List ℕ) (end : ℕ) : Type 0 where
  pub oid_is : number_16 message place ≡ oid
  pub error_is : number_16 message (place + 2) ≡ error
  pub size : number_16 message (place + 4) ≡ length other
  pub other_there : Stands message (place + 6) other end
  pub behind : end ≡ place + (6 + length other)

pub codes_there : (message : List ℕ) (place oid error : ℕ) (other : List ℕ) (end : ℕ) → FitsCodes oid error other → Stands message place (code_octets oid error other) end → CodesThere message place oid error other end
codes_there message place oid error other end fits there =
    let first = stands_split message place (octets_16 oid) (octets_16 error ++ counted other) end there in
    let second = stands_split message (place + 2) (octets_16 error) (counted other) end first.1 in
    let at_four : place + 2 + 2 ≡ place + 4 = omega arith in
    let four : Stands message (place + 4) (counted other) end = subst (λ (p : ℕ). Stands message p (counted other) end) at_four second.1 in
    let third = stands_split message (place + 4) (octets_16 (length other)) other end four in
    let at_six : place + 4 + 2 ≡ place + 6 = omega arith in
    let six : Stands message (place + 6) other end = subst (λ (p : ℕ). Stands message p other end) at_six third.1 in
    record {
      oid_is = number_there message place oid (octets_16 error ++ counted other) end fits.0 there;
      error_is = number_there message (place + 2) error (counted other) end fits.1 first.1;
      size = number_there message (place + 4) (length other) other end fits.2 four;
      other_there = six;
      behind = omega (arith, six.behind);
    }

pub record SignedThere (message : List ℕ) (place : ℕ) (s : Signed) (end : ℕ) : Type 0 where
  pub times : TimesThere message place s.time s.fudge s.mac (place + (10 + length s.mac))
  pub codes : CodesThere message (place + (10 + length s.mac)) s.oid s.error s.other end

pub signed_there : (message : List ℕ) (place : ℕ) (s : Signed) (end : ℕ) → SignedAt message place s end → SignedThere message place s end
signed_there message place s end at =
    let split = stands_split message place (time_octets s.time s.fudge s.mac) (code_octets s.oid s.error s.other) end at.there in
    let front = times_there message place s.time s.fudge s.mac (place + length (time_octets s.time s.fudge s.mac)) at.time split.0 in
    record {
      times = subst (λ (p : ℕ). TimesThere message place s.time s.fudge s.mac p) front.behind front;
      codes = codes_there message (place + (10 + length s.mac)) s.oid s.error s.other end at.codes (subst (λ (p : ℕ). Stands message p (code_octets s.oid s.error s.other) end) front.behind split.1);
    }

-- ---- fields that don't fill the data
abbrev total : List ℕ → ℕ
total [] = 0
total (n ∷ ns) = n + total ns

fields_none : (message : List ℕ) (start len at : ℕ) (sizes : List ℕ) (e : DecodeError) → at + total sizes ≡ start + len → start + len ≤ length message → RefusesFields message start len at sizes e → ⊥
fields_none message start len at [] e fills within r = let ends : at + 0 ≡ start + len = fills in omega (arith, ends, r.0)
fields_none message start len at (n ∷ ns) e fills within r =
    let ends : at + (n + total ns) ≡ start + len = fills in
    elim r [
      | inl cut ↦ omega (arith, ends, within, cut.1)
      | inr whole ↦ elim whole.1 [
        | inl past ↦ omega (arith, ends, past.0)
        | inr inside ↦ fields_none message start len (at + n) ns e (omega (arith, ends)) within inside.1
      ]
    ]

-- Where fields fill the data, none of them is refused.
pub signed_none : (message : List ℕ) (start len place : ℕ) (s : Signed) (e : DecodeError) → SignedAt message place s (start + len) → RefusesFields message start len place (field_sizes message place) e → ⊥
signed_none message start len place s e at refused =
    let there = signed_there message place s (start + len) at in
    let other : number_16 message (place + (10 + number_16 message (place + 8)) + 4) ≡ length s.other =
    ap (λ (n : ℕ). number_16 message (place + (10 + n) + 4)) there.times.size ∙ there.codes.size in
    let all : total (field_sizes message place) ≡ 6 + (2 + (2 + (number_16 message (place + 8) + (2 + (2 + (2 + (number_16 message (place + (10 + number_16 message (place + 8)) + 4) + 0))))))) = refl in
    fields_none message start len place (field_sizes message place) e (omega (arith, all, there.times.size, other, there.codes.behind))
    (stands_within message place (signed_octets s) (start + len) (omega arith) at.there) refused

pub tsig_none : (message : List ℕ) (place len : ℕ) (name : DomainName) (behind : ℕ) (e : DecodeError) → NameAt message place name behind → RefusesFields message place len behind (field_sizes message behind) e → (tsig : Tsig) → TsigAt message place len tsig → ⊥
tsig_none message place len name behind e named refused tsig at =
    let same = name_once message place tsig.algorithm name at.behind behind at.algorithm named in
    signed_none message place len behind (signed_of tsig) e (subst (λ (p : ℕ). SignedAt message p (signed_of tsig) (place + len)) same.1 at.signed) refused

-- The data lie within the message.
pub tsig_within : (message : List ℕ) (place len : ℕ) (tsig : Tsig) → TsigAt message place len tsig → place + len ≤ length message
tsig_within message place len tsig at =
    stands_within message at.behind (signed_octets (signed_of tsig)) (place + len) (omega arith) at.signed.there

-- Where the fields behind a name are refused, no signature stands, or memory was wanted.
pub refused_none : {X : Type 0} (result : Result X DecodeError) (message : List ℕ) (place len : ℕ) (name : DomainName) (behind : ℕ) → NameAt message place name behind → IfErr result (RefusesSigned message place len behind) → IfErr result (λ e. IsWantOfMemory e ⊎ ((tsig : Tsig) → TsigAt message place len tsig → ⊥))
refused_none (Ok x) message place len name behind named refused = tt
refused_none (Err e) message place len name behind named refused =
    elim refused [
      | inl fields ↦ inr (tsig_none message place len name behind e named fields)
      | inr memory ↦ inl memory.0
    ]

-- ---- a field that was read, and one behind it that is refused
pub took : (old : Reading) (octets : List ℕ) (new : Reading) (size start len : ℕ) (sizes : List ℕ) (e : DecodeError) → TakesOctets old octets new → length octets ≡ size → new.index ≤ start + len → RefusesFields new.octets start len new.index sizes e → RefusesFields old.octets start len old.index (size ∷ sizes) e
took old octets new size start len sizes e takes long inside r =
    let at : new.index ≡ old.index + size = omega (arith, takes.there.behind, long) in
    let here = subst (λ (m : List ℕ). RefusesFields m start len new.index sizes e) takes.same r in
    inr (omega (arith, at, takes.within), inr (omega (arith, at, inside), subst (λ (p : ℕ). RefusesFields old.octets start len p sizes e) at here))

-- The octets behind a number that was read are refused.
pub counted_refused : {X : Type 0} (result : Result X DecodeError) (old : Reading) (count : ℕ) (new : Reading) (start len : ℕ) → count < 2 ^ 16 → TakesOctets old (octets_16 count) new → new.index ≤ start + len → IfErr result (λ e. (later : List ℕ) → RefusesFields new.octets start len new.index (count ∷ later) e) → IfErr result (λ e. (later : List ℕ) → RefusesFields old.octets start len old.index (2 ∷ number_16 old.octets old.index ∷ later) e)
counted_refused (Ok x) old count new start len small takes inside refused = tt
counted_refused (Err e) old count new start len small takes inside refused = λ later.
    let is = number_there old.octets old.index count [] new.index small takes.there in
    subst (λ (n : ℕ). RefusesFields old.octets start len old.index (2 ∷ n ∷ later) e) (sym is)
    (took old (octets_16 count) new 2 start len (count ∷ later) e takes refl inside (refused later))

-- ---- the fields in two parts
pub times_took : (old : Reading) (time fudge : ℕ) (mac : List ℕ) (mid : Reading) (start len : ℕ) (sizes : List ℕ) (e : DecodeError) → FitsTime time fudge mac → TakesOctets old (time_octets time fudge mac) mid → mid.index ≤ start + len → RefusesFields mid.octets start len mid.index sizes e → RefusesFields old.octets start len old.index (time_sizes old.octets old.index sizes) e
times_took old time fudge mac mid start len sizes e fits takes inside r =
    let there = times_there old.octets old.index time fudge mac mid.index fits takes.there in
    let size = there.size in
    let behind : mid.index ≡ old.index + (10 + length mac) = there.behind in
    let within = takes.within in
    let at : mid.index ≡ old.index + 6 + 2 + 2 + mac_size old.octets old.index = omega (arith, size, behind) in
    let here = subst (λ (m : List ℕ). RefusesFields m start len mid.index sizes e) takes.same r in
    let later = subst (λ (p : ℕ). RefusesFields old.octets start len p sizes e) at here in
    inr (omega (arith, behind, within), inr (omega (arith, behind, inside), inr (omega (arith, behind, within), inr (omega (arith, behind, inside), inr (omega (arith, behind, within), inr (omega (arith, behind, inside), inr (omega (arith, at, within), inr (omega (arith, at, inside), later))))))))

pub codes_refused : (old : Reading) (time fudge : ℕ) (mac : List ℕ) (mid : Reading) (start len : ℕ) (e : DecodeError) → FitsTime time fudge mac → TakesOctets old (time_octets time fudge mac) mid → mid.index ≤ start + len → RefusesFields mid.octets start len mid.index (code_sizes mid.octets mid.index) e → RefusesFields old.octets start len old.index (field_sizes old.octets old.index) e
codes_refused old time fudge mac mid start len e fits takes inside r =
    let there = times_there old.octets old.index time fudge mac mid.index fits takes.there in
    let size = there.size in
    let at : mid.index ≡ old.index + (10 + mac_size old.octets old.index) = omega (arith, size, there.behind) in
    let sizes : code_sizes mid.octets mid.index ≡ code_sizes old.octets (old.index + (10 + mac_size old.octets old.index)) = λ i. code_sizes (takes.same i) (at i) in
    times_took old time fudge mac mid start len (code_sizes old.octets (old.index + (10 + mac_size old.octets old.index))) e fits takes inside
    (subst (λ (ns : List ℕ). RefusesFields mid.octets start len mid.index ns e) sizes r)

-- ---- one place holds one signature
abbrev signed_made : ℕ → ℕ → List ℕ → ℕ → ℕ → List ℕ → Signed
signed_made time fudge mac oid error other = record { time = time; fudge = fudge; mac = mac; oid = oid; error = error; other = other }

pub signed_once : (message : List ℕ) (place : ℕ) (a b : Signed) (end : ℕ) → SignedAt message place a end → SignedAt message place b end → a ≡ b
signed_once message place a b end p q =
    let s = signed_there message place a end p in
    let t = signed_there message place b end q in
    let clocks = stands_same message place (octets_48 a.time) (octets_48 b.time) (place + 6) (place + 6) (length-octets_48 a.time ∙ sym (length-octets_48 b.time)) s.times.clock t.times.clock in
    let time = octets_48_once a.time b.time p.time.0 q.time.0 clocks.0 in
    let fudge = sym s.times.fudge_is ∙ t.times.fudge_is in
    let macs = stands_same message (place + 10) a.mac b.mac _ _ (sym s.times.size ∙ t.times.size) s.times.mac_there t.times.mac_there in
    let mid : place + (10 + length a.mac) ≡ place + (10 + length b.mac) = macs.1 in
    let codes = subst (λ (m : ℕ). CodesThere message m a.oid a.error a.other end) mid s.codes in
    let oid = sym codes.oid_is ∙ t.codes.oid_is in
    let error = sym codes.error_is ∙ t.codes.error_is in
    let others = stands_same message (place + (10 + length b.mac) + 6) a.other b.other end end (sym codes.size ∙ t.codes.size) codes.other_there t.codes.other_there in
    λ i. signed_made (time i) (fudge i) (macs.0 i) (oid i) (error i) (others.0 i)

-- Two signatures in the same octets have the same algorithm, numbers and octets.
pub tsig_once : (message : List ℕ) (place len : ℕ) (a b : Tsig) → TsigAt message place len a → TsigAt message place len b → (a.algorithm ≡ b.algorithm) × (signed_of a ≡ signed_of b)
tsig_once message place len a b p q =
    let names = name_once message place a.algorithm b.algorithm p.behind q.behind p.algorithm q.algorithm in
    (names.0, signed_once message q.behind (signed_of a) (signed_of b) (place + len) (subst (λ (m : ℕ). SignedAt message m (signed_of a) (place + len)) names.1 p.signed) q.signed)
