-- Laws of type bit maps.
use Rattle.std.proofs.Common.{◌≡◌, ℕ, zero, suc, ◌+◌, ◌-◌, ◌*◌, ◌/◌, ◌%◌, ◌<◌, ◌≤◌, ◌==◌, ◌⊎◌, inl, inr, Bool, true, false, List, [], ◌∷◌, ◌++◌, length, get_or, take, drop, cond, refl, sym, ap, subst, ◌∙◌, arith}
use Rattle.std.proofs.lemmas.List.{take_at, drop_at, length-append}
use Rattle.dnw_wire.specs.BitMaps.{bits_types, octet_types, map_types, IsMap, IsTightMap, BitMaps, no_window, window, Rises, AreOctets, Begins}

pub rises_up : (low codes_high : ℕ) (codes : List ℕ) → Rises low codes codes_high → low ≤ codes_high
rises_up low high [] r = r
rises_up low high (c ∷ cs) r = omega (arith, r.0, rises_up (c + 1) high cs r.1)

pub rises_low : (lower low high : ℕ) (codes : List ℕ) → lower ≤ low → Rises low codes high
    → Rises lower codes high
rises_low lower low high [] le r = omega (arith, le, r)
rises_low lower low high (c ∷ cs) le r = (omega (arith, le, r.0), r.1)

pub rises_high : (low high higher : ℕ) (codes : List ℕ) → high ≤ higher → Rises low codes high
    → Rises low codes higher
rises_high low high higher [] le r = omega (arith, le, r)
rises_high low high higher (c ∷ cs) le r = (r.0, rises_high (c + 1) high higher cs le r.1)

pub rises_joined : (low middle high : ℕ) (xs ys : List ℕ) → Rises low xs middle
    → Rises middle ys high → Rises low (xs ++ ys) high
rises_joined low middle high [] ys r s = rises_low low middle high ys r s
rises_joined low middle high (x ∷ xs) ys r s = (r.0, rises_joined (x + 1) middle high xs ys r.1 s)

last_bit : (base width : ℕ) (b : Bool)
    → Rises (base + width) (cond b ((base + width) ∷ []) []) (base + width + 1)
last_bit base width true = (omega arith, omega arith)
last_bit base width false = omega arith

bits_rise : (base width bits : ℕ) → Rises base (bits_types base width bits) (base + width)
bits_rise base zero bits = omega arith
bits_rise base (suc width) bits =
    subst (λ (high : ℕ). Rises base (bits_types base (suc width) bits) high) (omega arith)
    (rises_joined base (base + width) (base + width + 1) (bits_types base width (bits / 2))
    (cond (bits % 2 == 1) ((base + width) ∷ []) []) (bits_rise base width (bits / 2))
    (last_bit base width (bits % 2 == 1)))

pub octet_rises : (base octet : ℕ) → Rises base (octet_types base octet) (base + 8)
unfolding octet_types
octet_rises base octet = bits_rise base 8 octet

pub map_rises : (base : ℕ) (map : List ℕ) → Rises base (map_types base map) (base + 8 * length map)
map_rises base [] = omega arith
map_rises base (octet ∷ octets) =
    subst (λ (high : ℕ). Rises base (map_types base (octet ∷ octets)) high) (omega arith)
    (rises_joined base (base + 8) (base + 8 + 8 * length octets) (octet_types base octet)
    (map_types (base + 8) octets) (octet_rises base octet) (map_rises (base + 8) octets))

-- The types of bit maps rise.
pub maps_rise : (above : ℕ) (octets types : List ℕ) → above ≤ 256 → BitMaps IsMap above octets types
    → Rises (256 * above) types 65536
maps_rise above _ _ le no_window = omega (arith, le)
maps_rise above octets types le
    (window {number = number} {map = map} {rest = rest} {later = later} order small fine e f more) =
    let first : Rises (256 * number) (map_types (256 * number) map) (256 * (number + 1)) =
    rises_high (256 * number) (256 * number + 8 * length map) (256 * (number + 1))
    (map_types (256 * number) map) (omega (arith, fine.few))
    (map_rises (256 * number) map) in
    let whole =
    rises_joined (256 * number) (256 * (number + 1)) 65536 (map_types (256 * number) map)
    later first (maps_rise (number + 1) rest later (omega (arith, small)) more) in
    subst (λ (ts : List ℕ). Rises (256 * above) ts 65536) (sym f)
    (rises_low (256 * above) (256 * number) 65536 (map_types (256 * number) map ++ later)
    (omega (arith, order)) whole)

-- What is written is read.
pub tight_reads : (above : ℕ) (octets types : List ℕ) → BitMaps IsTightMap above octets types
    → BitMaps IsMap above octets types
tight_reads above _ _ no_window = no_window
tight_reads above octets types (window order small fine e f more) =
    window order small (record { some = fine.some; few = fine.few }) e f (tight_reads _ _ _ more)

-- Bit maps with this first window.
pub window_first : (above number : ℕ) (map rest octets types : List ℕ) → length map ≤ 32
    → octets ≡ number ∷ length map ∷ (map ++ rest) → BitMaps IsMap above octets types
    → (later : List ℕ) × (types ≡ map_types (256 * number) map ++ later)
    × BitMaps IsMap (number + 1) rest later
window_first above number map rest _ _ few e no_window = absurd (cc e)
window_first above number map rest octets types few e
    (window {number = n} {map = m} {rest = r} {later = later} order small fine f g more) =
    let whole : n ∷ length m ∷ (m ++ r) ≡ number ∷ length map ∷ (map ++ rest) = sym f ∙ e in
    let same_number : n ≡ number = cc whole in
    let same_length : length m ≡ length map = cc whole in
    let tails : m ++ r ≡ map ++ rest = cc whole in
    let same_map : m ≡ map =
    sym (take_at m r (length map) same_length)
    ∙ ap (λ (t : List ℕ). take (length map) t) tails ∙ take_at map rest (length map) refl in
    let same_rest : r ≡ rest =
    sym (drop_at m r (length map) same_length)
    ∙ ap (λ (t : List ℕ). drop (length map) t) tails
    ∙ drop_at map rest (length map) refl in (
      later,
      g ∙ ap (λ (k : ℕ). map_types (256 * k) m ++ later) same_number
          ∙ ap (λ (t : List ℕ). map_types (256 * number) t ++ later) same_map,
      subst (λ (t : List ℕ). BitMaps IsMap (number + 1) t later) same_rest
          (subst (λ (k : ℕ). BitMaps IsMap (k + 1) r later) same_number more),
    )

pub maps_begin : (above : ℕ) (octets types : List ℕ) → BitMaps IsMap above octets types
    → (octets ≡ []) ⊎ Begins above octets
maps_begin above _ _ no_window = inl refl
maps_begin above octets types (window {number = n} {map = m} {rest = r} order small fine f g more) =
    let first : get_or octets 0 0 ≡ n = ap (λ (o : List ℕ). get_or o 0 0) f in
    let second : get_or octets 1 0 ≡ length m = ap (λ (o : List ℕ). get_or o 1 0) f in
    let long : length octets ≡ 2 + (length m + length r) =
    omega (arith, ap length f, length-append m r) in
    inr (record {
      long = omega arith;
      order = omega (arith, order);
      some = omega (arith, fine.some);
      few = omega (arith, fine.few);
      whole = omega arith;
    })

-- Types have one way to be written, and bit maps are those of one set of types.

-- Numbers below a bound, and others from there on.
split_rises : (low mid high : ℕ) (xs ys us vs : List ℕ) → Rises low xs mid → Rises mid ys high
    → Rises low us mid → Rises mid vs high → xs ++ ys ≡ us ++ vs → (xs ≡ us) × (ys ≡ vs)
split_rises low mid high [] ys [] vs r s t w e = (refl, e)
split_rises low mid high [] [] (u ∷ us) vs r s t w e = absurd (cc e)
split_rises low mid high [] (y ∷ ys) (u ∷ us) vs r s t w e =
    let head : y ≡ u = cc e in
    absurd (omega (arith, head, s.0, rises_up (u + 1) mid us t.1))
split_rises low mid high (x ∷ xs) ys [] [] r s t w e = absurd (cc e)
split_rises low mid high (x ∷ xs) ys [] (v ∷ vs) r s t w e =
    let head : x ≡ v = cc e in
    absurd (omega (arith, head, w.0, rises_up (x + 1) mid xs r.1))
split_rises low mid high (x ∷ xs) ys (u ∷ us) vs r s t w e =
    let head : x ≡ u = cc e in
    let tail : xs ++ ys ≡ us ++ vs = cc e in
    let later =
    split_rises (x + 1) mid high xs ys us vs r.1 s
    (subst (λ (n : ℕ). Rises (n + 1) us mid) (sym head) t.1) w tail in
    (ap (λ (n : ℕ). n ∷ xs) head ∙ ap (λ (ns : List ℕ). u ∷ ns) later.0, later.1)

abbrev top : ℕ → ℕ
top zero = 1
top (suc width) = 2 * top width

same_last : (n : ℕ) (b c : Bool) → cond b (n ∷ []) [] ≡ cond c (n ∷ []) [] → b ≡ c
same_last n true true e = refl
same_last n false false e = refl
same_last n true false e = absurd (cc e)
same_last n false true e = absurd (cc e)

parity : (m n : ℕ) → m < 2 → n < 2 → (m == 1) ≡ (n == 1) → m ≡ n
parity zero zero lm ln e = refl
parity zero (suc zero) lm ln e = absurd (cc e)
parity (suc zero) zero lm ln e = absurd (cc e)
parity (suc zero) (suc zero) lm ln e = refl
parity (suc (suc m)) n lm ln e = absurd (omega (arith, lm))
parity m (suc (suc n)) lm ln e = absurd (omega (arith, ln))

-- Bits are those of their numbers.
bits_once : (base width b c : ℕ) → b < top width → c < top width
    → bits_types base width b ≡ bits_types base width c → b ≡ c
bits_once base zero b c lb lc e = omega (arith, lb, lc)
bits_once base (suc width) b c lb lc e =
    let mid = base + width in
    let pieces =
    split_rises base mid (mid + 1) (bits_types base width (b / 2))
    (cond (b % 2 == 1) (mid ∷ []) []) (bits_types base width (c / 2))
    (cond (c % 2 == 1) (mid ∷ []) []) (bits_rise base width (b / 2))
    (last_bit base width (b % 2 == 1)) (bits_rise base width (c / 2))
    (last_bit base width (c % 2 == 1)) e in
    let upper : b / 2 ≡ c / 2 =
    bits_once base width (b / 2) (c / 2) (omega (arith, lb)) (omega (arith, lc)) pieces.0 in
    let lower : b % 2 ≡ c % 2 =
    parity (b % 2) (c % 2) (omega arith) (omega arith)
    (same_last mid (b % 2 == 1) (c % 2 == 1) pieces.1) in
    omega (arith, upper, lower)

octet_once : (base b c : ℕ) → b < 256 → c < 256 → octet_types base b ≡ octet_types base c → b ≡ c
unfolding octet_types
octet_once base b c lb lc e = bits_once base 8 b c lb lc e

pub octet_none : (base : ℕ) → octet_types base 0 ≡ []
unfolding octet_types
octet_none base = refl

none_behind : (xs ys : List ℕ) → xs ++ ys ≡ [] → (xs ≡ []) × (ys ≡ [])
none_behind [] ys e = (refl, e)
none_behind (x ∷ xs) ys e = absurd (cc e)

-- The octet at the end.
abbrev pub last : List ℕ → ℕ
last [] = 0
last (octet ∷ []) = octet
last (octet ∷ other ∷ octets) = last (other ∷ octets)

pub last_is : (m : List ℕ) → get_or m (length m - 1) 0 ≡ last m
last_is [] = refl
last_is (octet ∷ []) = refl
last_is (octet ∷ other ∷ octets) =
    let further : length (octet ∷ other ∷ octets) - 1 ≡ suc (length (other ∷ octets) - 1) =
    omega arith in
    ap (λ (i : ℕ). get_or (octet ∷ other ∷ octets) i 0) further ∙ last_is (other ∷ octets)

-- An octet that isn't zero has a type.
map_some : (base : ℕ) (m : List ℕ) → AreOctets m → 0 < last m → map_types base m ≡ [] → ⊥
map_some base [] small set e = omega (arith, set)
map_some base (octet ∷ []) small set e =
    omega (
      arith,
      set,
      octet_once base octet 0 small.0 (omega arith)
          ((none_behind (octet_types base octet) [] e).0 ∙ sym (octet_none base)),
    )
map_some base (octet ∷ other ∷ octets) small set e =
    map_some (base + 8) (other ∷ octets) small.1 set
    (none_behind (octet_types base octet) (map_types (base + 8) (other ∷ octets)) e).1

heads : (base o p : ℕ) (os ps : List ℕ) → o < 256 → p < 256
    → map_types base (o ∷ os) ≡ map_types base (p ∷ ps)
    → (o ≡ p) × (map_types (base + 8) os ≡ map_types (base + 8) ps)
heads base o p os ps lo lp e =
    let low = base + 8 in
    let high = low + 8 * (length os + length ps) in
    let pieces =
    split_rises base low high (octet_types base o) (map_types low os) (octet_types base p)
    (map_types low ps)
    (octet_rises base o)
    (rises_high low (low + 8 * length os) high (map_types low os) (omega arith)
    (map_rises low os))
    (octet_rises base p)
    (rises_high low (low + 8 * length ps) high (map_types low ps) (omega arith)
    (map_rises low ps)) e in
    (octet_once base o p lo lp pieces.0, pieces.1)

-- A window's octets without zero octets at the end are those of their types.
map_once : (base : ℕ) (m n : List ℕ) → AreOctets m → AreOctets n → 0 < last m → 0 < last n
    → map_types base m ≡ map_types base n → m ≡ n
map_once base [] n sm sn tm tn e = absurd (omega (arith, tm))
map_once base m [] sm sn tm tn e = absurd (omega (arith, tn))
map_once base (o ∷ []) (p ∷ []) sm sn tm tn e =
    ap (λ (x : ℕ). x ∷ []) (heads base o p [] [] sm.0 sn.0 e).0
map_once base (o ∷ []) (p ∷ q ∷ ps) sm sn tm tn e =
    absurd (map_some (base + 8) (q ∷ ps) sn.1 tn (sym (heads base o p [] (q ∷ ps) sm.0 sn.0 e).1))
map_once base (o ∷ q ∷ os) (p ∷ []) sm sn tm tn e =
    absurd (map_some (base + 8) (q ∷ os) sm.1 tm (heads base o p (q ∷ os) [] sm.0 sn.0 e).1)
map_once base (o ∷ q ∷ os) (p ∷ r ∷ ps) sm sn tm tn e =
    let both = heads base o p (q ∷ os) (r ∷ ps) sm.0 sn.0 e in
    ap (λ (x : ℕ). x ∷ q ∷ os) both.0
    ∙ ap (λ (xs : List ℕ). p ∷ xs) (map_once (base + 8) (q ∷ os) (r ∷ ps) sm.1 sn.1 tm tn both.1)

-- The first of them tells the window's number.
number_once : (n k : ℕ) (ts us later others : List ℕ) → Rises (256 * n) ts (256 * (n + 1))
    → Rises (256 * k) us (256 * (k + 1)) → (ts ≡ [] → ⊥) → (us ≡ [] → ⊥)
    → ts ++ later ≡ us ++ others → n ≡ k
number_once n k [] us later others r s some more e = absurd (some refl)
number_once n k ts [] later others r s some more e = absurd (more refl)
number_once n k (t ∷ ts) (u ∷ us) later others r s some more e =
    let head : t ≡ u = cc e in
    omega (
      arith,
      head,
      r.0,
      s.0,
      rises_up (t + 1) (256 * (n + 1)) ts r.1,
      rises_up (u + 1)
          (256 * (k + 1)) us s.1,
    )

front_small : (xs ys : List ℕ) → AreOctets (xs ++ ys) → AreOctets xs × AreOctets ys
front_small [] ys small = (tt, small)
front_small (x ∷ xs) ys small =
    ((small.0, (front_small xs ys small.1).0), (front_small xs ys small.1).1)

window_small : (number : ℕ) (map rest octets : List ℕ)
    → octets ≡ number ∷ length map ∷ (map ++ rest) → AreOctets octets
    → AreOctets map × AreOctets rest
window_small number map rest octets e small = front_small map rest (subst AreOctets e small).1.1

window_rises : (number : ℕ) (map : List ℕ) → length map ≤ 32
    → Rises (256 * number) (map_types (256 * number) map) (256 * (number + 1))
window_rises number map few =
    rises_high (256 * number) (256 * number + 8 * length map) (256 * (number + 1))
    (map_types (256 * number) map) (omega (arith, few)) (map_rises (256 * number) map)

window_set : (map : List ℕ) → IsTightMap map → 0 < last map
window_set map fine = subst (λ (o : ℕ). 0 < o) (last_is map) fine.tight

-- Types have one way to be written.
pub written_once : (a b : ℕ) (xs ys ts us : List ℕ) → BitMaps IsTightMap a xs ts
    → BitMaps IsTightMap b ys us → AreOctets xs → AreOctets ys → ts ≡ us → xs ≡ ys
written_once a b _ _ _ _ no_window no_window small few e = refl
written_once a b _ ys _ us no_window
    (window {number = k} {map = m} {rest = rest} {later = later} order below fine f g more) small
    few e =
    let none = (none_behind (map_types (256 * k) m) later (sym (e ∙ g))).0 in
    absurd (map_some (256 * k) m (window_small k m rest ys f few).0 (window_set m fine) none)
written_once a b xs _ ts _
    (window {number = k} {map = m} {rest = rest} {later = later} order below fine f g more)
    no_window small few e =
    let none = (none_behind (map_types (256 * k) m) later (sym g ∙ e)).0 in
    absurd (map_some (256 * k) m (window_small k m rest xs f small).0 (window_set m fine) none)
written_once a b xs ys ts us
    (window {number = n} {map = m} {rest = rest} {later = later} order below fine f g more)
    (window {number = k} {map = l} {rest = other} {later = others} ordered bounded fit h i further)
    small few e =
    let parts = window_small n m rest xs f small in
    let pieces = window_small k l other ys h few in
    let both : map_types (256 * n) m ++ later ≡ map_types (256 * k) l ++ others = sym g ∙ e ∙ i in
    let same : n ≡ k =
    number_once n k (map_types (256 * n) m) (map_types (256 * k) l) later others
    (window_rises n m fine.few) (window_rises k l fit.few)
    (map_some (256 * n) m parts.0 (window_set m fine))
    (map_some (256 * k) l pieces.0 (window_set l fit)) both in
    let rises =
    maps_rise (n + 1) rest later (omega (arith, below))
    (tight_reads (n + 1) rest later more) in
    let climbs =
    maps_rise (k + 1) other others (omega (arith, bounded))
    (tight_reads (k + 1) other others further) in
    let moved : Rises (256 * (n + 1)) others 65536 =
    subst (λ (j : ℕ). Rises (256 * (j + 1)) others 65536) (sym same) climbs in
    let moved_map : Rises (256 * n) (map_types (256 * n) l) (256 * (n + 1)) =
    window_rises n l fit.few in
    let joined : map_types (256 * n) m ++ later ≡ map_types (256 * n) l ++ others =
    subst (λ (j : ℕ). map_types (256 * n) m ++ later ≡ map_types (256 * j) l ++ others)
    (sym same) both in
    let split =
    split_rises (256 * n) (256 * (n + 1)) 65536 (map_types (256 * n) m) later
    (map_types (256 * n) l) others (window_rises n m fine.few) rises moved_map moved
    joined in
    let maps : m ≡ l =
    map_once (256 * n) m l parts.0 pieces.0 (window_set m fine) (window_set l fit)
    split.0 in
    let rests : rest ≡ other =
    written_once (n + 1) (k + 1) rest other later others more further parts.1 pieces.1
    split.1 in
    f
    ∙ ap (λ (j : ℕ). j ∷ length m ∷ (m ++ rest)) same
    ∙ ap (λ (j : List ℕ). k ∷ length j ∷ (j ++ rest)) maps
    ∙ ap (λ (j : List ℕ). k ∷ length l ∷ (l ++ j)) rests
    ∙ sym h

-- Bit maps are those of one set of types.
pub read_once : (a b : ℕ) (xs ys ts us : List ℕ) → BitMaps IsMap a xs ts → BitMaps IsMap b ys us
    → xs ≡ ys → ts ≡ us
read_once a b _ _ _ _ no_window no_window e = refl
read_once a b _ ys _ us no_window
    (window {number = k} {map = m} {rest = rest} order below fine f g more) e =
    absurd (cc (e ∙ f))
read_once a b xs ys ts us
    (window {number = n} {map = m} {rest = rest} {later = later} order below fine f g more) q e =
    let other = window_first b n m rest ys us fine.few (sym e ∙ f) q in
    g
    ∙ ap (λ (ls : List ℕ). map_types (256 * n) m ++ ls)
    (read_once (n + 1) (n + 1) rest rest later other.0 more other.2 refl) ∙ sym other.1
