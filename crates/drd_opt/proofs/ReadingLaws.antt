-- One place holds the same options, however they are read.
use Rattle.std.proofs.Common.{◌≡◌, ℕ, ◌+◌, ◌/◌, ◌%◌, ◌<◌, List, [], ◌∷◌, ◌++◌, inl, inr, length, take, drop, get_or, refl, sym, ap, subst, ◌∙◌, arith, append_assoc, append-nil}
use Rattle.std.proofs.lemmas.Grind.{flat_map-append}
use Rattle.std.proofs.lemmas.List.{take_at, drop_at, length-append}
use Rattle.std.proofs.lemmas.List.Elements.{All-head, All-tail, All-push}
use Rattle.std.specs.List.{All}
use Rattle.drd_fields.specs.dnw_decoder.Octets.{number_16, Stands}
use Rattle.drd_fields.proofs.dnw_decoder_lemmas.Standing.{stands_same, stands_joined}
use Rattle.drd_opt.specs.Entries.{Entry, RawOption, raw_option, raw_octets, options_octets, FitsLengths}
use Rattle.drd_opt.specs.Reading.{IsEntryOf, AreEntriesOf, BreaksOff, EndsInside, HoldsEntries, IsRefused, EntriesAt, HasRead}

size_of : (r : RawOption) (b : List ℕ) → length (raw_octets r ++ b) ≡ 4 + (length r.octets + length b)
size_of r b = omega (arith, length-append r.octets b)

-- Options that stand at the front of the same octets are the same.
front_same : (r s : RawOption) (a b : List ℕ) → FitsLengths r → FitsLengths s → raw_octets r ++ a ≡ raw_octets s ++ b → (r ≡ s) × (a ≡ b)
front_same r s a b f g e =
    let c_high : r.code / 256 % 256 ≡ s.code / 256 % 256 = cc e in
    let c_low : r.code % 256 ≡ s.code % 256 = cc e in
    let l_high : length r.octets / 256 % 256 ≡ length s.octets / 256 % 256 = cc e in
    let l_low : length r.octets % 256 ≡ length s.octets % 256 = cc e in
    let code : r.code ≡ s.code = omega (arith, c_high, c_low, f.code, g.code) in
    let long : length r.octets ≡ length s.octets = omega (arith, l_high, l_low, f.octets, g.octets) in
    let tails : r.octets ++ a ≡ s.octets ++ b = cc e in
    let n = length s.octets in
    let octets : r.octets ≡ s.octets = sym (take_at r.octets a n long) ∙ ap (λ (o : List ℕ). take n o) tails ∙ take_at s.octets b n refl in
    let behind : a ≡ b = sym (drop_at r.octets a n long) ∙ ap (λ (o : List ℕ). drop n o) tails ∙ drop_at s.octets b n refl in
    (ap (λ (c : ℕ). raw_option c r.octets) code ∙ ap (raw_option s.code) octets, behind)

-- No option stands at the front of these octets.
pub record IsStuck (left : List ℕ) : Type 0 where
  pub none : (r : RawOption) (b : List ℕ) → FitsLengths r → left ≡ raw_octets r ++ b → ⊥

pub stuck_short : (left : List ℕ) → length left < 4 → IsStuck left
stuck_short left short = record { none = λ r b f e. omega (arith, ap length e, size_of r b, short) }

stuck_long : (left : List ℕ) → length left < 4 + number_16 left 2 → IsStuck left
stuck_long left past = record {
  none = λ r b f e.
      let high : get_or left 2 0 ≡ length r.octets / 256 % 256 = ap (λ (o : List ℕ). get_or o 2 0) e in
      let low : get_or left 3 0 ≡ length r.octets % 256 = ap (λ (o : List ℕ). get_or o 3 0) e in
      omega (arith, ap length e, size_of r b, past, high, low, f.octets);
}

pub stuck_broken : (left : List ℕ) → BreaksOff left → IsStuck left
stuck_broken left (inl two) = stuck_short left (omega (arith, two))
stuck_broken left (inr past) = stuck_long left past.1

stuck_inside : (left : List ℕ) → EndsInside left → IsStuck left
stuck_inside left (inl one) = stuck_short left (omega (arith, one))
stuck_inside left (inr three) = stuck_short left (omega (arith, three))

pub left_same : (rs ss : List RawOption) (a b : List ℕ) → All FitsLengths rs → All FitsLengths ss → IsStuck a → IsStuck b → options_octets rs ++ a ≡ options_octets ss ++ b → (rs ≡ ss) × (a ≡ b)
left_same [] [] a b f g p q e = (refl, e)
left_same [] (s ∷ ss) a b f g p q e =
    absurd (p.none s (options_octets ss ++ b) (All-head FitsLengths s ss g) (e ∙ append_assoc (raw_octets s) (options_octets ss) b))
left_same (r ∷ rs) [] a b f g p q e =
    absurd (q.none r (options_octets rs ++ a) (All-head FitsLengths r rs f) (sym e ∙ append_assoc (raw_octets r) (options_octets rs) a))
left_same (r ∷ rs) (s ∷ ss) a b f g p q e =
    let whole : raw_octets r ++ (options_octets rs ++ a) ≡ raw_octets s ++ (options_octets ss ++ b) = sym (append_assoc (raw_octets r) (options_octets rs) a) ∙ e ∙ append_assoc (raw_octets s) (options_octets ss) b in
    let first = front_same r s (options_octets rs ++ a) (options_octets ss ++ b) (All-head FitsLengths r rs f) (All-head FitsLengths s ss g) whole in
    let later = left_same rs ss a b (All-tail FitsLengths r rs f) (All-tail FitsLengths s ss g) p q first.1 in
    (ap (λ (x : RawOption). x ∷ rs) first.0 ∙ ap (λ (xs : List RawOption). s ∷ xs) later.0, later.1)

not_broken : (left : List ℕ) → EndsInside left → BreaksOff left → ⊥
not_broken left (inl one) (inl two) = omega (arith, one, two)
not_broken left (inl one) (inr past) = omega (arith, one, past.0)
not_broken left (inr three) (inl two) = omega (arith, three, two)
not_broken left (inr three) (inr past) = omega (arith, three, past.0)

not_empty : (left : List ℕ) → EndsInside left → left ≡ [] → ⊥
not_empty left (inl one) e = omega (arith, one, ap length e)
not_empty left (inr three) e = omega (arith, three, ap length e)

no_holds : (octets : List ℕ) (entries : List Entry) → IsRefused octets → HoldsEntries octets entries → ⊥
no_holds octets entries refused (inl all) =
    not_empty refused.left refused.inside (left_same refused.raws all.raws refused.left [] refused.fit all.fit (stuck_inside refused.left refused.inside) (stuck_short [] (omega arith)) (sym refused.whole ∙ all.whole ∙ sym (append-nil (options_octets all.raws)))).1
no_holds octets entries refused (inr none) =
    not_broken refused.left refused.inside
    (subst BreaksOff (sym (left_same refused.raws none.raws refused.left none.left refused.fit none.fit (stuck_inside refused.left refused.inside) (stuck_broken none.left none.breaks) (sym refused.whole ∙ none.whole)).1) none.breaks)

-- Where data end inside a number, none are read.
pub no_entries : (message : List ℕ) (place : ℕ) (octets : List ℕ) (end : ℕ) → Stands message place octets end → IsRefused octets → (entries : List Entry) → EntriesAt message place entries end → ⊥
no_entries message place octets end there refused entries found =
    let long : length octets ≡ length found.octets = omega (arith, there.behind, found.there.behind) in
    let same = stands_same message place octets found.octets end end long there found.there in
    no_holds octets entries refused (subst (λ (o : List ℕ). HoldsEntries o entries) (sym same.0) found.holds)

-- A step of reading: one option more.
joined_more : (raws : List RawOption) (r : RawOption) → options_octets (raws ++ r ∷ []) ≡ options_octets raws ++ raw_octets r
joined_more raws r = flat_map-append raw_octets raws (r ∷ []) ∙ ap (λ (o : List ℕ). options_octets raws ++ o) (append-nil (raw_octets r))

entries_more : (raws : List RawOption) (entries : List Entry) (r : RawOption) (entry : Entry) → AreEntriesOf raws entries → IsEntryOf r entry → AreEntriesOf (raws ++ r ∷ []) (entries ++ entry ∷ [])
entries_more [] [] r entry are is = (is, tt)
entries_more (x ∷ xs) (e ∷ es) r entry are is = (are.0, entries_more xs es r entry are.1 is)
entries_more [] (e ∷ es) r entry are is = absurd are
entries_more (x ∷ xs) [] r entry are is = absurd are

pub one_more : (octets : List ℕ) (index : ℕ) (entries : List Entry) (r : RawOption) (behind : ℕ) (entry : Entry) → HasRead octets index entries → FitsLengths r → Stands octets index (raw_octets r) behind → IsEntryOf r entry → HasRead octets behind (entries ++ entry ∷ [])
one_more octets index entries r behind entry h fit there is = record {
  raws = h.raws ++ r ∷ [];
  fit = All-push FitsLengths h.raws r h.fit fit;
  there = subst (λ (o : List ℕ). Stands octets 0 o behind) (sym (joined_more h.raws r)) (stands_joined octets 0 (options_octets h.raws) index (raw_octets r) behind h.there there);
  entries_of = entries_more h.raws entries r entry h.entries_of is;
}
