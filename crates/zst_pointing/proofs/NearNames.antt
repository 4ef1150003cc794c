-- Names that point to the end of another one.
use Rattle.std.proofs.Common.{◌≡◌, true, ◌+◌, ◌-◌, ◌<◌, ◌≤◌, ℕ, zero, suc, List, [], ◌∷◌, ◌++◌, length, take, refl, sym, ap, subst, ◌∙◌, arith, append_assoc, length-append}
use Rattle.std.specs.List.{All}
use Rattle.std.proofs.lemmas.List.{take_at}
use Rattle.std.proofs.lemmas.List.Elements.{All-cons, All-head, All-nil, All-tail}
use Rattle.zst_record.specs.dnw_decoder.Octets.{Stands}
use Rattle.zst_record.specs.dnw_decoder.Spelling.{NameAt, Spelled, at_end, at_pointer, pointer_octets}
use Rattle.zst_record.proofs.dnw_decoder_lemmas.Standing.{stands_split, stands_within}
use Rattle.drd_fields.specs.dnw_label.Label.{IsLabel}
use Rattle.drd_fields.specs.dnw_label.Labels.{label_octets}
use Rattle.drd_fields.proofs.dnw_encoder_lemmas.NameLaws.{length-name_octets, length-octets, spelled_octets}
use Rattle.drd_fields.proofs.dnw_encoder_lemmas.PointerLaws.{spelled_before, spelled_front}
use Rattle.drd_fields.proofs.dnw_encoder_lemmas.SuffixLaws.{octets_one, octets_split}
use Rattle.zst_record.specs.dnw_name.DomainName.{DomainName, IsDomainName, domain_name, name_octets}
use Rattle.zst_pointing.specs.Names.{IsNear, IsOwn, PointsOwner, end_octets, near_octets, octets_of}

-- The labels of a name take at most 254 octets.
pub few_octets : (name : DomainName) → IsDomainName name → octets_of name ≤ 254
few_octets name is = omega (arith, is.short, length-name_octets name, length-octets name)

-- Each label is one of a front or of the rest.
halves : (front rest : List (List ℕ)) → All IsLabel (front ++ rest) → All IsLabel front × All IsLabel rest
halves [] rest are = (All-nil IsLabel, are)
halves (l ∷ ls) rest are =
    let both = halves ls rest (All-tail IsLabel l (ls ++ rest) are) in
    (All-cons IsLabel l ls (All-head IsLabel l (ls ++ rest) are) both.0, both.1)

-- A pointer to some labels.
pub end_some : (all n : ℕ) → 0 < n → end_octets all n ≡ pointer_octets (12 + (all - n))
end_some all zero some = absurd (omega (arith, some))
end_some all (suc n) some = refl

-- It takes one octet more than what it stands for at most.
end_size : (all n : ℕ) → length (end_octets all n) ≤ n + 1
end_size all zero = omega arith
end_size all (suc n) = omega arith

split_octets : (labels before shared : List (List ℕ)) → labels ≡ before ++ shared → label_octets labels ≡ label_octets before ++ label_octets shared
split_octets labels before shared is = ap label_octets is ∙ octets_split before shared

-- The octets of its own, and how many those are that it shares.
own_taken : (name other : DomainName) (n : ℕ) → (o : IsOwn name other n) → (take n (label_octets name.labels) ≡ label_octets o.before) × (octets_of name - n ≡ length (label_octets o.shared)) × (n ≤ octets_of name)
own_taken name other n o =
    let split = split_octets name.labels o.before o.shared o.ends in (
      ap (λ (t : List ℕ). take n t) split ∙ take_at (label_octets o.before) (label_octets o.shared) n (sym o.long),
      omega (arith, ap length split, length-append (label_octets o.before) (label_octets o.shared), o.long),
      omega (arith, ap length split, length-append (label_octets o.before) (label_octets o.shared), o.long),
    )

near_is : (asked name : DomainName) (n : ℕ) → (o : IsOwn name asked n) → near_octets asked name n ≡ label_octets o.before ++ end_octets (octets_of asked) (length (label_octets o.shared))
near_is asked name n o =
    let taken = own_taken name asked n o in
    ap (λ (t : List ℕ). t ++ end_octets (octets_of asked) (octets_of name - n)) taken.0 ∙ ap (λ (k : ℕ). label_octets o.before ++ end_octets (octets_of asked) k) taken.1

-- It takes at most as many octets as in full.
pub near_size : (asked name : DomainName) (n : ℕ) → IsNear asked name n → length (near_octets asked name n) ≤ length (name_octets name)
near_size asked name n near =
    let o = near.own in
    let taken = own_taken name asked n o in
    let all = octets_of asked in
    let whole : length (near_octets asked name n) ≡ length (label_octets o.before) + length (end_octets all (length (label_octets o.shared))) =
    ap length (near_is asked name n o) ∙ length-append (label_octets o.before) (end_octets all (length (label_octets o.shared))) in
    omega (arith, whole, length-octets name, taken.1, taken.2, o.long, end_size all (length (label_octets o.shared)))

-- An owner that points takes two.
pub owner_size : (asked owner : DomainName) → PointsOwner asked owner → length (near_octets asked owner 0) ≡ 2
owner_size asked owner p = by owner.labels refl
  where
    by : (labels : List (List ℕ)) → labels ≡ owner.labels → length (near_octets asked owner 0) ≡ 2
    by [] is = absurd (omega (arith, p.some, ap length is))
    by (l ∷ ls) is = ap length (end_some (octets_of asked) (octets_of owner - 0) (omega (arith, octets_one l ls, ap (λ (ls : List (List ℕ)). length (label_octets ls)) is)))

-- What stands behind the name that is asked for spells the labels that end it.
tail_spells : (message : List ℕ) (asked : DomainName) (above shared : List (List ℕ)) (first place : ℕ) → IsDomainName asked → asked.labels ≡ above ++ shared → Stands message 12 (name_octets asked) first → first ≤ place → (at end : ℕ) → place ≤ at → Stands message at (end_octets (octets_of asked) (length (label_octets shared))) end → Spelled message place (length message) at shared end
tail_spells message asked above [] first place is ends there before at end from stands = at_end (omega (arith, stands_within message at (0 ∷ []) end (omega arith) stands, stands.behind)) stands
tail_spells message asked above (l ∷ ls) first place is ends there before at end from stands =
    let all = octets_of asked in
    let n = length (label_octets (l ∷ ls)) in
    let some : 0 < n = omega (arith, octets_one l ls) in
    let target = 12 + (all - n) in
    let split = split_octets asked.labels above (l ∷ ls) ends in
    let at_target : target ≡ 12 + length (label_octets above) = omega (arith, ap length split, length-append (label_octets above) (label_octets (l ∷ ls))) in
    let small : all ≤ 254 = few_octets asked is in
    let whole = subst (λ (o : List ℕ). Stands message 12 o first) (ap (λ (o : List ℕ). o ++ 0 ∷ []) split ∙ append_assoc (label_octets above) (label_octets (l ∷ ls)) (0 ∷ [])) there in
    let both = stands_split message 12 (label_octets above) (name_octets (domain_name true (l ∷ ls))) first whole in
    let points = subst (λ (o : List ℕ). Stands message at o end) (end_some all n some) stands in
    let named = subst (λ (p : ℕ). Stands message p (name_octets (domain_name true (l ∷ ls))) first) (sym at_target) both.1 in
    at_pointer (omega (arith, stands_within message at (pointer_octets target) end (omega arith) points, points.behind))
    (omega (arith, there.behind, length-octets asked, before, some, at_target, ap length split, length-append (label_octets above) (label_octets (l ∷ ls)))) (omega (arith, small)) points
    (spelled_before message target (length message) target (l ∷ ls) first place
    (spelled_octets message target target (l ∷ ls) first (halves above (l ∷ ls) (subst (λ (ls : List (List ℕ)). All IsLabel ls) ends is.each)).1 named) before)

-- Such a name stands behind the one that is asked for.
pub near_stands : (asked name : DomainName) (n : ℕ) → IsNear asked name n → IsDomainName asked → IsDomainName name → name.fqdn ≡ true → (message : List ℕ) (first place end : ℕ) → Stands message 12 (name_octets asked) first → first ≤ place → Stands message place (near_octets asked name n) end → NameAt message place name end
near_stands asked name n near is own full message first place end there before stands =
    let o = near.own in
    let octets = subst (λ (t : List ℕ). Stands message place t end) (near_is asked name n o) stands in
    record {
      full = full;
      spelled = subst (λ (ls : List (List ℕ)). Spelled message place (length message) place ls end) (sym o.ends)
          (spelled_front message place place o.before o.shared (end_octets (octets_of asked) (length (label_octets o.shared))) end
          (halves o.before o.shared (subst (λ (ls : List (List ℕ)). All IsLabel ls) o.ends own.each)).0 octets
          (λ at from tail. tail_spells message asked o.above o.shared first place is o.other_ends there before at end from tail));
      size = own.short;
    }
