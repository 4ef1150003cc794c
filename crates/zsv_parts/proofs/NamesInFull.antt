-- Names that stand in full, label by label.
use Rattle.std.proofs.Common.{◌≡◌, true, ◌+◌, ◌<◌, ◌≤◌, ℕ, List, [], ◌∷◌, ◌++◌, length, get_or, take, drop, min, refl, sym, ap, subst, ◌∙◌, arith, append-nil, append_assoc, length-append}
use Rattle.std.specs.List.{All}
use Rattle.std.proofs.lemmas.Grind.{flat_map-append}
use Rattle.std.proofs.lemmas.List.{drop_more}
use Rattle.std.proofs.lemmas.List.Elements.{All-head, All-nil, All-push, All-tail}
use Rattle.dnw_encoder.specs.dnw_decoder.Octets.{Stands}
use Rattle.dnw_encoder.specs.dnw_name.DomainName.{DomainName, IsDomainName, domain_name, labels_len, name_octets}
use Rattle.dnw_encoder.specs.dnw_label.Label.{IsLabel}
use Rattle.dnw_encoder.specs.dnw_label.Labels.{label_octets}
use Rattle.dnw_encoder.proofs.NameLaws.{length-name_octets, length-octets}
use Rattle.dnw_encoder.proofs.dnw_decoder_lemmas.Standing.{label_stands, stands_head, stands_joined, stands_split, stands_within}

-- What is left of a name that stands in full, from a place on.
pub record Ahead (octets : List ℕ) (start at end : ℕ) : Type 0 where
  pub rest : List (List ℕ)
  pub each : All IsLabel rest
  pub there : Stands octets at (label_octets rest ++ 0 ∷ []) end
  pub short : end ≤ start + 255

-- The labels of a name were walked up to a place, which may lie behind the octets.
pub record Walked (octets : List ℕ) (start at : ℕ) : Type 0 where
  pub ahead : start ≤ at
  pub sound : at ≤ length octets → (labels : List (List ℕ)) × All IsLabel labels × Stands octets start (label_octets labels) at
  pub only : (name : DomainName) (end : ℕ) → IsDomainName name → Stands octets start (name_octets name) end → Ahead octets start at end

long : (labels : List (List ℕ)) → length (label_octets labels ++ 0 ∷ []) ≡ length (label_octets labels) + 1
long labels = length-append (label_octets labels) (0 ∷ [])

measured : (labels : List (List ℕ)) → length (label_octets labels) ≡ labels_len labels
measured labels = omega (arith, length-octets (domain_name true labels), length-name_octets (domain_name true labels))

pub walked_start : (octets : List ℕ) (start : ℕ) → Walked octets start start
walked_start octets start = record {
  ahead = omega arith;
  sound = λ _. ([], All-nil IsLabel, record { there = refl; behind = omega arith });
  only = λ name end is s. record {
    rest = name.labels;
    each = is.each;
    there = s;
    short = omega (arith, s.behind, long name.labels, measured name.labels, is.short);
  };
}

-- The first label of what is left is that which stands there.
ahead_label : (octets : List ℕ) (start at n end : ℕ) (rest : List (List ℕ)) → get_or octets at 0 ≡ n → 0 < n → All IsLabel rest → Stands octets at (label_octets rest ++ 0 ∷ []) end → end ≤ start + 255 → Ahead octets start (at + (1 + n)) end
ahead_label octets start at n end [] head some each s short = absurd (omega (arith, stands_head octets at 0 [] end s, head, some))
ahead_label octets start at n end (l ∷ ls) head some each s short =
    let whole = subst (λ (o : List ℕ). Stands octets at o end) (append_assoc (length l ∷ l) (label_octets ls) (0 ∷ [])) s in
    let both = stands_split octets at (length l ∷ l) (label_octets ls ++ 0 ∷ []) end whole in
    let same : length l ≡ n = sym (stands_head octets at (length l) _ end s) ∙ head in
    record {
      rest = ls;
      each = All-tail IsLabel l ls each;
      there = subst (λ (p : ℕ). Stands octets p (label_octets ls ++ 0 ∷ []) end) (omega (arith, same)) both.1;
      short = short;
    }

pub walked_label : (octets : List ℕ) (start at n : ℕ) → Walked octets start at → get_or octets at 0 ≡ n → at < length octets → 0 < n → n ≤ 63 → Walked octets start (at + (1 + n))
walked_label octets start at n w head inside some few = record {
  ahead = omega (arith, w.ahead);
  sound = λ within.
      let before = w.sound (omega (arith, inside)) in
      let label = take n (drop (at + 1) octets) in
      let one = label_stands octets at n head (omega (arith, within)) in
      let joined = stands_joined octets start (label_octets before.0) at (length label ∷ label) (at + (1 + n)) before.2 one.there in
      let spelled : label_octets before.0 ++ (length label ∷ label) ≡ label_octets (before.0 ++ label ∷ []) =
      ap (λ (o : List ℕ). label_octets before.0 ++ o) (sym (append-nil (length label ∷ label))) ∙ sym (flat_map-append (λ (l : List ℕ). length l ∷ l) before.0 (label ∷ [])) in (
        before.0 ++ label ∷ [],
        All-push IsLabel before.0 label before.1 (record { some = omega (arith, one.long, some); few = omega (arith, one.long, few) }),
        subst (λ (o : List ℕ). Stands octets start o (at + (1 + n))) spelled joined,
      );
  only = λ name end is s.
      let a = w.only name end is s in
      ahead_label octets start at n end a.rest head some a.each a.there a.short;
}

-- Where the end stands behind labels, a name stands in full.
pub walked_end : (octets : List ℕ) (start at : ℕ) → Walked octets start at → at < length octets → at < start + 255 → get_or octets at 0 ≡ 0 → (name : DomainName) × (name.fqdn ≡ true) × IsDomainName name × Stands octets start (name_octets name) (at + 1)
walked_end octets start at w inside short head =
    let before = w.sound (omega (arith, inside)) in
    let last : Stands octets at (0 ∷ []) (at + 1) = record { there = drop_more octets at 0 inside ∙ ap (λ (k : ℕ). k ∷ drop (at + 1) octets) head; behind = omega arith } in (
      domain_name true before.0,
      refl,
      record { each = before.1; short = omega (arith, before.2.behind, measured before.0, short) },
      stands_joined octets start (label_octets before.0) at (0 ∷ []) (at + 1) before.2 last,
    )

-- Neither an end nor a label is there.
no_label : (octets : List ℕ) (at n end : ℕ) (rest : List (List ℕ)) → get_or octets at 0 ≡ n → 63 < n → All IsLabel rest → Stands octets at (label_octets rest ++ 0 ∷ []) end → ⊥
no_label octets at n end [] head many each s = absurd (omega (arith, stands_head octets at 0 [] end s, head, many))
no_label octets at n end (l ∷ ls) head many each s =
    absurd (omega (arith, stands_head octets at (length l) _ end s, head, many, (All-head IsLabel l ls each).few))

pub none_walked : (octets : List ℕ) (start at n : ℕ) → Walked octets start at → get_or octets at 0 ≡ n → 63 < n → (name : DomainName) (end : ℕ) → IsDomainName name → Stands octets start (name_octets name) end → ⊥
none_walked octets start at n w head many name end is s =
    let a = w.only name end is s in
    no_label octets at n end a.rest head many a.each a.there

-- The octets end, or those of a name.
pub none_left : (octets : List ℕ) (start at : ℕ) → Walked octets start at → min (length octets) (start + 255) ≤ at → (name : DomainName) (end : ℕ) → IsDomainName name → Stands octets start (name_octets name) end → ⊥
none_left octets start at w behind name end is s =
    let a = w.only name end is s in
    omega (arith, behind, a.short, a.there.behind, long a.rest, stands_within octets at _ end (omega (arith, long a.rest)) a.there)
