-- Owners that end the name that is asked for.
use Rattle.std.proofs.Common.{◌≡◌, ◌+◌, ◌-◌, ◌<◌, inr, ℕ, List, [], ◌∷◌, ◌++◌, length, refl, sym, ap, ◌∙◌, arith}
use Rattle.std.specs.Prelude.{MatchOption, Option, Some, None}
use Rattle.drd_fields.specs.dnw_label.Labels.{label_octets}
use Rattle.drd_fields.proofs.dnw_encoder_lemmas.PointerLaws.{pointer_bytes}
use Rattle.drd_fields.proofs.dnw_encoder_lemmas.SuffixLaws.{octets_once, octets_one}
use Rattle.zst_record.specs.dnw_decoder.Octets.{octets_16}
use Rattle.zst_record.specs.dnw_decoder.Spelling.{pointer_octets}
use Rattle.zst_record.specs.dnw_name.DomainName.{DomainName, IsDomainName}
use Rattle.zst_pointing.specs.Names.{IsNear, PointsOwner, near_octets, octets_of, pointed_octets}
use Rattle.zst_pointing.proofs.NearNames.{end_some, owner_size}
use Rattle.zst_pointing.proofs.OwnLabels.{own_once}

-- Labels whose octets are some are some, and the other way round.
pub labels_some : (labels : List (List ℕ)) → 0 < length (label_octets labels) → 0 < length labels
labels_some [] some = absurd (omega (arith, some))
labels_some (l ∷ ls) some = omega arith

octets_some : (labels : List (List ℕ)) → 0 < length labels → 0 < length (label_octets labels)
octets_some [] some = absurd (omega (arith, some))
octets_some (l ∷ ls) some = omega (arith, octets_one l ls)

pub no_owner : (asked owner : DomainName) → length (label_octets owner.labels) ≡ 0 → PointsOwner asked owner → ⊥
no_owner asked owner none points = absurd (omega (arith, none, octets_some owner.labels points.some))

-- As many octets as there are begin where they do.
at_start : (all own : ℕ) → own ≡ all → 12 ≡ 12 + (all - (own - 0))
at_start all own same = omega (arith, same)

-- The whole name that is asked for.
pub owner_all : (asked owner : DomainName) → IsDomainName asked → IsDomainName owner → label_octets owner.labels ≡ label_octets asked.labels → 0 < length (label_octets owner.labels) → PointsOwner asked owner × (octets_16 49164 ≡ near_octets asked owner 0)
owner_all asked owner is named same some =
    let labels : owner.labels ≡ asked.labels = octets_once owner.labels asked.labels named.each is.each (ap (λ (o : List ℕ). o ++ 0 ∷ []) same) in (
      record {
        near = record {
          own = record {
            before = [];
            shared = owner.labels;
            above = [];
            ends = refl;
            other_ends = sym labels;
            long = refl;
            fewest = λ b s a ends other_ends. omega arith;
          };
          near = inr (omega (arith, ap length same));
        };
        some = labels_some owner.labels some;
      },
      pointer_bytes 12 (omega arith) ∙ ap pointer_octets (at_start (octets_of asked) (octets_of owner) (ap length same)) ∙ sym (end_some (octets_of asked) (octets_of owner - 0) (omega (arith, some))),
    )

-- One that has none of its own labels.
pub owner_spelled : (asked owner : DomainName) (own : List ℕ) (pointer : Option ℕ) → 0 < length (label_octets owner.labels) → length own ≡ 0 → IsNear asked owner (length own) → own ++ pointed_octets pointer ≡ near_octets asked owner (length own) → MatchOption pointer (PointsOwner asked owner → ⊥) (λ p. PointsOwner asked owner × (octets_16 p ≡ near_octets asked owner 0))
owner_spelled asked owner [] None some none near same =
    λ points. absurd (omega (arith, ap length same, owner_size asked owner points))
owner_spelled asked owner [] (Some p) some none near same = (record { near = near; some = labels_some owner.labels some }, same)
owner_spelled asked owner (o ∷ os) pointer some none near same = absurd (omega (arith, none))

pub owner_apart : (asked owner : DomainName) (n : ℕ) → IsNear asked owner n → (n ≡ 0 → ⊥) → PointsOwner asked owner → ⊥
owner_apart asked owner n near other points = other (own_once owner asked n 0 near.own points.near.own)
