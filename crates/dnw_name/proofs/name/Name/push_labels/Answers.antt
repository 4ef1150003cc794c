use Rattle.std.proofs.Common.{Err, ◌≡◌, ◌∙◌, ◌+◌, ◌≤◌, ap, length, inr, arith, List, ℕ}
use Rattle.std.proofs.lemmas.List.Sums.{sum_by-append}
use Rattle.dnw_net.specs.dnw_codes.declared.error.DecodeError.TheVariants.{DomainNameTooLong}
use Rattle.dnw_net.specs.dnw_label.Labels.{label_octets}
use Rattle.dnw_net.proofs.dnw_label_lemmas.LabelsLemmas.{length-label_octets}
use Rattle.dnw_name.specs.DomainName.{DomainName, labels_len}
use Rattle.dnw_name.proofs.Lengths.{IsDomainName-joined}
use Rattle.dnw_name.proofs.name.Name.push_labels.Goals as goal
use Rattle.dnw_name.proofs.name.Name.push_labels.Goals.{in-Ok, in-Err}

-- The octets that are counted are those of the labels.
counted : (own more : List ℕ) (name : DomainName) (labels inside : List (List ℕ)) → length own ≡ labels_len inside → inside ≡ name.labels → more ≡ label_octets labels → length own + length more + 1 ≡ labels_len name.labels + labels_len labels + 1
counted own more name labels inside measured same spelled =
    omega (arith, measured ∙ ap labels_len same, ap length spelled ∙ length-label_octets labels)

pub returns-then-longer-gt-MAX_LENGTH-clause-refused : goal.returns-then-longer-gt-MAX_LENGTH-clause-refused
returns-then-longer-gt-MAX_LENGTH-clause-refused c = λ name.
    absurd (omega (arith, (counted c.as_octets.result.now c.octets.result.now c.args.self.now c.args.labels.now c.self.inside.labels c.as_octets.ensures.len (ap (λ (n : DomainName). n.labels) c.self.view_is) c.octets.ensures.octets), c.if-longer-gt-MAX_LENGTH.true, name.short, sum_by-append (λ l. length l + 1) c.args.self.now.labels c.args.labels.now))

pub returns-then-longer-gt-MAX_LENGTH-clause-too_long : goal.returns-then-longer-gt-MAX_LENGTH-clause-too_long
returns-then-longer-gt-MAX_LENGTH-clause-too_long c = λ long. ap Err (ap DomainNameTooLong ((counted c.as_octets.result.now c.octets.result.now c.args.self.now c.args.labels.now c.self.inside.labels c.as_octets.ensures.len (ap (λ (n : DomainName). n.labels) c.self.view_is) c.octets.ensures.octets)))

pub returns-then-longer-gt-MAX_LENGTH-clause-cause : goal.returns-then-longer-gt-MAX_LENGTH-clause-cause
returns-then-longer-gt-MAX_LENGTH-clause-cause c = inr (ap DomainNameTooLong ((counted c.as_octets.result.now c.octets.result.now c.args.self.now c.args.labels.now c.self.inside.labels c.as_octets.ensures.len (ap (λ (n : DomainName). n.labels) c.self.view_is) c.octets.ensures.octets)), omega (arith, (counted c.as_octets.result.now c.octets.result.now c.args.self.now c.args.labels.now c.self.inside.labels c.as_octets.ensures.len (ap (λ (n : DomainName). n.labels) c.self.view_is) c.octets.ensures.octets), c.if-longer-gt-MAX_LENGTH.true))

pub invariant_of-self : goal.invariant_of-self
invariant_of-self c =
    let short : labels_len c.self.inside.labels + labels_len c.args.labels.now + 1 ≤ 255 =
    omega (arith, (counted c.as_octets.result.now c.octets.result.now c.args.self.now c.args.labels.now c.self.inside.labels c.as_octets.ensures.len (ap (λ (n : DomainName). n.labels) c.self.view_is) c.octets.ensures.octets), c.if-longer-gt-MAX_LENGTH.false, ap (λ (n : DomainName). labels_len n.labels) c.self.view_is) in
    elim c.match-append.branch [
      | in-Ok w ↦ rw (rw w.in-Ok.is at c.append.ensures.ok) (IsDomainName-joined c.self.inside.is_fqdn c.self.inside.labels c.args.labels.now c.octets.ensures.each short c.self.invariant)
      | in-Err w ↦ rw (rw w.in-Err.is at c.append.ensures.err) c.self.invariant
    ]

pub returns-clause-name : goal.returns-clause-name
returns-clause-name c = invariant_of-self c

pub returns-clause-too_long : goal.returns-clause-too_long
returns-clause-too_long c = λ long. absurd (omega (arith, (counted c.as_octets.result.now c.octets.result.now c.args.self.now c.args.labels.now c.self.inside.labels c.as_octets.ensures.len (ap (λ (n : DomainName). n.labels) c.self.view_is) c.octets.ensures.octets), long, c.if-longer-gt-MAX_LENGTH.false))
