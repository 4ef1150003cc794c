use Rattle.std.proofs.Common.{◌≡◌, ◌+◌, ◌*◌, ◌/◌, ◌++◌, ℕ, List, take, sym, ap, length, ◌∙◌, append_assoc}
use Rattle.zst_hash.specs.Base32.{base32hex, eight_digits, group_number}
use Rattle.zst_hash.proofs.Digits.{first_group, last_group}
use Rattle.zst_hash.proofs.base32.base32hex.Goals as goal

pub groups-preserved : goal.groups-preserved
groups-preserved c =
    let rest = c.groups.rest.now in
    let cut = c.in-Some.ensures.cases in
    let digits = eight_digits (group_number c.in-Some.group.now) in
    let front : c.extend_from_slice.new.self.items ≡ c.groups.text.items ++ digits =
    c.in_ok-extend_from_slice.ensures.items ∙ ap (λ (o : List ℕ). c.groups.text.items ++ o) c.eight_digits.ensures in
    let whole : digits ++ base32hex c.in-Some.later.now ≡ base32hex rest =
    (λ i. eight_digits (group_number (cut.1 i)) ++ base32hex (cut.2 i)) ∙ sym (first_group rest cut.0) in
    ap (λ (o : List ℕ). o ++ base32hex c.in-Some.later.now) front
    ∙ append_assoc c.groups.text.items digits (base32hex c.in-Some.later.now)
    ∙ ap (λ (o : List ℕ). c.groups.text.items ++ o) whole
    ∙ c.groups.invariant

pub returns : goal.returns
returns c =
    let rest = c.groups.rest.now in
    let digits = take ((8 * length rest + 4) / 5) (eight_digits (group_number rest)) in
    let last : c.extend_from_slice-2.new.self.items ≡ c.groups.text.items ++ digits =
    c.in_ok-extend_from_slice-2.ensures.items ∙ ap (λ (o : List ℕ). c.groups.text.items ++ take ((8 * length rest + 4) / 5) o) c.eight_digits-digits.ensures in
    last
    ∙ ap (λ (o : List ℕ). c.groups.text.items ++ o) (sym (last_group rest c.in_default.ensures.cases))
    ∙ c.groups.invariant
