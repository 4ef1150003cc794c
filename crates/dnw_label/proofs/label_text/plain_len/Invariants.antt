use Rattle.std.proofs.Common.{◌≢◌, ◌≤◌, ◌-◌, All, length, take}
use Rattle.dnw_label.proofs.label_text.plain_len.Given as goal

abbrev pub invariant-characters : goal.invariant-characters
invariant-characters l = (l.len ≤ length l.text) × All (λ c. (c ≢ 46) × (c ≢ 92)) (take l.len l.text)

abbrev pub decreases-characters : goal.decreases-characters
decreases-characters l = length l.text - l.len
