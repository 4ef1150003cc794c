use Rattle.std.proofs.Common.{ℕ, ◌≡◌, ◌≤◌, ◌<◌, ◌-◌, length, false}
use Rattle.dnw_name.specs.DomainName.{lowercase_name}
use Rattle.zst_key.specs.Ancestors.{up}
use Rattle.zsv_blocked.specs.BlockedNames.{is_listed, wildcard_over}
use Rattle.zsv_blocked.proofs.names.BlockedNames.finds_wildcard.Given as goal

abbrev pub invariant-levels : goal.invariant-levels
invariant-levels l = record {
  few : l.count ≤ length l.name.labels;
  above : l.above ≡ up (lowercase_name l.name) (length l.name.labels - l.count);
  passed : (k : ℕ) → l.count ≤ k → k < length l.name.labels → is_listed l.self (wildcard_over k l.name) ≡ false;
}

abbrev pub decreases-levels : goal.decreases-levels
decreases-levels l = l.count
