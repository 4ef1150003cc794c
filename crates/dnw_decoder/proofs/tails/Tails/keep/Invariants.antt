use Rattle.std.proofs.Common.{◌≡◌, ◌<◌, ◌≤◌, ℕ, length, true}
use Rattle.dnw_name.specs.DomainName.{domain_name}
use Rattle.dnw_decoder.specs.Chains.{AreChains}
use Rattle.dnw_decoder.specs.Spelling.{NameAt}
use Rattle.dnw_decoder.specs.Tails.{AreTails, kept_name, last}
use Rattle.dnw_decoder.proofs.tails.Tails.keep.Given as goal

abbrev pub invariant-segments : goal.invariant-segments
invariant-segments l =
    (l.place ≤ length l.octets) × (l.labels ≤ length l.name.labels)
    × ((end : ℕ) × NameAt l.octets l.place (domain_name true (last l.labels l.name.labels)) end)
    × (l.number < length l.self.names.items) × (kept_name l.self.names.items l.number ≡ l.name)
    × AreTails l.octets l.self × AreChains l.octets l.chains

abbrev pub decreases-segments : goal.decreases-segments
decreases-segments l = l.place
