use Rattle.std.proofs.Common.{◌≡◌, ◌+◌, ℕ, List, inl, inr, subst, arith}
use Rattle.drd_fields.specs.dnw_decoder.Octets.{Stands}
use Rattle.drd_opt.proofs.ReadingLaws.{no_entries}
use Rattle.drd_opt.proofs.read.read_entries.Goals as goal

pub returns-in-Err-entries_of-clause-none : goal.returns-in-Err-entries_of-clause-none
returns-in-Err-entries_of-clause-none c =
    let d = c.args.decoder.now in
    let octets = c.unverified-octets.result.now in
    let new = c.read_slice.new.self in
    let same : c.in-Ok.octets.now ≡ octets = cc in
    let end : new.index ≡ d.index + c.args.len = omega (arith, c.in-Ok.ensures.ok.there.behind, c.in-Ok.ensures.long, c.from.ensures) in
    let there : Stands d.octets d.index octets (d.index + c.args.len) =
    subst (λ (n : ℕ). Stands d.octets d.index octets n) end (subst (λ (o : List ℕ). Stands d.octets d.index o new.index) same c.in-Ok.ensures.ok.there) in
    elim (rw c.in-Err-entries_of.is at c.entries_of.ensures.refused) [
      | inl memory ↦ inl memory
      | inr refused ↦ inr (no_entries d.octets d.index octets (d.index + c.args.len) there refused.1)
    ]
