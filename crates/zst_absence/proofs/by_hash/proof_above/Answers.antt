use Rattle.std.proofs.Common.{◌≡◌, ◌++◌}
use Rattle.std.specs.Prelude.{option_copied}
use Rattle.std.proofs.lemmas.Result.{IfOk-weaker}
use Rattle.zst_map.specs.zst_handler.Lookups.{listed}
use Rattle.zst_map.specs.zst_handler.Zones.{Zone}
use Rattle.zst_denial.specs.Denials.{each_owner_once}
use Rattle.zst_denial.specs.Shown.{ShowsDenial}
use Rattle.zst_absence.specs.Absences.{IsProofAbove, IsZoneOf, hashing_of}
use Rattle.zst_absence.proofs.Denied.{no_proof, proof_shown}
use Rattle.zst_absence.proofs.by_hash.proof_above.Goals as goal

pub returns-in_default : goal.returns-in_default
returns-in_default c =
    let query = c.args.query in
    no_proof (hashing_of query) c.args.sets.now c.args.origin.now query.name.now query.record_type query.has_wildcard_match c.args.options.dnssec_ok
    (rw c.in_default.is at c.in_ok-closer.ensures)

pub returns : goal.returns
returns c =
    let query = c.args.query in
    let sets = c.args.sets.now in
    let origin = c.args.origin.now in
    let b = c.args.options.dnssec_ok in
    let first = option_copied c.in_ok-for_encloser.for_encloser in
    let second = option_copied c.in_ok-for_closer.for_closer in
    let third = option_copied c.in_ok-for_star.for_star in
    IfOk-weaker c.show.result (ShowsDenial (λ ss. ss ≡ each_owner_once (listed first ++ listed second ++ listed third)) b)
    (λ found. (zone : Zone) → IsZoneOf sets origin zone → ShowsDenial (IsProofAbove (hashing_of query) zone query.name.now) b found)
    (λ found shows. proof_shown (hashing_of query) sets origin query.name.now query.record_type query.has_wildcard_match b c.in-Some.closer c.in_ok-encloser.encloser c.in_ok-star.star first second third found
    (rw c.in-Some.is at c.in_ok-closer.ensures) c.in_ok-encloser.ensures c.in_ok-star.ensures c.in_ok-for_encloser.ensures c.in_ok-for_closer.ensures c.in_ok-for_star.ensures shows) c.show.ensures
