use Rattle.std.proofs.Common.{◌≡◌, ◌∙◌, ◌+◌, ◌&&◌, ap, arith, sym}
use Rattle.std.specs.Prelude.{true, None, nat_le, option_copied}
use Rattle.std.proofs.lemmas.Grind.{common_steps}
use Rattle.std.proofs.lemmas.Result.{IfOk-weaker}
use Rattle.zst_map.specs.dnw_codes.declared.record_type.RecordType.TheVariants as kind
use Rattle.zst_map.specs.dnw_name.DomainName.{labels_len}
use Rattle.zst_map.specs.zst_handler.Zones.{Zone, rrset_at}
use Rattle.zst_denial.specs.HashDenials.{IsNsec3Denial}
use Rattle.zst_denial.specs.Shown.{ShowsDenial}
use Rattle.zst_denial.specs.zst_hash.Digests.{nsec3_digest}
use Rattle.zst_denial.specs.zst_hash.Owners.{hashed_owner}
use Rattle.zst_absence.specs.Absences.{IsProofAbove, IsZoneOf, hashing_of, is_wanted}
use Rattle.zst_absence.proofs.Denied.{above_shown}
use Rattle.zst_absence.proofs.by_hash.nsec3_denial.Goals as goal

pub returns-in-None-clause-shows : goal.returns-in-None-clause-shows
returns-in-None-clause-shows c =
    let query = c.args.query in
    let sets = c.args.sets.now in
    let origin = c.args.origin.now in
    let name = query.name.now in
    let b = c.args.options.dnssec_ok in
    let room : c.has_hashed_owners.result ≡ true = grind (arith, common_steps, c.if-not-has_hashed_owners.false) in
    let wanted : c.in_ok-is_wanted.field-0 ≡ true = grind (arith, common_steps, c.if-not-branch.false) in
    let fits : nat_le (labels_len origin.labels + 34) 255 ≡ true = sym c.has_hashed_owners.ensures ∙ room in
    let asked : is_wanted sets name query.record_type query.has_wildcard_match ≡ true = sym c.in_ok-is_wanted.ensures ∙ wanted in
    let denied : (nat_le (labels_len origin.labels + 34) 255 && is_wanted sets name query.record_type query.has_wildcard_match) ≡ true = (λ i. fits i && asked i) in
    let absent : rrset_at sets (hashed_owner (nsec3_digest query.salt.now query.iterations name) origin) kind.NSEC3 ≡ None = sym c.in_ok-set.ensures ∙ ap option_copied c.in-None.is in
    IfOk-weaker c.proof_above.result (λ found. (zone : Zone) → IsZoneOf sets origin zone → ShowsDenial (IsProofAbove (hashing_of query) zone name) b found)
    (λ found. (zone : Zone) → IsZoneOf sets origin zone → ShowsDenial (IsNsec3Denial (hashing_of query) zone name query.record_type query.has_wildcard_match) b found)
    (λ found shows. above_shown (hashing_of query) sets origin name query.record_type query.has_wildcard_match b found denied absent shows) c.proof_above.ensures
