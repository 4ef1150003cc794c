use Rattle.std.proofs.Common.{◌≡◌, ℕ, List, subst, sym}
use Rattle.std.proofs.lemmas.Result.{IfOk-weaker}
use Rattle.zst_circle.specs.dnw_name.DomainName.{DomainName}
use Rattle.zst_request.specs.zst_denial.HashDenials.{IsNsec3Denial}
use Rattle.zst_request.specs.zst_denial.Shown.{ShowsDenial}
use Rattle.zst_zone.proofs.handler.StoredZone.nsec3_denial.Goals as goal

pub returns : goal.returns
returns c =
    let info = c.args.info in
    let zone = c.args.self.now in
    let name : c.deref.result.now ≡ info.qname.now = c.deref.ensures in
    let salt : c.as_bytes.result.now ≡ info.salt.now = c.as_bytes.ensures.value in
    IfOk-weaker c.nsec3_denial.result _ _ (λ found shows.
    subst
    (λ (p : List ℕ × DomainName). ShowsDenial (IsNsec3Denial (record { salt = p.0; iterations = info.iterations }) zone p.1 info.qtype info.has_wildcard_match) c.args.options.dnssec_ok found)
    (λ i. (salt i, name i))
    (shows zone (record { has_sets = sym c.records.ensures; has_origin = sym c.origin.ensures.value }))) c.nsec3_denial.ensures.shows
