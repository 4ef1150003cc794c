-- A guard changes no denial.
use Rattle.std.proofs.Common.{◌≡◌, Bool, List, subst}
use Rattle.std.specs.Prelude.{Option, Some, None}
use Rattle.zst_draft.specs.declared.InMemoryZoneHandler.{InMemoryZoneHandler}
use Rattle.zst_map.specs.zst_handler.Zones.{Guard, Zone}
use Rattle.zst_request.specs.zst_codes.declared.nx_proof.Nsec3QueryInfo.{Nsec3QueryInfo}
use Rattle.zst_map.specs.dnw_codes.declared.record_type.RecordType.{RecordType}
use Rattle.zst_map.specs.dnw_codes.declared.record_type.RecordType.TheVariants as kind
use Rattle.zst_map.specs.dnw_name.DomainName.{DomainName}
use Rattle.zst_map.specs.zst_key.Ancestors.{star}
use Rattle.zst_map.specs.zst_record.RecordSets.{RRset}
use Rattle.zst_request.specs.Denying.{Denies, ShowsNsec, ShowsNsec3, hashing_of}
use Rattle.zst_request.specs.Handling.{Flow}
use Rattle.zst_request.specs.Views.{Stored}
use Rattle.zst_request.specs.zst_denial.Denials.{IsNsecDenial, Precedes}
use Rattle.zst_request.specs.zst_denial.HashDenials.{IsClosestProof, IsNsec3Denial, next_closer}
use Rattle.zst_request.specs.zst_denial.Hashed.{Hashing, hashed_name}
use Rattle.zsv_sqlite.proofs.Guarding.{guard_of}
use Rattle.zsv_sqlite.specs.Guarded.{guarded_zone}
use Rattle.zsv_sqlite.specs.declared.handler.SqliteZoneHandler.{SqliteZoneHandler}

abbrev guarded : Option Guard → Zone → Zone
guarded guard zone = record zone { guard = guard }

module _ (guard : Option Guard) (zone : Zone) where
  precedes : (t : RecordType) (name : DomainName) (found : Option RRset) → Precedes zone t name found → Precedes (guarded guard zone) t name found
  precedes t name None is = is
  precedes t name (Some set) is = (is.0, record { there = is.1.there; last = is.1.last; around = is.1.around })

  by_name : (name : DomainName) (sets : List RRset) → IsNsecDenial zone name sets → IsNsecDenial (guarded guard zone) name sets
  by_name name sets is = record {
    for_name = is.for_name;
    own = precedes kind.NSEC name is.for_name is.own;
    for_star = is.for_star;
    wildcard = λ e encloses. precedes kind.NSEC (star e) is.for_star (is.wildcard e encloses);
    no_wildcard = is.no_wildcard;
    are = is.are;
  }

  closest : (by : Hashing) (name ancestor : DomainName) (sets : List RRset) → IsClosestProof by zone name ancestor sets → IsClosestProof by (guarded guard zone) name ancestor sets
  closest by name ancestor sets is = record {
    for_ancestor = is.for_ancestor;
    closest = precedes kind.NSEC3 (hashed_name by zone ancestor) is.for_ancestor is.closest;
    for_closer = is.for_closer;
    closer = precedes kind.NSEC3 (hashed_name by zone (next_closer name ancestor)) is.for_closer is.closer;
    for_star = is.for_star;
    wildcard = precedes kind.NSEC3 (hashed_name by zone (star ancestor)) is.for_star is.wildcard;
    are = is.are;
  }

  by_hash : (by : Hashing) (name : DomainName) (t : RecordType) (wild : Bool) (sets : List RRset) → IsNsec3Denial by zone name t wild sets → IsNsec3Denial by (guarded guard zone) name t wild sets
  by_hash by name t wild sets is = record {
    needless = is.needless;
    own = is.own;
    closest = λ e denied none encloses. closest by name e sets (is.closest e denied none encloses);
    no_ancestor = is.no_ancestor;
  }

module _ {K : Type 0} (handler : SqliteZoneHandler K) (kept : InMemoryZoneHandler K) (same : kept ≡ handler.in_memory) (dnssec_ok : Bool) (flow : Flow) where
  pub handler_nsec : (name : DomainName) → Denies (Stored kept.zone) (ShowsNsec name dnssec_ok) flow → Denies (Stored (guarded_zone handler)) (ShowsNsec name dnssec_ok) flow
  handler_nsec name is =
      let own = subst (λ (k : InMemoryZoneHandler K). Denies (Stored k.zone) (ShowsNsec name dnssec_ok) flow) same is in
      let shows = own.2 in
      (own.0, own.1, (shows.0, by_name (guard_of handler) handler.in_memory.zone name shows.0 shows.1, shows.2, shows.3, shows.4))

  pub handler_nsec3 : (info : Nsec3QueryInfo) → Denies (Stored kept.zone) (ShowsNsec3 info dnssec_ok) flow → Denies (Stored (guarded_zone handler)) (ShowsNsec3 info dnssec_ok) flow
  handler_nsec3 info is =
      let own = subst (λ (k : InMemoryZoneHandler K). Denies (Stored k.zone) (ShowsNsec3 info dnssec_ok) flow) same is in
      let shows = own.2 in
      (own.0, own.1, (shows.0, by_hash (guard_of handler) handler.in_memory.zone (hashing_of info) info.qname.now info.qtype info.has_wildcard_match shows.0 shows.1, shows.2, shows.3, shows.4))
