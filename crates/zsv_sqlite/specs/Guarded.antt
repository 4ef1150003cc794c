-- A stored zone with its guard: RFC 2136, section 3.3.
use Rattle.std.specs.Prelude.{◌==◌, Bool, not, List, [], ◌∷◌, Option, Some, None, Result, Ok, Err, if◌then◌else◌}
use Rattle.std.specs.Borrow.{Fml, Lends, MutBor, RattleType}
use Rattle.zst_draft.specs.contracts.InMemoryZoneHandler as in_memory
use Rattle.zst_draft.specs.declared.InMemoryZoneHandler.{InMemoryZoneHandler}
use Rattle.zst_map.specs.dnw_codes.declared.dns_class.DNSClass.{DNSClass}
use Rattle.zst_map.specs.dnw_codes.declared.dns_class.DNSClass.TheVariants as classes
use Rattle.zst_map.specs.dnw_name.DomainName.{DomainName, is_at_or_below}
use Rattle.zst_map.specs.zst_handler.Zones.{Zone}
use Rattle.zst_map.specs.zst_key.Ancestors.{or_else}
use Rattle.zst_map.specs.zst_record.declared.records.Record.{Record}
use Rattle.zst_request.specs.Prerequisites.{first_refused, has_data, is_valued, prerequisites_refused, prescan_refused, refused_if}
use Rattle.zst_request.specs.Updating.{Asked, ChangesBy, permission_refused, soa_refused}
use Rattle.zst_request.specs.zst_codes.declared.response_code.ResponseCode.{ResponseCode}
use Rattle.zst_request.specs.zst_codes.declared.response_code.ResponseCode.TheVariants as codes
use Rattle.zsv_sqlite.specs.contracts.handler.SqliteZoneHandler.{the_row}
use Rattle.zsv_sqlite.specs.declared.handler.SqliteZoneHandler.{SqliteZoneHandler}

-- The zone that is kept, with the guard's policy and whether messages may change it.
abbrev pub guarded_zone : {K : Type 0} → SqliteZoneHandler K → Zone
guarded_zone handler = record handler.in_memory.zone {
  guard = Some (record { axfr_policy = handler.axfr_policy; allow_update = handler.allow_update });
}

-- What a test returns: the code by which it refuses, if it does.
abbrev pub unless_refused : Option ResponseCode → Result (Unit {0}) ResponseCode
unless_refused None = Ok tt
unless_refused (Some code) = Err code

-- Why a request may not change a zone.
abbrev pub forbidden : Zone → Asked → Option ResponseCode
forbidden zone asked = permission_refused zone.guard asked.signed asked.verdict

-- Why an update that is permitted is refused before its records are applied: by its prerequisites,
-- or by its form.
abbrev pub refused_before : Zone → List Record → List Record → Option ResponseCode
refused_before zone prerequisites changes =
    or_else (prerequisites_refused zone prerequisites)
    (first_refused (prescan_refused zone.origin) changes)

-- Why a prerequisite is refused by its form, whatever the zone has (RFC 2136, section 3.2).
abbrev pub form_by_class : Record → DNSClass → Option ResponseCode
form_by_class r classes.IN = None
form_by_class r classes.ANY = refused_if (has_data r) codes.FormErr
form_by_class r classes.NONE = refused_if (has_data r) codes.FormErr
form_by_class r other = Some codes.FormErr

abbrev pub form_refused : DomainName → Record → Option ResponseCode
form_refused origin r =
    or_else (refused_if (not (r.ttl == 0)) codes.FormErr)
    (or_else (refused_if (not (is_at_or_below r.name origin)) codes.NotZone)
    (form_by_class r r.dns_class))

-- The code of the first prerequisite that is refused by its form, unless one before it asks what
-- the zone has.
abbrev pub refused_unasked : DomainName → List Record → Option ResponseCode
refused_unasked origin [] = None
refused_unasked origin (r ∷ rs) =
    or_else (form_refused origin r) (if is_valued r then refused_unasked origin rs else None)

-- Records are applied, all or none. Where the serial number is to be raised, those that change
-- something need an SOA at the apex.
abbrev pub AppliesAll : Bool → Zone → List Record → Result Bool ResponseCode → Zone → Type 0
AppliesAll increment old rs answer new =
    ChangesBy (if increment then soa_refused old rs else None) increment old rs answer new

-- The handler ends with the zone that its borrower leaves.
abbrev pub LendsZone : (R : RattleType) → MutBor (SqliteZoneHandler R.Denot)
    → MutBor (InMemoryZoneHandler R.Denot) → Fml
LendsZone R handler zone =
    Lends (the_row R) (in_memory.the_row R) handler zone
    (λ left. record handler.now { in_memory = left })
