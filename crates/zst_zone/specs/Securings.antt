-- What signing a zone in memory gives, and why it is refused.
use Rattle.std.specs.Prelude.{◌≡◌, ℕ, Bool, true, List, [], ◌∷◌}
use Rattle.zst_circle.specs.drd_denial.Rrsig.{Signing}
use Rattle.zst_circle.specs.dnw_codes.declared.record_type.RecordType.TheVariants as types
use Rattle.zst_circle.specs.zst_handler.Zones.{Zone, rrset_at}
use Rattle.zst_circle.specs.zst_record.RecordSets.{RRset}
use Rattle.zst_circle.specs.Secures.{FailsToSecure, Secures, has_room}
use Rattle.zst_zone.specs.Starts.{first_data, minimum_of}
use Rattle.zst_zone.specs.declared.handler.ZoneError.{ZoneError}
use Rattle.zst_zone.specs.declared.handler.ZoneError.TheVariants as errors

-- How long a denial may be kept (RFC 2308, section 4).
abbrev pub denial_ttl : Zone → ℕ
denial_ttl zone = minimum_of (first_data (rrset_at zone.sets zone.origin types.SOA))

module _ {K : Type 0} where
  -- A zone is secured by these keys; without keys nothing changes.
  abbrev pub SecuresBy : (K → RRset → ℕ → Signing → Type 0) → (K → RRset → ℕ → Bool) → List K → ℕ
      → Zone → Zone → Type 0
  SecuresBy gives fails [] now old new = new ≡ old
  SecuresBy gives fails (key ∷ keys) now old new =
      Secures gives fails (key ∷ keys) now old (denial_ttl old) new

  -- Why a zone isn't secured: a key fails, or hashed owners would be too long; or memory was
  -- refused, and these wouldn't.
  abbrev pub RefusesToSecure : (K → RRset → ℕ → Bool) → List K → ℕ → Zone → ZoneError → Type 0
  RefusesToSecure fails keys now zone errors.SignerFailed =
      FailsToSecure fails keys now zone.nx_proof_kind (denial_ttl zone) zone
  RefusesToSecure fails keys now zone errors.OutOfMemory =
      has_room zone.nx_proof_kind zone.origin ≡ true
  RefusesToSecure fails keys now zone other = ⊥
