-- By which codes a transfer is refused (RFC 5936, section 5; RFC 8945, section 5.2).
use Rattle.std.proofs.Common.{◌≡◌, ◌⊎◌, inl, inr, Bool, true, false, not}
use Rattle.std.specs.Prelude.{Option, Some, None, cond}
use Rattle.zst_denial.specs.zst_key.Ancestors.{or_else}
use Rattle.zst_codes.specs.declared.response_code.ResponseCode.{ResponseCode}
use Rattle.zst_codes.specs.declared.response_code.ResponseCode.TheVariants as codes
use Rattle.zst_codes.specs.declared.settings.AxfrPolicy.{AxfrPolicy}
use Rattle.zst_codes.specs.declared.settings.AxfrPolicy.TheVariants as policies
use Rattle.zst_codes.specs.declared.settings.TsigVerdict.{TsigVerdict}
use Rattle.zst_denial.specs.zst_handler.Zones.{Guard, Zone}
use Rattle.zst_request.specs.Transfers.{guard_refused, own_refused, policy_refused, transfer_refused}
use Rattle.zst_request.specs.Updating.{Asked, SignedBy, is_good}

abbrev IsRefusal : Option ResponseCode → Type 0
IsRefusal refused = (code : ResponseCode) → refused ≡ Some code → (code ≡ codes.Refused) ⊎ (code ≡ codes.NotAuth)

by_refused : IsRefusal (Some codes.Refused)
by_refused code e = let g : code ≡ codes.Refused = cc in inl g

by_none : IsRefusal None
by_none code e = let h : ⊥ = cc in absurd h

by_test : (b : Bool) → IsRefusal (cond b (Some codes.NotAuth) None)
by_test true code e = let g : code ≡ codes.NotAuth = cc in inr g
by_test false code e = by_none code e

by_policy : (policy : AxfrPolicy) (signed : Option SignedBy) (verdict : TsigVerdict) → IsRefusal (policy_refused policy signed verdict)
by_policy policies.AllowAll signed verdict code e = by_none code e
by_policy policies.AllowSigned None verdict code e = by_refused code e
by_policy policies.AllowSigned (Some by) verdict code e = by_test (not (is_good verdict)) code e
by_policy policies.Deny signed verdict code e = by_refused code e

by_guard : (guard : Option Guard) (asked : Asked) → IsRefusal (guard_refused guard asked)
by_guard None asked code e = by_none code e
by_guard (Some guard) asked code e = by_policy guard.axfr_policy asked.signed asked.verdict code e

by_own : (policy : AxfrPolicy) → IsRefusal (own_refused policy)
by_own policies.AllowAll code e = by_none code e
by_own policies.AllowSigned code e = by_refused code e
by_own policies.Deny code e = by_refused code e

either : (first second : Option ResponseCode) → IsRefusal first → IsRefusal second → IsRefusal (or_else first second)
either None second f s code e = s code e
either (Some other) second f s code e = f code e

-- It is refused by Refused or NotAuth.
pub transfer_codes : (zone : Zone) (asked : Asked) (code : ResponseCode) → transfer_refused zone asked ≡ Some code → (code ≡ codes.Refused) ⊎ (code ≡ codes.NotAuth)
transfer_codes zone asked = either (guard_refused zone.guard asked) (own_refused zone.axfr_policy) (by_guard zone.guard asked) (by_own zone.axfr_policy)
