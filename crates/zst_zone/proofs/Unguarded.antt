-- No message changes a zone without a guard, and its own policy alone says who may transfer it.
use Rattle.std.proofs.Common.{◌≡◌, ℕ, refl, ap, subst, sym}
use Rattle.std.specs.Prelude.{Bool, true, Option, None, Some, Result, Err, IsOkAnd, MatchOption}
use Rattle.zst_circle.specs.zst_handler.Zones.{Guard, Zone}
use Rattle.zst_request.specs.Handed.{TransfersView, transfer_records}
use Rattle.zst_request.specs.Transfers.{own_refused, transfer_of}
use Rattle.zst_request.specs.declared.transfer.ZoneTransfer.{ZoneTransfer}
use Rattle.zst_request.specs.zst_codes.declared.lookup_error.LookupError.{LookupError}
use Rattle.zst_request.specs.zst_codes.declared.lookup_error.LookupError.TheVariants as errors
use Rattle.zst_request.specs.Updating.{Asked, ChangesBy, UpdatesView, update_context, update_refused}
use Rattle.zst_request.specs.Views.{Stored, outer_policy}
use Rattle.zst_request.specs.zst_codes.declared.response_code.ResponseCode.{ResponseCode}
use Rattle.zst_request.specs.zst_codes.declared.response_code.ResponseCode.TheVariants.{NotImp}
use Rattle.zst_request.specs.zst_codes.declared.settings.AxfrPolicy.{AxfrPolicy}

pub unguarded_told : (zone : Zone) (asked : Asked) (code : ResponseCode) → zone.guard ≡ None → code ≡ NotImp → UpdatesView (Stored zone) asked (Err code) (Stored zone)
unguarded_told zone asked code none is =
    (zone, subst (λ (g : Option Guard). ChangesBy (update_refused (record zone { guard = g }) asked) true zone asked.updates (Err code) zone) (sym none) (ap Err is, refl), refl)

pub unguarded_context : (zone : Zone) (asked : Asked) (moment : ℕ) → zone.guard ≡ None → None ≡ update_context (Stored zone) asked moment
unguarded_context zone asked moment none =
    subst (λ (g : Option Guard). None ≡ update_context (Stored (record zone { guard = g })) asked moment) (sym none) refl

pub own_policy : (own result : AxfrPolicy) (guard : Option Guard) → guard ≡ None → result ≡ own → result ≡ outer_policy own guard
own_policy own result guard none is = subst (λ (g : Option Guard). result ≡ outer_policy own g) (sym none) is

pub unguarded_transfer : (zone : Zone) (asked : Asked) (dnssec_ok : Bool) (moment : ℕ) (answer : Result ZoneTransfer LookupError) → zone.guard ≡ None
    → MatchOption (own_refused zone.axfr_policy) (IsOkAnd answer (λ transfer. transfer_records transfer ≡ transfer_of zone dnssec_ok)) (λ code. answer ≡ Err (errors.ResponseCode code))
    → TransfersView (Stored zone) asked dnssec_ok moment (Some (answer, None))
unguarded_transfer zone asked dnssec_ok moment answer none is =
    subst (λ (g : Option Guard). TransfersView (Stored (record zone { guard = g })) asked dnssec_ok moment (Some (answer, None))) (sym none) (is, refl)
