-- Data of a record that reads back alone have octets.
use Rattle.std.proofs.Common.{◌≡◌, ℕ, false, inl, inr, List, refl, arith}
use Rattle.zsv_request.specs.zsv_message.zst_record.Records.{ReadsBackAlone}
use Rattle.zsv_request.specs.zsv_message.zst_record.declared.records.Record.{Record}
use Rattle.zsv_request.specs.zsv_message.zst_record.drd_rdata.Exceeding.{ExceedsRdlength}
use Rattle.zsv_request.specs.zsv_message.zst_record.drd_rdata.Reading.{RDataAt}
use Rattle.zsv_request.specs.zsv_message.zst_record.drd_rdata.Types.{is_update0}
use Rattle.zsv_request.specs.zsv_message.zst_record.drd_rdata.declared.rdata.RData.{RData}
use Rattle.zsv_request.specs.zsv_message.zst_record.drd_rdata.declared.rdata.RData.TheVariants as rdata

there_not_bare : (message : List ℕ) (place end : ℕ) (v : RData) → RDataAt message place v end → is_update0 v ≡ false
there_not_bare message place end (rdata.Update0 code) at = absurd at.1
there_not_bare message place end other at = refl

far_not_bare : (v : RData) → ExceedsRdlength v → is_update0 v ≡ false
far_not_bare (rdata.Update0 code) far = absurd (omega (arith, far))
far_not_bare other far = refl

pub not_bare : (r : Record) → ReadsBackAlone r → is_update0 r.rdata ≡ false
not_bare r (inl (own, readable)) = there_not_bare readable.message readable.place readable.end r.rdata readable.there
not_bare r (inr far) = far_not_bare r.rdata far
