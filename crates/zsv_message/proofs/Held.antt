-- What the data of options and of signatures are, where such records were read.
use Rattle.std.proofs.Common.{◌≡◌, ℕ, ◌+◌, true, false, List, length, Some, refl, sym, ap, subst, inl, inr, ◌∙◌, arith, true≢false}
use Rattle.zsv_sections.specs.zst_record.dnw_codes.declared.record_type.RecordType.{RecordType}
use Rattle.zsv_sections.specs.zst_record.dnw_codes.declared.record_type.RecordType.TheVariants as kind
use Rattle.zsv_sections.specs.zst_record.drd_rdata.Reading.{IsOther, RDataAt, ReadsAs}
use Rattle.zsv_sections.specs.zst_record.drd_rdata.Types.{is_update0, type_of}
use Rattle.zsv_sections.specs.zst_record.drd_rdata.declared.rdata.RData.{RData}
use Rattle.zsv_sections.specs.zst_record.drd_rdata.declared.rdata.RData.TheVariants as rdata
use Rattle.zsv_sections.specs.zst_record.declared.records.Record.{Record}
use Rattle.zsv_sections.specs.zst_record.Records.{RecordAt}
use Rattle.zsv_sections.specs.Sections.{is_opt, is_tsig}
use Rattle.zsv_sections.proofs.Typed.{opt_type, tsig_type}
use Rattle.zsv_message.specs.Gathering.{holds_options}
use Rattle.zsv_message.specs.Messages.{data_octets}

-- Data of type OPT are options.
opt_there : (message : List ℕ) (place end : ℕ) (v : RData) → type_of v ≡ kind.OPT → RDataAt message place v end → holds_options v ≡ true
opt_there message place end (rdata.OPT options) e at = refl
opt_there message place end (rdata.Unknown code null) e at = absurd (subst IsOther e at.1)
opt_there message place end (rdata.Update0 code) e at = absurd at.1
opt_there message place end other e at = absurd (cc e)

pub opt_holds : (message : List ℕ) (place end : ℕ) (r : Record) → RecordAt message place r end → is_opt r ≡ true → holds_options r.rdata ≡ true
opt_holds message place end r at is = by (subst (λ (t : RecordType). ReadsAs t message at.first at.len r.rdata) (opt_type message place end r at is) at.rdata) where
  by : ReadsAs kind.OPT message at.first at.len r.rdata → holds_options r.rdata ≡ true
  by (inl a) = ap holds_options a.1.1
  by (inr a) = opt_there message at.first (at.first + at.len) r.rdata a.1.0 a.1.1

-- Data of type TSIG, which there are, are octets, as many as are counted.
tsig_there : (message : List ℕ) (place end : ℕ) (v : RData) → type_of v ≡ kind.TSIG → RDataAt message place v end → (octets : List ℕ) × (data_octets v ≡ Some octets) × (end ≡ place + length octets)
tsig_there message place end (rdata.Unknown code null) e at = (null.anything.items, refl, at.0.2 ∙ at.0.1.behind)
tsig_there message place end (rdata.Update0 code) e at = absurd at.1
tsig_there message place end other e at = absurd (cc e)

pub tsig_holds : (message : List ℕ) (place end : ℕ) (r : Record) (at : RecordAt message place r end) → is_tsig r ≡ true → is_update0 r.rdata ≡ false → (octets : List ℕ) × (data_octets r.rdata ≡ Some octets) × (at.len ≡ length octets)
tsig_holds message place end r at is some = by (subst (λ (t : RecordType). ReadsAs t message at.first at.len r.rdata) (tsig_type message place end r at is) at.rdata) where
  by : ReadsAs kind.TSIG message at.first at.len r.rdata → (octets : List ℕ) × (data_octets r.rdata ≡ Some octets) × (at.len ≡ length octets)
  by (inl a) = absurd (true≢false (sym (ap is_update0 a.1) ∙ some))
  by (inr a) =
      let there = tsig_there message at.first (at.first + at.len) r.rdata a.1.0 a.1.1 in
      (there.0, there.1, omega (arith, there.2))
