-- A type that is read is that of its number: records that are options or a TSIG have those very types.
use Rattle.std.proofs.Common.{◌≡◌, ℕ, Bool, true, false, List, [], ◌∷◌, Some, refl, sym, ap, ◌∙◌}
use Rattle.std.proofs.lemmas.Bool.{eqb-true}
use Rattle.std.specs.Prelude.{cond, ◌==◌, find, unwrap_or}
use Rattle.zst_record.specs.dnw_codes.RecordType.{named_record_types, record_type_number, record_type_of, same_record_type}
use Rattle.zst_record.specs.dnw_codes.declared.record_type.RecordType.{RecordType}
use Rattle.zst_record.specs.dnw_codes.declared.record_type.RecordType.TheVariants as kind
use Rattle.zst_record.specs.drd_rdata.Types.{type_of}
use Rattle.zst_record.specs.declared.records.Record.{Record}
use Rattle.zst_record.specs.Records.{RecordAt}
use Rattle.zsv_sections.specs.Sections.{is_opt, is_tsig}

-- The type of a number has that number.
number_back : (named : List RecordType) (n : ℕ) → record_type_number (unwrap_or (find (λ t. record_type_number t == n) named) (kind.Unknown n)) ≡ n
number_back [] n = refl
number_back (x ∷ xs) n = by (record_type_number x == n) refl (number_back xs n) where
  by : (b : Bool) → (record_type_number x == n) ≡ b → record_type_number (unwrap_or (find (λ t. record_type_number t == n) xs) (kind.Unknown n)) ≡ n → record_type_number (unwrap_or (cond b (Some x) (find (λ t. record_type_number t == n) xs)) (kind.Unknown n)) ≡ n
  by true e later = eqb-true (record_type_number x) n e
  by false e later = later

-- A type that is read, and is the same as another, is that of its number.
pub type_is : (t u : RecordType) (n : ℕ) → t ≡ record_type_of n → same_record_type t u ≡ true → t ≡ record_type_of (record_type_number u)
type_is t u n means same =
    let number : n ≡ record_type_number u = sym (ap record_type_number means ∙ number_back named_record_types n) ∙ eqb-true (record_type_number t) (record_type_number u) same in
    means ∙ ap record_type_of number

pub opt_type : (message : List ℕ) (place end : ℕ) (r : Record) → RecordAt message place r end → is_opt r ≡ true → type_of r.rdata ≡ kind.OPT
opt_type message place end r at is = type_is (type_of r.rdata) kind.OPT at.record_type.number at.record_type.means is

pub tsig_type : (message : List ℕ) (place end : ℕ) (r : Record) → RecordAt message place r end → is_tsig r ≡ true → type_of r.rdata ≡ kind.TSIG
tsig_type message place end r at is = type_is (type_of r.rdata) kind.TSIG at.record_type.number at.record_type.means is
