-- The data of each type by themselves, and what is so of all types alike.
use Rattle.std.specs.Prelude.{Result, Ok, Err, IfOk, IfErr}
use Rattle.std.proofs.Common.{◌≡◌, ℕ, ◌⊎◌, inl, inr, ◌&&◌, Bool, true, false, not, List, [], ◌∷◌, refl, sym, ap, subst, ◌∙◌}
use Rattle.drd_types.specs.dnw_codes.declared.error.DecodeError.{DecodeError}
use Rattle.drd_types.specs.dnw_codes.declared.record_type.RecordType.{RecordType}
use Rattle.drd_types.specs.dnw_codes.declared.record_type.RecordType.TheVariants as kind
use Rattle.drd_types.specs.dnw_decoder.Reading.{IsWantOfMemory}
use Rattle.drd_types.specs.drd_fields.Fields.{Kind, AreOrdered, FieldsAt, is_open, kinds_of}
use Rattle.drd_types.specs.drd_fields.Reading.{RefusesValue, no_misfits}
use Rattle.drd_types.specs.drd_plain.Fields.{null_kinds}
use Rattle.drd_rdata.specs.Fields.{kinds_for, rdata_fields}
use Rattle.drd_rdata.specs.Order.{data_form}
use Rattle.drd_rdata.specs.Reading.{RDataAt, HoldsAs, IsOther, IsValid, StopsAs}
use Rattle.drd_rdata.specs.Types.{Is, type_of}
use Rattle.drd_rdata.specs.declared.rdata.RData.{RData}
use Rattle.drd_rdata.specs.declared.rdata.RData.TheVariants as rdata

-- Data of one variant stand in a message.
abbrev pub StandsIn : {X : Type 0} → (X → RData) → List ℕ → ℕ → RData → ℕ → Type 0
StandsIn variant message place value end =
    Is variant (λ x. RDataAt message place (variant x) end) value

-- The data of a record of this type are of its variant.
abbrev pub Row : RecordType → List ℕ → ℕ → RData → ℕ → Type 0
Row kind.A = StandsIn rdata.A
Row kind.AAAA = StandsIn rdata.AAAA
Row kind.ANAME = StandsIn rdata.ANAME
Row kind.CAA = StandsIn rdata.CAA
Row kind.CERT = StandsIn rdata.CERT
Row kind.CNAME = StandsIn rdata.CNAME
Row kind.CSYNC = StandsIn rdata.CSYNC
Row kind.HINFO = StandsIn rdata.HINFO
Row kind.HTTPS = StandsIn rdata.HTTPS
Row kind.MX = StandsIn rdata.MX
Row kind.NAPTR = StandsIn rdata.NAPTR
Row kind.NULL = StandsIn rdata.NULL
Row kind.NS = StandsIn rdata.NS
Row kind.OPENPGPKEY = StandsIn rdata.OPENPGPKEY
Row kind.OPT = StandsIn rdata.OPT
Row kind.PTR = StandsIn rdata.PTR
Row kind.SMIMEA = StandsIn rdata.SMIMEA
Row kind.SOA = StandsIn rdata.SOA
Row kind.SRV = StandsIn rdata.SRV
Row kind.SSHFP = StandsIn rdata.SSHFP
Row kind.SVCB = StandsIn rdata.SVCB
Row kind.TLSA = StandsIn rdata.TLSA
Row kind.TXT = StandsIn rdata.TXT
Row kind.ZERO = λ message place value end. ⊥
Row kind.ANY = λ message place value end. ⊥
Row kind.AXFR = λ message place value end. ⊥
Row kind.IXFR = λ message place value end. ⊥
Row other = StandsIn (rdata.Unknown other)

pub from_row : (t : RecordType) (message : List ℕ) (place : ℕ) (value : RData) (end : ℕ)
    → Row t message place value end → HoldsAs t message place value end
from_row kind.ZERO message place value end row = absurd row
from_row kind.ANY message place value end row = absurd row
from_row kind.AXFR message place value end row = absurd row
from_row kind.IXFR message place value end row = absurd row
from_row other message place value end row = rw row.1 (refl, row.2)

-- What is so of a type whose data have no form of their own.
pub record IsKept (t : RecordType) : Type 1 where
  pub row : Row t ≡ StandsIn (rdata.Unknown t)
  pub kinds : kinds_for t ≡ null_kinds
  pub stops : StopsAs t
      ≡ (λ message place end e at. RefusesValue no_misfits message end null_kinds place e at)

pub kept : (t : RecordType) → IsOther t → IsKept t
kept kind.A is = absurd is
kept kind.AAAA is = absurd is
kept kind.ANAME is = absurd is
kept kind.CAA is = absurd is
kept kind.CERT is = absurd is
kept kind.CNAME is = absurd is
kept kind.CSYNC is = absurd is
kept kind.HINFO is = absurd is
kept kind.HTTPS is = absurd is
kept kind.MX is = absurd is
kept kind.NAPTR is = absurd is
kept kind.NULL is = absurd is
kept kind.NS is = absurd is
kept kind.OPENPGPKEY is = absurd is
kept kind.OPT is = absurd is
kept kind.PTR is = absurd is
kept kind.SMIMEA is = absurd is
kept kind.SOA is = absurd is
kept kind.SRV is = absurd is
kept kind.SSHFP is = absurd is
kept kind.SVCB is = absurd is
kept kind.TLSA is = absurd is
kept kind.TXT is = absurd is
kept kind.ZERO is = absurd is
kept kind.ANY is = absurd is
kept kind.AXFR is = absurd is
kept kind.IXFR is = absurd is
kept other is = record { row = refl; kinds = refl; stops = refl }

row_of : (message : List ℕ) (place : ℕ) (value : RData) (end : ℕ)
    → RDataAt message place value end → Row (type_of value) message place value end
row_of message place (rdata.A a) end there = (a, refl, there)
row_of message place (rdata.AAAA aaaa) end there = (aaaa, refl, there)
row_of message place (rdata.ANAME aname) end there = (aname, refl, there)
row_of message place (rdata.CAA caa) end there = (caa, refl, there)
row_of message place (rdata.CERT cert) end there = (cert, refl, there)
row_of message place (rdata.CNAME cname) end there = (cname, refl, there)
row_of message place (rdata.CSYNC csync) end there = (csync, refl, there)
row_of message place (rdata.HINFO hinfo) end there = (hinfo, refl, there)
row_of message place (rdata.HTTPS https) end there = (https, refl, there)
row_of message place (rdata.MX mx) end there = (mx, refl, there)
row_of message place (rdata.NAPTR naptr) end there = (naptr, refl, there)
row_of message place (rdata.NULL null) end there = (null, refl, there)
row_of message place (rdata.NS ns) end there = (ns, refl, there)
row_of message place (rdata.OPENPGPKEY openpgpkey) end there = (openpgpkey, refl, there)
row_of message place (rdata.OPT opt) end there = (opt, refl, there)
row_of message place (rdata.PTR ptr) end there = (ptr, refl, there)
row_of message place (rdata.SMIMEA smimea) end there = (smimea, refl, there)
row_of message place (rdata.SOA soa) end there = (soa, refl, there)
row_of message place (rdata.SRV srv) end there = (srv, refl, there)
row_of message place (rdata.SSHFP sshfp) end there = (sshfp, refl, there)
row_of message place (rdata.SVCB svcb) end there = (svcb, refl, there)
row_of message place (rdata.TLSA tlsa) end there = (tlsa, refl, there)
row_of message place (rdata.TXT txt) end there = (txt, refl, there)
row_of message place (rdata.Unknown code null) end there =
    rw (kept code there.1).row (null, refl, there)
row_of message place (rdata.Update0 code) end there = absurd there.1
row_of message place rdata.ZERO end there = absurd there.1

pub to_row : (t : RecordType) (message : List ℕ) (place : ℕ) (value : RData) (end : ℕ)
    → HoldsAs t message place value end → Row t message place value end
to_row t message place value end held =
    subst (λ (k : RecordType). Row k message place value end) held.0
    (row_of message place value end held.1)

-- What is read of one type is read of all.
pub ok_row : (t : RecordType) (message : List ℕ) (place end : ℕ) (r : Result RData DecodeError)
    → IfOk r (λ value. Row t message place value end)
    → IfOk r (λ value. HoldsAs t message place value end)
ok_row t message place end (Ok value) row = from_row t message place value end row
ok_row t message place end (Err e) row = row

pub none_row : (t : RecordType) (message : List ℕ) (place end : ℕ) (r : Result RData DecodeError)
    → IfErr r (λ e. IsWantOfMemory e
    ⊎ ((value : RData) → Row t message place value end → ⊥))
    → IfErr r (λ e. IsWantOfMemory e
    ⊎ ((value : RData) → HoldsAs t message place value end → ⊥))
none_row t message place end (Ok value) none = none
none_row t message place end (Err e) (inl memory) = inl memory
none_row t message place end (Err e) (inr none) =
    inr (λ value held. none value (to_row t message place value end held))

-- Data of one type have one form.
pub row_forms : (t : RecordType) (m n : List ℕ) (p q : ℕ) (v w : RData) (e f : ℕ)
    → Row t m p v e → Row t n q w f → data_form v ≡ data_form w
row_forms kind.ZERO m n p q v w e f a b = absurd a
row_forms kind.ANY m n p q v w e f a b = absurd a
row_forms kind.AXFR m n p q v w e f a b = absurd a
row_forms kind.IXFR m n p q v w e f a b = absurd a
row_forms other m n p q v w e f a b = ap data_form a.1 ∙ sym (ap data_form b.1)

-- ---- the kinds of the fields of a type
pub kinds_fit : (value : RData) → IsValid value
    → kinds_of (rdata_fields value) ≡ kinds_for (type_of value)
kinds_fit (rdata.Unknown code null) valid = sym (kept code valid).kinds
kinds_fit (rdata.Update0 code) valid = absurd valid
kinds_fit rdata.ZERO valid = absurd valid
kinds_fit other valid = refl

abbrev pub is_ordered : List Kind → Bool
is_ordered [] = true
is_ordered (k ∷ []) = true
is_ordered (k ∷ l ∷ ks) = not (is_open k) && is_ordered (l ∷ ks)

pub ordered_by : (ks : List Kind) → is_ordered ks ≡ true → AreOrdered ks
ordered_by [] e = tt
ordered_by (k ∷ []) e = (λ o. refl, tt)
ordered_by (k ∷ l ∷ ks) e = (
  λ o. absurd (closed (is_open k) (is_ordered (l ∷ ks)) o e),
  ordered_by (l ∷ ks) (later (is_open k) (is_ordered (l ∷ ks)) e),
)
  where
    closed : (b c : Bool) → b ≡ true → (not b && c) ≡ true → ⊥
    closed true c o e = cc e
    closed false c o e = cc o

    later : (b c : Bool) → (not b && c) ≡ true → c ≡ true
    later false c e = e
    later true c e = absurd (cc e)

pub in_order : (t : RecordType) → is_ordered (kinds_for t) ≡ true
in_order kind.A = refl
in_order other = refl

-- One that goes to the end of the data is the last.
pub kinds_ordered : (value : RData) → IsValid value → AreOrdered (kinds_of (rdata_fields value))
kinds_ordered value valid =
    subst AreOrdered (sym (kinds_fit value valid))
    (ordered_by (kinds_for (type_of value)) (in_order (type_of value)))

pub same_kinds : (v w : RData) → IsValid v → IsValid w → type_of v ≡ type_of w
    → kinds_of (rdata_fields v) ≡ kinds_of (rdata_fields w)
same_kinds v w valid too same =
    kinds_fit v valid ∙ ap kinds_for same ∙ sym (kinds_fit w too)

-- ---- data that are read field by field
abbrev pub is_plain : RecordType → Bool
is_plain kind.CSYNC = false
is_plain kind.OPT = false
is_plain other = true

pub plain_there : (message : List ℕ) (place : ℕ) (value : RData) (end : ℕ)
    → RDataAt message place value end → is_plain (type_of value) ≡ true
    → FieldsAt message place (rdata_fields value) end × IsValid value
plain_there message place (rdata.CSYNC csync) end there plain = absurd (cc plain)
plain_there message place (rdata.OPT opt) end there plain = absurd (cc plain)
plain_there message place other end there plain = there
