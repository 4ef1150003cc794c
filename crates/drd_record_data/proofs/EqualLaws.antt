-- Data that are read where the same octets stand are equal.
use Rattle.std.proofs.Common.{◌≡◌, ℕ, ◌+◌, ◌==◌, Bool, true, false, List, [], ◌∷◌, refl, sym, ap, subst, ◌∙◌, true≢false}
use Rattle.std.specs.Prelude.{Option, Some, None, cond}
use Rattle.std.specs.Option.{option_cmp}
use Rattle.std.specs.Ordering.{is_eq, nat_cmp, ordering_then}
use Rattle.std.specs.declared.cmp.Ordering.{Ordering}
use Rattle.std.specs.declared.cmp.Ordering.TheVariants.{Equal, Greater, Less}
use Rattle.drd_rdata.specs.dnw_codes.RecordType.{same_record_type}
use Rattle.drd_rdata.specs.dnw_codes.declared.record_type.RecordType.{RecordType}
use Rattle.drd_rdata.specs.dnw_codes.declared.record_type.RecordType.TheVariants as kind
use Rattle.drd_rdata.specs.dnw_name.DomainName.{DomainName}
use Rattle.drd_rdata.specs.dnw_wire.BitMaps.{Rises}
use Rattle.drd_rdata.specs.dnw_wire.BitMapLaws.{read_once, tight_reads}
use Rattle.drd_rdata.specs.dnw_wire.MapOrder.{tight_maps, types_cmp}
use Rattle.drd_rdata.specs.dnw_wire.MapOrderLaws.{tight_written}
use Rattle.drd_rdata.specs.drd_csync.Data.{csync_fields, csync_flags}
use Rattle.drd_rdata.specs.drd_csync.Order.{csync_cmp}
use Rattle.drd_rdata.specs.drd_csync.declared.csync.CSYNC.{CSYNC}
use Rattle.drd_rdata.specs.drd_opt.declared.opt.OPT.{OPT}
use Rattle.drd_rdata.specs.drd_fields.Fields.{Field, long, name, rest, short}
use Rattle.drd_rdata.specs.drd_fields.Equality.{AreFull, fields_eq}
use Rattle.drd_rdata.specs.drd_fields.Order.{field_cmp, fields_cmp}
use Rattle.drd_rdata.specs.drd_svcb.Fields.{svcb_code, svcb_fields}
use Rattle.drd_rdata.specs.drd_svcb.declared.https.HTTPS.{HTTPS}
use Rattle.drd_rdata.specs.drd_svcb.declared.svcb.SVCB.{SVCB}
use Rattle.drd_params.specs.Equality.{params_code}
use Rattle.drd_params.specs.Params.{AreParams, Param, params_octets}
use Rattle.drd_params.proofs.Canonical.{params-tell}
use Rattle.drd_rdata.proofs.drd_fields_lemmas.OrderLaws.{fields_ties}
use Rattle.drd_rdata.specs.Fields.{rdata_fields}
use Rattle.drd_rdata.specs.Order.{HasCanonical, compared_fields, csync_of, data_form, opt_cmp, opt_of, rdata_eq, svcb_cmp, svcb_of, type_number}
use Rattle.drd_rdata.specs.OrderLaws.{only_csync, only_https, only_opt, only_svcb, rdata_equiv}
use Rattle.drd_rdata.specs.Reading.{ReadsAs}
use Rattle.drd_rdata.specs.ReadingBack.{Alike}
use Rattle.drd_rdata.specs.Types.{type_of}
use Rattle.drd_rdata.specs.declared.rdata.RData.{RData}
use Rattle.drd_rdata.specs.declared.rdata.RData.TheVariants as rdata
use Rattle.drd_record_data.specs.Numbers.{NumbersFit, TypesRise}
use Rattle.drd_record_data.proofs.OnceLaws.{reads_alike, reads_once}

-- ---- data that are compared field by field
-- What data are compared by, but for services.
record SamePieces (a b : RData) : Type 0 where
  number : type_number a ≡ type_number b
  form : data_form a ≡ data_form b
  fields : compared_fields a ≡ compared_fields b
  csync : csync_of a ≡ csync_of b
  opt : opt_of a ≡ opt_of b
  svcb : svcb_of a ≡ svcb_of b

same_pieces : (a b : RData) → SamePieces a b → rdata_eq a b ≡ true
same_pieces a b same =
    ap (λ (n : ℕ). is_eq (ordering_then (nat_cmp (type_number a) n) (ordering_then (nat_cmp (data_form a) (data_form b)) (ordering_then (fields_cmp (compared_fields a) (compared_fields b)) (ordering_then (option_cmp csync_cmp (csync_of a) (csync_of b)) (ordering_then (option_cmp opt_cmp (opt_of a) (opt_of b)) (option_cmp svcb_cmp (svcb_of a) (svcb_of b)))))))) (sym same.number)
    ∙ ap (λ (n : ℕ). is_eq (ordering_then (nat_cmp (type_number a) (type_number a)) (ordering_then (nat_cmp (data_form a) n) (ordering_then (fields_cmp (compared_fields a) (compared_fields b)) (ordering_then (option_cmp csync_cmp (csync_of a) (csync_of b)) (ordering_then (option_cmp opt_cmp (opt_of a) (opt_of b)) (option_cmp svcb_cmp (svcb_of a) (svcb_of b)))))))) (sym same.form)
    ∙ ap (λ (fs : List Field). is_eq (ordering_then (nat_cmp (type_number a) (type_number a)) (ordering_then (nat_cmp (data_form a) (data_form a)) (ordering_then (fields_cmp (compared_fields a) fs) (ordering_then (option_cmp csync_cmp (csync_of a) (csync_of b)) (ordering_then (option_cmp opt_cmp (opt_of a) (opt_of b)) (option_cmp svcb_cmp (svcb_of a) (svcb_of b)))))))) (sym same.fields)
    ∙ ap (λ (o : Option CSYNC). is_eq (ordering_then (nat_cmp (type_number a) (type_number a)) (ordering_then (nat_cmp (data_form a) (data_form a)) (ordering_then (fields_cmp (compared_fields a) (compared_fields a)) (ordering_then (option_cmp csync_cmp (csync_of a) o) (ordering_then (option_cmp opt_cmp (opt_of a) (opt_of b)) (option_cmp svcb_cmp (svcb_of a) (svcb_of b)))))))) (sym same.csync)
    ∙ ap (λ (o : Option OPT). is_eq (ordering_then (nat_cmp (type_number a) (type_number a)) (ordering_then (nat_cmp (data_form a) (data_form a)) (ordering_then (fields_cmp (compared_fields a) (compared_fields a)) (ordering_then (option_cmp csync_cmp (csync_of a) (csync_of a)) (ordering_then (option_cmp opt_cmp (opt_of a) o) (option_cmp svcb_cmp (svcb_of a) (svcb_of b)))))))) (sym same.opt)
    ∙ ap (λ (o : Option SVCB). is_eq (ordering_then (nat_cmp (type_number a) (type_number a)) (ordering_then (nat_cmp (data_form a) (data_form a)) (ordering_then (fields_cmp (compared_fields a) (compared_fields a)) (ordering_then (option_cmp csync_cmp (csync_of a) (csync_of a)) (ordering_then (option_cmp opt_cmp (opt_of a) (opt_of a)) (option_cmp svcb_cmp (svcb_of a) o))))))) (sym same.svcb)
    ∙ rdata_equiv.refl a

-- Types whose data aren't compared field by field.
abbrev is_apart : RData → Bool
is_apart (rdata.CSYNC csync) = true
is_apart (rdata.HTTPS https) = true
is_apart (rdata.OPT opt) = true
is_apart (rdata.SVCB svcb) = true
is_apart other = false

record Listed (v : RData) : Type 0 where
  csync : csync_of v ≡ None
  opt : opt_of v ≡ None
  svcb : svcb_of v ≡ None
  fields : compared_fields v ≡ rdata_fields v

listed : (v : RData) → is_apart v ≡ false → Listed v
listed (rdata.CSYNC x) e = absurd (true≢false e)
listed (rdata.HTTPS x) e = absurd (true≢false e)
listed (rdata.OPT x) e = absurd (true≢false e)
listed (rdata.SVCB x) e = absurd (true≢false e)
listed other e = record { csync = refl; opt = refl; svcb = refl; fields = refl }

-- ---- sets of types
types_once : (a b : List ℕ) → Rises 0 a 65536 → Rises 0 b 65536 → tight_maps a ≡ tight_maps b → a ≡ b
types_once a b rises also same =
    read_once 0 0 (tight_maps a) (tight_maps b) a b (tight_reads 0 (tight_maps a) a (tight_written a rises).maps)
    (tight_reads 0 (tight_maps b) b (tight_written b also).maps) same

sets_equal : (a b : CSYNC) → Rises 0 a.type_bit_maps 65536 → Rises 0 b.type_bit_maps 65536
    → csync_fields a (tight_maps a.type_bit_maps) ≡ csync_fields b (tight_maps b.type_bit_maps)
    → rdata_eq (rdata.CSYNC a) (rdata.CSYNC b) ≡ true
sets_equal a b rises also same =
    let serial : a.soa_serial ≡ b.soa_serial = cc same in
    let flags : csync_flags a ≡ csync_flags b = cc same in
    let maps : tight_maps a.type_bit_maps ≡ tight_maps b.type_bit_maps = cc same in
    let types = types_once a.type_bit_maps b.type_bit_maps rises also maps in
    ap (λ (n : ℕ). by_parts n (csync_flags b) b.type_bit_maps) (sym serial)
    ∙ ap (λ (n : ℕ). by_parts a.soa_serial n b.type_bit_maps) (sym flags)
    ∙ ap (by_parts a.soa_serial (csync_flags a)) (sym types)
    ∙ rdata_equiv.refl (rdata.CSYNC a)
  where
    by_parts : ℕ → ℕ → List ℕ → Bool
    by_parts serial flags types =
        is_eq (ordering_then (ordering_then (nat_cmp a.soa_serial serial) (ordering_then (nat_cmp (csync_flags a) flags) (types_cmp a.type_bit_maps types)))
        (ordering_then (option_cmp opt_cmp None None) (option_cmp svcb_cmp None None)))

-- ---- services
to_equal : (o : Ordering) → is_eq o ≡ true → o ≡ Equal
to_equal Less e = absurd (cc e)
to_equal Equal e = refl
to_equal Greater e = absurd (cc e)

params_same : (a b : List Param) → AreParams a → AreParams b → params_octets a ≡ params_octets b
    → fields_cmp (params_code a) (params_code b) ≡ Equal
params_same a b is are same = to_equal (fields_cmp (params_code a) (params_code b)) (sym (fields_ties (params_code a) (params_code b)) ∙ by (fields_eq (params_code a) (params_code b)) refl)
  where
    by : (c : Bool) → fields_eq (params_code a) (params_code b) ≡ c → c ≡ true
    by true e = refl
    by false e = absurd ((params-tell false a b (sym e) is are).other refl same)

services_equal : (a b : SVCB) → AreParams a.svc_params.items → AreParams b.svc_params.items → svcb_fields a ≡ svcb_fields b → is_eq (svcb_cmp a b) ≡ true
services_equal a b is are same =
    let priority : a.svc_priority ≡ b.svc_priority = cc same in
    let target : a.target_name ≡ b.target_name = cc same in
    let octets : params_octets a.svc_params.items ≡ params_octets b.svc_params.items = cc same in
    ap (λ (n : ℕ). by_parts n b.target_name (fields_cmp (params_code a.svc_params.items) (params_code b.svc_params.items))) (sym priority)
    ∙ ap (λ (n : DomainName). by_parts a.svc_priority n (fields_cmp (params_code a.svc_params.items) (params_code b.svc_params.items))) (sym target)
    ∙ ap (by_parts a.svc_priority a.target_name) (params_same a.svc_params.items b.svc_params.items is are octets)
    ∙ sym (ap (by_parts a.svc_priority a.target_name) (params_same a.svc_params.items a.svc_params.items is is refl))
    ∙ rdata_equiv.refl (rdata.SVCB a)
  where
    by_parts : ℕ → DomainName → Ordering → Bool
    by_parts priority target params =
        is_eq (ordering_then (field_cmp (short a.svc_priority) (short priority)) (ordering_then (field_cmp (name a.target_name) (name target)) params))

-- ---- all types
apart_too : (a b : RData) → type_number a ≡ type_number b → data_form a ≡ data_form b → is_apart a ≡ false → is_apart b ≡ false
apart_too a (rdata.CSYNC x) n f e = absurd (true≢false (sym (ap is_apart (only_csync a n f).1) ∙ e))
apart_too a (rdata.HTTPS x) n f e = absurd (true≢false (sym (ap is_apart (only_https a n f).1) ∙ e))
apart_too a (rdata.OPT x) n f e = absurd (true≢false (sym (ap is_apart (only_opt a n f).1) ∙ e))
apart_too a (rdata.SVCB x) n f e = absurd (true≢false (sym (ap is_apart (only_svcb a n f).1) ∙ e))
apart_too a other n f e = refl

listed_equal : (a b : RData) → Alike a b → rdata_fields a ≡ rdata_fields b → is_apart a ≡ false → rdata_eq a b ≡ true
listed_equal a b same fields plain =
    let x = listed a plain in
    let y = listed b (apart_too a b same.number same.own plain) in
    same_pieces a b (record {
      number = same.number;
      form = same.own;
      fields = x.fields ∙ fields ∙ sym y.fields;
      csync = x.csync ∙ sym y.csync;
      opt = x.opt ∙ sym y.opt;
      svcb = x.svcb ∙ sym y.svcb;
    })

equal_by : (a b : RData) → Alike a b → NumbersFit a → NumbersFit b → rdata_fields a ≡ rdata_fields b → same_record_type (type_of a) kind.OPT ≡ false → rdata_eq a b ≡ true
equal_by (rdata.CSYNC x) b same fits also fields plain =
    let y = only_csync b (sym same.number) (sym same.own) in
    subst (λ (v : RData). rdata_eq (rdata.CSYNC x) v ≡ true) (sym y.1)
    (sets_equal x y.0 fits.1 (subst TypesRise y.1 also.1) (fields ∙ ap rdata_fields y.1))
equal_by (rdata.HTTPS x) b same fits also fields plain =
    let y = only_https b (sym same.number) (sym same.own) in
    let there : HasCanonical (rdata.HTTPS y.0) same.octets = subst (λ (v : RData). HasCanonical v same.octets) y.1 same.second in
    subst (λ (v : RData). rdata_eq (rdata.HTTPS x) v ≡ true) (sym y.1)
    (services_equal x.0 y.0.0 same.first.1 there.1 (fields ∙ ap rdata_fields y.1))
equal_by (rdata.SVCB x) b same fits also fields plain =
    let y = only_svcb b (sym same.number) (sym same.own) in
    let there : HasCanonical (rdata.SVCB y.0) same.octets = subst (λ (v : RData). HasCanonical v same.octets) y.1 same.second in
    subst (λ (v : RData). rdata_eq (rdata.SVCB x) v ≡ true) (sym y.1)
    (services_equal x y.0 same.first.1 there.1 (fields ∙ ap rdata_fields y.1))
equal_by (rdata.OPT x) b same fits also fields plain = absurd (true≢false plain)
equal_by other b same fits also fields plain = listed_equal other b same fields refl

-- What is read of the same octets for one type is equal, where numbers fit their fields. Options are
-- no data of a zone.
pub reads_equal : (t : RecordType) (message : List ℕ) (place len : ℕ) (a b : RData) → NumbersFit a → NumbersFit b → ReadsAs t message place len a → ReadsAs t message place len b
    → same_record_type (type_of a) kind.OPT ≡ false → rdata_eq a b ≡ true
reads_equal t message place len a b fits also first second plain =
    equal_by a b (reads_alike t message place len a b first second) fits also
    (reads_once t message place len a b fits.0 also.0 first second) plain

-- ---- targets
-- The name of an alias, of a name server, of a mail server, of a service.
abbrev pub target : RData → Option DomainName
target (rdata.CNAME x) = Some x.0
target (rdata.ANAME x) = Some x.0
target (rdata.NS x) = Some x.0
target (rdata.MX x) = Some x.exchange
target (rdata.SRV x) = Some x.target
target other = None

-- By type, form and fields.
abbrev target_by : RecordType → List Field → Option DomainName
target_by kind.CNAME (name n ∷ []) = Some n
target_by kind.ANAME (name n ∷ []) = Some n
target_by kind.NS (name n ∷ []) = Some n
target_by kind.MX (short p ∷ name n ∷ []) = Some n
target_by kind.SRV (short p ∷ short w ∷ short q ∷ name n ∷ []) = Some n
target_by other fields = None

abbrev target_from : RecordType → ℕ → List Field → Option DomainName
target_from t form fields = cond (form == 1) (target_by t fields) None

target_is : (v : RData) → target v ≡ target_from (type_of v) (data_form v) (rdata_fields v)
target_is (rdata.CNAME x) = refl
target_is (rdata.ANAME x) = refl
target_is (rdata.NS x) = refl
target_is (rdata.MX x) = refl
target_is (rdata.SRV x) = refl
target_is other = refl

-- What is read of the same octets for one type has one target.
pub reads_target : (t : RecordType) (message : List ℕ) (place len : ℕ) (a b : RData) → NumbersFit a → NumbersFit b → ReadsAs t message place len a → ReadsAs t message place len b
    → type_of a ≡ type_of b → target a ≡ target b
reads_target t message place len a b fits also first second same =
    target_is a
    ∙ ap (λ (u : RecordType). target_from u (data_form a) (rdata_fields a)) same
    ∙ ap (λ (n : ℕ). target_from (type_of b) n (rdata_fields a)) (reads_alike t message place len a b first second).own
    ∙ ap (target_from (type_of b) (data_form b)) (reads_once t message place len a b fits.0 also.0 first second)
    ∙ sym (target_is b)
