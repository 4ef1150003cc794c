-- A type that is none of those with a form of their own has none.
use Rattle.std.proofs.Common.{◌≡◌, refl}
use Rattle.drd_types.specs.dnw_codes.declared.record_type.RecordType.{RecordType}
use Rattle.drd_types.specs.dnw_codes.declared.record_type.RecordType.TheVariants as kind
use Rattle.drd_rdata.specs.Reading.{IsOther}

pub record NotOwn (t : RecordType) : Type 0 where
  pub a : t ≡ kind.A → ⊥
  pub aaaa : t ≡ kind.AAAA → ⊥
  pub aname : t ≡ kind.ANAME → ⊥
  pub any : t ≡ kind.ANY → ⊥
  pub axfr : t ≡ kind.AXFR → ⊥
  pub caa : t ≡ kind.CAA → ⊥
  pub cert : t ≡ kind.CERT → ⊥
  pub cname : t ≡ kind.CNAME → ⊥
  pub csync : t ≡ kind.CSYNC → ⊥
  pub hinfo : t ≡ kind.HINFO → ⊥
  pub https : t ≡ kind.HTTPS → ⊥
  pub ixfr : t ≡ kind.IXFR → ⊥
  pub mx : t ≡ kind.MX → ⊥
  pub naptr : t ≡ kind.NAPTR → ⊥
  pub ns : t ≡ kind.NS → ⊥
  pub null : t ≡ kind.NULL → ⊥
  pub openpgpkey : t ≡ kind.OPENPGPKEY → ⊥
  pub opt : t ≡ kind.OPT → ⊥
  pub ptr : t ≡ kind.PTR → ⊥
  pub smimea : t ≡ kind.SMIMEA → ⊥
  pub soa : t ≡ kind.SOA → ⊥
  pub srv : t ≡ kind.SRV → ⊥
  pub sshfp : t ≡ kind.SSHFP → ⊥
  pub svcb : t ≡ kind.SVCB → ⊥
  pub tlsa : t ≡ kind.TLSA → ⊥
  pub txt : t ≡ kind.TXT → ⊥
  pub zero : t ≡ kind.ZERO → ⊥

pub is_other : (t : RecordType) → NotOwn t → IsOther t
is_other kind.A none = none.a refl
is_other kind.AAAA none = none.aaaa refl
is_other kind.ANAME none = none.aname refl
is_other kind.CAA none = none.caa refl
is_other kind.CERT none = none.cert refl
is_other kind.CNAME none = none.cname refl
is_other kind.CSYNC none = none.csync refl
is_other kind.HINFO none = none.hinfo refl
is_other kind.HTTPS none = none.https refl
is_other kind.MX none = none.mx refl
is_other kind.NAPTR none = none.naptr refl
is_other kind.NULL none = none.null refl
is_other kind.NS none = none.ns refl
is_other kind.OPENPGPKEY none = none.openpgpkey refl
is_other kind.OPT none = none.opt refl
is_other kind.PTR none = none.ptr refl
is_other kind.SMIMEA none = none.smimea refl
is_other kind.SOA none = none.soa refl
is_other kind.SRV none = none.srv refl
is_other kind.SSHFP none = none.sshfp refl
is_other kind.SVCB none = none.svcb refl
is_other kind.TLSA none = none.tlsa refl
is_other kind.TXT none = none.txt refl
is_other kind.ZERO none = none.zero refl
is_other kind.ANY none = none.any refl
is_other kind.AXFR none = none.axfr refl
is_other kind.IXFR none = none.ixfr refl
is_other other none = tt
