-- Data without numbers of two or four octets.
use Rattle.std.proofs.Common.{◌≡◌, refl}
use Rattle.drd_rdata.specs.Fields.{rdata_fields}
use Rattle.drd_rdata.specs.drd_fields.Fields.{AllFit}
use Rattle.drd_rdata.specs.declared.rdata.RData.{RData}
use Rattle.drd_rdata.specs.declared.rdata.RData.TheVariants as rdata
use Rattle.drd_record_data.specs.Numbers.{TypesRise}

pub others_fit : (v : RData) → ((x : _) → v ≡ rdata.CERT x → ⊥) → ((x : _) → v ≡ rdata.CSYNC x → ⊥) → ((x : _) → v ≡ rdata.HTTPS x → ⊥) → ((x : _) → v ≡ rdata.MX x → ⊥)
    → ((x : _) → v ≡ rdata.NAPTR x → ⊥) → ((x : _) → v ≡ rdata.SOA x → ⊥) → ((x : _) → v ≡ rdata.SRV x → ⊥) → ((x : _) → v ≡ rdata.SVCB x → ⊥) → ((x : _) → v ≡ rdata.A x → ⊥) → ((x : _) → v ≡ rdata.AAAA x → ⊥) → AllFit (rdata_fields v) × TypesRise v
others_fit (rdata.CERT x) a b c d e f g h i j = absurd (a x refl)
others_fit (rdata.CSYNC x) a b c d e f g h i j = absurd (b x refl)
others_fit (rdata.HTTPS x) a b c d e f g h i j = absurd (c x refl)
others_fit (rdata.MX x) a b c d e f g h i j = absurd (d x refl)
others_fit (rdata.NAPTR x) a b c d e f g h i j = absurd (e x refl)
others_fit (rdata.SOA x) a b c d e f g h i j = absurd (f x refl)
others_fit (rdata.SRV x) a b c d e f g h i j = absurd (g x refl)
others_fit (rdata.SVCB x) a b c d e f g h i j = absurd (h x refl)
others_fit (rdata.A x) a b c d e f g h i j = absurd (i x refl)
others_fit (rdata.AAAA x) a b c d e f g h i j = absurd (j x refl)
others_fit (rdata.ANAME x) a b c d e f g h i j = ((tt, tt), tt)
others_fit (rdata.CAA x) a b c d e f g h i j = ((tt, (tt, (tt, tt))), tt)
others_fit (rdata.CNAME x) a b c d e f g h i j = ((tt, tt), tt)
others_fit (rdata.HINFO x) a b c d e f g h i j = ((tt, (tt, tt)), tt)
others_fit (rdata.NULL x) a b c d e f g h i j = ((tt, tt), tt)
others_fit (rdata.NS x) a b c d e f g h i j = ((tt, tt), tt)
others_fit (rdata.OPENPGPKEY x) a b c d e f g h i j = ((tt, tt), tt)
others_fit (rdata.OPT x) a b c d e f g h i j = ((tt, tt), tt)
others_fit (rdata.PTR x) a b c d e f g h i j = ((tt, tt), tt)
others_fit (rdata.SMIMEA x) a b c d e f g h i j = ((tt, (tt, (tt, (tt, tt)))), tt)
others_fit (rdata.SSHFP x) a b c d e f g h i j = ((tt, (tt, (tt, tt))), tt)
others_fit (rdata.TLSA x) a b c d e f g h i j = ((tt, (tt, (tt, (tt, tt)))), tt)
others_fit (rdata.TXT x) a b c d e f g h i j = ((tt, tt), tt)
others_fit (rdata.Unknown code x) a b c d e f g h i j = ((tt, tt), tt)
others_fit (rdata.Update0 code) a b c d e f g h i j = (tt, tt)
others_fit rdata.ZERO a b c d e f g h i j = (tt, tt)
