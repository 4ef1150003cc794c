-- Types and classes that are those of their numbers are read as themselves.
use Rattle.std.proofs.Common.{◌≡◌, ◌^◌, ◌<◌, refl, sym, arith}
use Rattle.drd_rdata.specs.dnw_codes.DNSClass.{class_number, class_of}
use Rattle.drd_rdata.specs.dnw_codes.RecordType.{record_type_number, record_type_of}
use Rattle.drd_rdata.specs.dnw_codes.declared.dns_class.DNSClass.{DNSClass}
use Rattle.drd_rdata.specs.dnw_codes.declared.dns_class.DNSClass.TheVariants as class
use Rattle.drd_rdata.specs.dnw_codes.declared.record_type.RecordType.{RecordType}
use Rattle.drd_rdata.specs.dnw_codes.declared.record_type.RecordType.TheVariants as kind
use Rattle.zst_record.specs.Records.{IsOwnClass, IsOwnType}

pub type_read : (t : RecordType) → IsOwnType t → t ≡ record_type_of (record_type_number t)
type_read (kind.Unknown number) own = sym own.1
type_read named own = refl

pub type_small : (t : RecordType) → IsOwnType t → record_type_number t < 2 ^ 16
type_small (kind.Unknown number) own = own.0
type_small named own = omega arith

pub class_read : (c : DNSClass) → IsOwnClass c → c ≡ class_of (class_number c)
class_read (class.OPT payload) own = absurd own
class_read (class.Unknown number) own = sym own.1
class_read named own = refl

pub class_small : (c : DNSClass) → IsOwnClass c → class_number c < 2 ^ 16
class_small (class.OPT payload) own = absurd own
class_small (class.Unknown number) own = own.0
class_small named own = omega arith
