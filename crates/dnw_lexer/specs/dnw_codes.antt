pub use Rattle.dnw_codes.specs.Ascii
pub use Rattle.dnw_codes.specs.DNSClass
pub use Rattle.dnw_codes.specs.Digits
pub use Rattle.dnw_codes.specs.ProtoError
pub use Rattle.dnw_codes.specs.RecordType
pub use Rattle.dnw_codes.specs.declared
