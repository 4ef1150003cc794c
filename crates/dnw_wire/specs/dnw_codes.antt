pub use Rattle.dnw_codes.specs.RecordType
pub use Rattle.dnw_codes.specs.declared
