pub use Rattle.dnw_codes.specs.ProtoError
pub use Rattle.dnw_codes.specs.declared
