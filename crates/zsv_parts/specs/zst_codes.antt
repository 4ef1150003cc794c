pub use Rattle.zst_codes.specs.ResponseCode
pub use Rattle.zst_codes.specs.declared
