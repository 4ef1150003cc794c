pub use Rattle.drd_plain.specs.dnw_codes
pub use Rattle.drd_plain.specs.dnw_decoder
pub use Rattle.drd_plain.specs.dnw_encoder
pub mod drd_caa
pub use Rattle.drd_opt.specs.drd_fields
pub mod drd_opt
pub mod drd_plain
