pub use Rattle.drd_csync.specs.dnw_decoder
pub use Rattle.drd_csync.specs.dnw_encoder
pub use Rattle.drd_csync.specs.dnw_wire
pub mod drd_csync
pub mod drd_keys
pub mod drd_names
