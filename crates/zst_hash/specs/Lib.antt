pub mod Base32
pub mod Digests
pub mod Owners
pub use Rattle.dnw_name.specs.dnw_label
pub mod zst_key
