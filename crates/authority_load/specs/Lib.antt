pub mod Joining
pub mod Loaded
pub mod ZoneText
pub use Rattle.zst_zone.specs.dnw_codes
pub mod zst_zone
