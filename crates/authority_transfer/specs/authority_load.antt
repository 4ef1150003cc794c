pub use Rattle.authority_load.specs.Loaded
pub use Rattle.authority_load.specs.ZoneText
pub use Rattle.authority_load.specs.declared
pub use Rattle.authority_load.specs.zst_zone
