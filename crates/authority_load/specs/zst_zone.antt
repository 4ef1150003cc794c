pub use Rattle.zst_zone.specs.declared
pub use Rattle.zst_zone.specs.zst_codes
pub use Rattle.zst_zone.specs.zst_handler
pub use Rattle.zst_zone.specs.zst_key
pub use Rattle.zst_zone.specs.zst_request
