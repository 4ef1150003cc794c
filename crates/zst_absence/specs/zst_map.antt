pub use Rattle.zst_map.specs.Changes
pub use Rattle.zst_map.specs.Edits
pub use Rattle.zst_map.specs.Indexes
pub use Rattle.zst_map.specs.Preceding
pub use Rattle.zst_map.specs.Searches
pub use Rattle.zst_map.specs.ZoneMaps
pub use Rattle.zst_map.specs.declared
