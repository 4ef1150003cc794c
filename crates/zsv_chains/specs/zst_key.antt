pub use Rattle.zst_key.specs.Ancestors
pub use Rattle.zst_key.specs.Sorted
pub use Rattle.zst_key.specs.dnw_name
