pub use Rattle.zst_key.specs.Ancestors
pub use Rattle.zst_key.specs.NameKeyLaws
pub use Rattle.zst_key.specs.NameKeys
pub use Rattle.zst_key.specs.Sorted
pub use Rattle.zst_key.specs.declared
