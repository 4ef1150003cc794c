pub use Rattle.zst_pointing.specs.Names
pub use Rattle.zst_pointing.specs.Pointing
