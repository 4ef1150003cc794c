pub use Rattle.zst_key.specs.Ancestors
