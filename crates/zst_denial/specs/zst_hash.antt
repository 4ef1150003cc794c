pub use Rattle.zst_hash.specs.Base32
pub use Rattle.zst_hash.specs.Digests
pub use Rattle.zst_hash.specs.Owners
