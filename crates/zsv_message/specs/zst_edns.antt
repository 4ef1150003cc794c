pub use Rattle.zst_edns.specs.Edns
pub use Rattle.zst_edns.specs.Writing
pub use Rattle.zst_edns.specs.declared
pub use Rattle.zst_edns.specs.zst_codes
