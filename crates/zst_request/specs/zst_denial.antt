pub use Rattle.zst_denial.specs.Circles
pub use Rattle.zst_denial.specs.Denials
pub use Rattle.zst_denial.specs.HashDenials
pub use Rattle.zst_denial.specs.Hashed
pub use Rattle.zst_denial.specs.Octets
pub use Rattle.zst_denial.specs.Shown
