pub use Rattle.zst_denial.specs.zst_handler.Answers
pub use Rattle.zst_denial.specs.zst_handler.Chains
pub use Rattle.zst_denial.specs.zst_handler.Found
pub use Rattle.zst_denial.specs.zst_handler.Lookups
pub use Rattle.zst_denial.specs.zst_handler.Updates
pub use Rattle.zst_denial.specs.zst_handler.Zones
pub use Rattle.zst_denial.specs.zst_handler.declared
