pub use Rattle.zsv_update.specs.Keys
pub use Rattle.zsv_update.specs.Options
pub use Rattle.zsv_update.specs.Signing
pub use Rattle.zsv_update.specs.Updates
pub use Rattle.zsv_update.specs.declared
pub use Rattle.zsv_update.specs.zsv_chains
