pub mod Catalogs
pub use Rattle.zsv_update.specs.zsv_chains.Chains
pub use Rattle.zsv_update.specs.ReadingBack
pub mod Requests
pub mod Sinks
pub mod zsv_answer
pub mod zsv_update
