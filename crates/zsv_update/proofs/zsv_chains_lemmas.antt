pub use Rattle.zsv_chains.proofs.Chained
pub use Rattle.zsv_chains.proofs.Registered
