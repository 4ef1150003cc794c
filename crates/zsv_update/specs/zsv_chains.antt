pub use Rattle.zsv_chains.specs.Chains
pub use Rattle.zsv_chains.specs.zst_key
pub use Rattle.zsv_chains.specs.zst_request
