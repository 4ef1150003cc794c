pub mod Chains
pub mod zst_key
pub mod zst_request
