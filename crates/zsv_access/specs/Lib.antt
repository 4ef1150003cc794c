pub mod Access
pub mod Prefixes
