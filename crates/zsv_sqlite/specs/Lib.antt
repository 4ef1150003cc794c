pub mod Groups
pub mod Guarded
pub mod Laws
