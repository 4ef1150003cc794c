pub mod Names
pub mod Pointing
