pub mod Blanks
pub mod Cuts
pub mod Issuers
pub mod Parameters
