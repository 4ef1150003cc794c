pub mod Edns
pub mod Flags
pub mod Lending
pub mod Writing
pub mod zst_codes
