pub mod Between
pub mod Nsec
pub mod Nsec3
pub mod Rrsig
pub mod dnw_wire
