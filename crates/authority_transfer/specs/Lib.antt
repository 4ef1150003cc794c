pub mod Alike
pub mod Transfers
pub mod TwoRoads
pub mod authority_load
