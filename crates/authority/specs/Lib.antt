pub mod Certificates
pub mod Programs
pub mod TwoRoads
pub mod authority_server
pub mod authority_transfer
