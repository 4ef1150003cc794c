pub mod Blocklists
pub mod Calls
pub mod Refusals
pub mod Sources
pub mod Worlds
pub mod authority_server
