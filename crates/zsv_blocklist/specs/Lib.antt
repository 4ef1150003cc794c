pub mod Answers
pub mod Blocklists
pub mod Configs
pub mod Sinkholes
pub mod zsv_blocked
