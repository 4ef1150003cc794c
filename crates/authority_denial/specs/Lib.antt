pub mod Denials
pub mod zsv_reply
