pub mod Requests
pub mod zsv_message
