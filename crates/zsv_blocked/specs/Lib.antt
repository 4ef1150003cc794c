pub mod BlockedNames
pub mod Entries
pub mod ListText
pub mod Reading
