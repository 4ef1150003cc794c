pub mod Ancestors
pub mod NameKeyLaws
pub mod NameKeys
pub mod dnw_name
pub mod Sorted
