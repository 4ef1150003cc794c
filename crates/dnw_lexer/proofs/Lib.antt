pub mod LeftLaws
pub mod Characters
pub mod Lists
pub mod Numbers
pub mod TokenLemmas
pub mod Unique
pub mod Words
