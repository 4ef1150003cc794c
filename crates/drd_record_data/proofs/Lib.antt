pub mod EqualLaws
pub mod OnceLaws
pub mod OtherNumbers
