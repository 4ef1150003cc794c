pub mod BackLaws
pub mod CodeLaws
pub mod FitLaws
pub mod OnceLaws
pub mod ReadableLaws
pub mod ReadingLaws
mod Forms
pub mod OrderLemmas
pub mod SubnetLemmas
pub mod WriteLemmas
pub use Rattle.drd_words.proofs.dnw_name_lemmas
pub mod drd_words_lemmas
pub mod drd_fields_lemmas
