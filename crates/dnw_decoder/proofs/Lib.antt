pub mod ChainLaws
pub mod SpellingLaws
pub mod Standing
pub mod Progress
pub mod Reached
pub mod Refused
pub mod TailLaws
pub use Rattle.dnw_name.proofs.dnw_label_lemmas
