mod Commas
pub mod Entries
pub mod KeyTexts
mod Strings
pub mod Emitting
mod Filling
pub mod NoLists
mod Putting
pub use Rattle.dnw_encoder.proofs.dnw_decoder_lemmas
pub mod drd_words_lemmas
