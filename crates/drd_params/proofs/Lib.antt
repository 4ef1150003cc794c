pub mod WritingLaws
mod Addresses
mod Numbers
mod NumberOctets
pub mod Canonical
mod Emitting
pub mod FaultLaws
mod NoValues
mod ListLemmas
pub mod OrderLemmas
mod ReadParams
mod SameLemmas
pub use Rattle.drd_param_keys.proofs.drd_words_lemmas
pub use Rattle.drd_fields.proofs.dnw_decoder_lemmas
pub use Rattle.drd_fields.proofs.dnw_encoder_lemmas
pub mod drd_fields_lemmas
