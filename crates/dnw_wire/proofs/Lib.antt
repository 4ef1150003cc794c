pub mod SetBits
pub mod Windows
pub mod SortedTypes
pub mod Walk
pub use Rattle.dnw_encoder.proofs.dnw_decoder_lemmas
pub mod dnw_encoder_lemmas
