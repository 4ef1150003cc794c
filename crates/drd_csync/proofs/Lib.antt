pub mod Equality
pub mod Reading
pub mod Words
pub mod Writing
pub use Rattle.dnw_wire.proofs.dnw_decoder_lemmas
pub use Rattle.dnw_wire.proofs.dnw_encoder_lemmas
