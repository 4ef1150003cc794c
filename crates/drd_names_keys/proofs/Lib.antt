pub use Rattle.drd_csync.proofs.dnw_decoder_lemmas
pub use Rattle.drd_csync.proofs.dnw_encoder_lemmas
