pub use Rattle.zst_record.proofs.dnw_decoder_lemmas
pub use Rattle.zst_record.proofs.dnw_encoder_lemmas
pub use Rattle.zst_record.proofs.BackLaws
