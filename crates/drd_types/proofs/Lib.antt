pub use Rattle.drd_plain.proofs.dnw_decoder_lemmas
pub use Rattle.drd_plain.proofs.dnw_encoder_lemmas
pub use Rattle.drd_opt.proofs.dnw_name_lemmas
pub use Rattle.drd_opt.proofs.drd_words_lemmas
pub mod drd_fields_lemmas
pub mod drd_opt_lemmas
