pub use Rattle.zst_record.proofs.PutRecords
pub use Rattle.zst_record.proofs.dnw_name_lemmas
pub use Rattle.zst_record.proofs.drd_words_lemmas
pub use Rattle.zst_record.proofs.drd_rdata_lemmas
pub use Rattle.zst_record.proofs.OwnCodes
