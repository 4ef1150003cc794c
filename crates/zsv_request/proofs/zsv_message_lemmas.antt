pub use Rattle.zsv_message.proofs.zst_edns_lemmas
pub use Rattle.zsv_message.proofs.zst_record_lemmas
pub use Rattle.zsv_message.proofs.zsv_parts_lemmas
pub use Rattle.zsv_message.proofs.Fits
