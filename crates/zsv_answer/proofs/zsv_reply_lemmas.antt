pub use Rattle.zsv_reply.proofs.Written
pub use Rattle.zsv_reply.proofs.HeaderLaws
pub use Rattle.zsv_reply.proofs.zsv_message_lemmas.Fits
