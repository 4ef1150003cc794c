pub use Rattle.zsv_answer.proofs.zsv_reply_lemmas
