pub mod Answering
pub mod Pointing
pub mod Shapes
pub mod Transferred
pub mod zst_request_lemmas
pub mod zsv_reply_lemmas
pub use Rattle.zst_request.proofs.LookupOnce
