pub use Rattle.zst_denial.proofs.KeptCircles
pub use Rattle.zst_denial.proofs.KeptHashes
pub use Rattle.zst_denial.proofs.Secured
pub use Rattle.zst_denial.proofs.Signings
pub use Rattle.zst_denial.proofs.zst_key_lemmas
pub use Rattle.zst_denial.proofs.zst_record_lemmas
