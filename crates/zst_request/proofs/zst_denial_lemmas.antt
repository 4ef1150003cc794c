pub use Rattle.zst_denial.proofs.Secured
pub use Rattle.zst_denial.proofs.ShownSets
pub use Rattle.zst_denial.proofs.zst_key_lemmas
