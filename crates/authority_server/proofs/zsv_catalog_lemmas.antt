pub use Rattle.zsv_catalog.proofs.Certified
pub use Rattle.zsv_catalog.proofs.Denied
pub use Rattle.zsv_catalog.proofs.SentByZone
