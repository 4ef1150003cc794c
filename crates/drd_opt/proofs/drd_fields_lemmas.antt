pub use Rattle.drd_fields.proofs.BackLaws
pub use Rattle.drd_fields.proofs.EqualityLaws
pub use Rattle.drd_fields.proofs.OnceLaws
pub use Rattle.drd_fields.proofs.WritingLaws
pub use Rattle.drd_fields.proofs.OrderLaws
pub use Rattle.drd_fields.proofs.ReadableLaws
