pub use Rattle.drd_fields.proofs.EqualityLaws
pub use Rattle.drd_fields.proofs.OrderLaws
pub use Rattle.drd_fields.proofs.WritingLaws
