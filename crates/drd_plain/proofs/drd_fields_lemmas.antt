pub use Rattle.drd_fields.proofs.EqualityLaws
pub use Rattle.drd_fields.proofs.WritingLaws
pub use Rattle.drd_fields.proofs.OrderLaws
