pub use Rattle.drd_opt.proofs.drd_fields_lemmas.BackLaws
pub use Rattle.drd_opt.proofs.drd_fields_lemmas.EqualityLaws
pub use Rattle.drd_opt.proofs.drd_fields_lemmas.OnceLaws
pub use Rattle.drd_opt.proofs.drd_fields_lemmas.WritingLaws
pub use Rattle.drd_opt.proofs.drd_fields_lemmas.OrderLaws
pub use Rattle.drd_opt.proofs.drd_fields_lemmas.ReadableLaws
