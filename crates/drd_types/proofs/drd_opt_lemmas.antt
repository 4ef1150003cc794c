pub use Rattle.drd_opt.proofs.BackLaws
pub use Rattle.drd_opt.proofs.FitLaws
pub use Rattle.drd_opt.proofs.OnceLaws
pub use Rattle.drd_opt.proofs.ReadableLaws
