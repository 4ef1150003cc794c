pub use Rattle.drd_denial.proofs.NsecLaws
