pub use Rattle.drd_rdata.proofs.ReadableLaws
