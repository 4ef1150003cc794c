pub use Rattle.zst_edns.proofs.WritingLaws
