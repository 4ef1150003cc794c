pub use Rattle.dnw_encoder.proofs.Laws
pub use Rattle.dnw_encoder.proofs.NameLaws
pub use Rattle.dnw_encoder.proofs.PlaceLaws
pub use Rattle.dnw_encoder.proofs.PointerLaws
pub use Rattle.dnw_encoder.proofs.SuffixLaws
