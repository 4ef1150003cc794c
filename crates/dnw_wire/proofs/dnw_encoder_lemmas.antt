pub use Rattle.dnw_encoder.proofs.Laws
