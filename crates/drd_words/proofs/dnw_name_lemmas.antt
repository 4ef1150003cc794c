pub use Rattle.dnw_name.proofs.Fronts
pub use Rattle.dnw_name.proofs.TextLemmas
