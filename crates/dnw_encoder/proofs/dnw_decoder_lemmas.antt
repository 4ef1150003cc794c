pub use Rattle.dnw_decoder.proofs.SpellingLaws
pub use Rattle.dnw_decoder.proofs.Standing
