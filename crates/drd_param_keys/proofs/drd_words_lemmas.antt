pub use Rattle.drd_words.proofs.EachWord
pub use Rattle.drd_words.proofs.Escaped
pub use Rattle.drd_words.proofs.Numbers
