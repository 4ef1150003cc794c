pub use Rattle.drd_words.proofs.TextLemmas
