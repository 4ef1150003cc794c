pub use Rattle.drd_words.specs.Data
pub use Rattle.drd_words.specs.Escapes
pub use Rattle.drd_words.specs.Print
pub use Rattle.drd_words.specs.Refusals
pub use Rattle.drd_words.specs.RefusalsLaws
pub use Rattle.drd_words.specs.Text
pub use Rattle.drd_words.specs.Word
pub use Rattle.drd_words.specs.Words
