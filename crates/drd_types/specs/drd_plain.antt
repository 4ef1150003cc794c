pub use Rattle.drd_plain.specs.Fields
pub use Rattle.drd_plain.specs.Print
pub use Rattle.drd_plain.specs.Reading
pub use Rattle.drd_plain.specs.Words
pub use Rattle.drd_plain.specs.declared
