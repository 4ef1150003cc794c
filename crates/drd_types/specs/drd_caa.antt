pub use Rattle.drd_caa.specs.Fields
pub use Rattle.drd_caa.specs.Print
pub use Rattle.drd_caa.specs.Reading
pub use Rattle.drd_caa.specs.Words
pub use Rattle.drd_caa.specs.declared
