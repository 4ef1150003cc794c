pub use Rattle.drd_rdata.specs.Exceeding
pub use Rattle.drd_rdata.specs.Fields
pub use Rattle.drd_rdata.specs.Order
pub use Rattle.drd_rdata.specs.Reading
pub use Rattle.drd_rdata.specs.Texts
pub use Rattle.drd_rdata.specs.Types
pub use Rattle.drd_rdata.specs.Writing
pub use Rattle.drd_rdata.specs.declared
