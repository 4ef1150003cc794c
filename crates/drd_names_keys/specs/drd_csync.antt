pub use Rattle.drd_csync.specs.Data
pub use Rattle.drd_csync.specs.Equality
pub use Rattle.drd_csync.specs.Order
pub use Rattle.drd_csync.specs.OrderLaws
pub use Rattle.drd_csync.specs.Reading
pub use Rattle.drd_csync.specs.Texts
pub use Rattle.drd_csync.specs.Writing
pub use Rattle.drd_csync.specs.declared
