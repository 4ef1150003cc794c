pub use Rattle.drd_svcb.specs.Fields
pub use Rattle.drd_svcb.specs.Readable
pub use Rattle.drd_svcb.specs.declared
