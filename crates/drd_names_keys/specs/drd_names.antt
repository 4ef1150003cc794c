pub use Rattle.drd_names.specs.Fields
pub use Rattle.drd_names.specs.Texts
pub use Rattle.drd_names.specs.declared
