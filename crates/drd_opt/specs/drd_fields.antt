pub use Rattle.drd_fields.specs.Equality
pub use Rattle.drd_fields.specs.FieldLaws
pub use Rattle.drd_fields.specs.Fields
pub use Rattle.drd_fields.specs.Reading
pub use Rattle.drd_fields.specs.Writing
pub use Rattle.drd_fields.specs.Order
pub use Rattle.drd_fields.specs.Readable
pub use Rattle.drd_fields.specs.Seen
