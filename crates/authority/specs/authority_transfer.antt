pub use Rattle.authority_transfer.specs.Alike
pub use Rattle.authority_transfer.specs.Transfers
pub use Rattle.authority_transfer.specs.TwoRoads
pub use Rattle.authority_transfer.specs.authority_load
pub use Rattle.authority_transfer.specs.declared
