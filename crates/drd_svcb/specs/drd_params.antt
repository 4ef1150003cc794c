pub use Rattle.drd_params.specs.AddressFields
pub use Rattle.drd_params.specs.AddressPrint
pub use Rattle.drd_params.specs.AddressWords
pub use Rattle.drd_params.specs.Params
pub use Rattle.drd_params.specs.declared
