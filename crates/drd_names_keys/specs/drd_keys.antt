pub use Rattle.drd_keys.specs.Cert
pub use Rattle.drd_keys.specs.Fields
pub use Rattle.drd_keys.specs.Print
pub use Rattle.drd_keys.specs.Sshfp
pub use Rattle.drd_keys.specs.Texts
pub use Rattle.drd_keys.specs.Tlsa
pub use Rattle.drd_keys.specs.declared
