pub use Rattle.drd_denial.specs.Between
pub use Rattle.drd_denial.specs.Nsec
pub use Rattle.drd_denial.specs.Nsec3
pub use Rattle.drd_denial.specs.Rrsig
pub use Rattle.drd_denial.specs.declared
pub use Rattle.drd_denial.specs.dnw_wire
