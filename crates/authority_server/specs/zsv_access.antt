pub use Rattle.zsv_access.specs.Access
pub use Rattle.zsv_access.specs.declared
