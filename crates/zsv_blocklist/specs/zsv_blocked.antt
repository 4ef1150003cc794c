pub use Rattle.zsv_blocked.specs.BlockedNames
pub use Rattle.zsv_blocked.specs.ListText
pub use Rattle.zsv_blocked.specs.Reading
pub use Rattle.zsv_blocked.specs.declared
