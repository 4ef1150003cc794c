pub mod Alike
pub mod Gathered
pub mod GuardedDenials
pub mod Guarding
pub mod Kept
pub mod Raised
pub mod Unasked
pub mod Unchanged
