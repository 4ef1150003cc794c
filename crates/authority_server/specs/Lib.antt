pub mod Faults
pub mod Frames
pub mod Runs
pub mod Servers
pub mod Serving
pub mod zsv_access
pub mod zsv_catalog
