pub mod ControlFlow
pub mod LookupError
pub mod ResponseCode
