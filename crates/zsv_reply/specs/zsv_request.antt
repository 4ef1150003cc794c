pub use Rattle.zsv_request.specs.Requests
pub use Rattle.zsv_request.specs.declared
