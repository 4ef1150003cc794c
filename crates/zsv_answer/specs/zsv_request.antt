pub use Rattle.zsv_reply.specs.zsv_request.Requests
pub use Rattle.zsv_reply.specs.zsv_request.declared
