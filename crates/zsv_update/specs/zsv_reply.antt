pub use Rattle.zsv_reply.specs.Replies
pub use Rattle.zsv_reply.specs.Writing
pub use Rattle.zsv_reply.specs.zsv_message
