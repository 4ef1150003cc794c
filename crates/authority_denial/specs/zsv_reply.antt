pub use Rattle.zsv_reply.specs.Replies
pub use Rattle.zsv_reply.specs.Writing
pub use Rattle.zsv_reply.specs.drd_rdata
pub use Rattle.zsv_reply.specs.zst_record
pub use Rattle.zsv_reply.specs.zsv_message
