pub use Rattle.zsv_request.specs.zsv_message.Messages
pub use Rattle.zsv_request.specs.zsv_message.Sections
pub use Rattle.zsv_request.specs.zsv_message.zst_edns
pub use Rattle.zsv_request.specs.zsv_message.zsv_parts
