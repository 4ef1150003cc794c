pub use Rattle.zsv_message.specs.Messages
pub use Rattle.zsv_message.specs.zsv_sections.Sections
pub use Rattle.zsv_message.specs.zst_edns
pub use Rattle.zsv_message.specs.zst_record
pub use Rattle.zsv_message.specs.zsv_parts
