pub mod Sections
pub mod zst_record
pub mod zsv_parts
