pub mod Alike
pub mod Sectioning
pub mod Typed
pub mod zst_record_lemmas
pub mod zsv_parts_lemmas
