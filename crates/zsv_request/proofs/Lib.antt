pub mod WantOfMemory
pub mod zsv_message_lemmas
