pub mod Denied
pub mod Enclosers
pub mod zst_denial_lemmas
pub mod zst_map_lemmas
