pub mod Digits
pub mod Hashing
pub mod zst_key_lemmas
