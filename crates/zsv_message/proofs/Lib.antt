pub mod Fits
pub mod Gathered
pub mod Held
pub mod Listed
pub mod ReadAgain
pub mod WrittenHeaders
pub mod WrittenParts
pub mod WrittenMessages
pub mod Whole
pub mod zst_edns_lemmas
pub use Rattle.zsv_sections.proofs.zst_record_lemmas
pub use Rattle.zsv_sections.proofs.zsv_parts_lemmas
pub mod BareOptions
mod BareRequests
