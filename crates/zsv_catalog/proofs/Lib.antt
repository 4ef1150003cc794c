pub mod AnsweredOnce
pub mod Asked
mod BlockedBack
pub mod Certified
pub use Rattle.zsv_update.proofs.zsv_chains_lemmas.Chained
pub use Rattle.zsv_update.proofs.ReadAdditions
mod Copied
mod DenialsOnce
pub mod Denied
pub mod GivenBack
pub mod Origins
pub mod PartsBack
pub mod PartsOnce
pub mod Replied
mod RequestsBack
mod ResolvedBack
pub mod SentByZone
mod ShownBack
pub mod Transferred
mod Typed
pub mod Updated
mod Walk
pub mod zsv_answer_lemmas
