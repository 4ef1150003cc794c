pub mod TransferCodes
pub mod TransferRows
pub mod UpdateRows
pub mod WorkedRows
pub use Rattle.zst_denial.proofs.LookupOnce
pub mod zst_denial_lemmas
