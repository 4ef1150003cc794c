pub mod LookupOnce
pub mod ShownRecords
pub mod WorkedRows
pub mod zst_record_lemmas
