mod Answered
pub mod Chained
pub mod RepliesOnce
mod ServedBack
mod ServedRuns
mod StreamFaults
mod StreamRuns
mod Unguarded
mod WorkedRows
mod Zones
pub mod zsv_catalog_lemmas
