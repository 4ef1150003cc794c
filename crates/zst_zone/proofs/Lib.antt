pub mod Answered
pub mod ChainLinks
pub mod LowerNames
pub mod Made
pub mod Matches
pub mod ReadBack
pub mod EditedSets
pub mod Stored
pub mod Targets
pub mod SeenKeys
pub mod Told
mod Unguarded
pub use Rattle.zst_circle.proofs.zst_map_lemmas.dnw_name_lemmas
pub use Rattle.zst_circle.proofs.zst_map_lemmas.drd_words_lemmas
pub use Rattle.zst_circle.proofs.zst_map_lemmas.drd_rdata_lemmas
pub use Rattle.zst_circle.proofs.zst_map_lemmas.OwnCodes
