pub use Rattle.zst_key.proofs.Climbing
pub use Rattle.zst_key.proofs.KeyFronts
pub use Rattle.zst_key.proofs.KeyLemmas
pub use Rattle.zst_key.proofs.KeyOrder
pub use Rattle.zst_key.proofs.NamesAbove
pub use Rattle.zst_key.proofs.ParentEnds
pub use Rattle.zst_key.proofs.SharedEnds
pub use Rattle.zst_key.proofs.SortedNames
