pub use Rattle.zsv_parts.proofs.Flags
pub use Rattle.zsv_parts.proofs.Pieces
pub use Rattle.zsv_parts.proofs.Questions
pub use Rattle.zsv_parts.proofs.QuestionsOver
pub use Rattle.zsv_parts.proofs.TsigLaws
