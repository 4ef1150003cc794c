pub mod Flags
mod NamesInFull
pub mod Pieces
pub mod Questions
pub mod QuestionsOver
pub mod SignatureWriting
pub mod TsigLaws
pub mod TsigWriting
pub mod WholeNames
mod WholeQuestions
