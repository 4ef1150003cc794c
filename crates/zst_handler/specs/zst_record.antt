pub use Rattle.zst_record.specs.Drafts
pub use Rattle.zst_record.specs.Lending
pub use Rattle.zst_record.specs.OneOrMany
pub use Rattle.zst_record.specs.Records
pub use Rattle.zst_record.specs.RecordLaws
pub use Rattle.zst_record.specs.RecordSets
pub use Rattle.zst_record.specs.declared
