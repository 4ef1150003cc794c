pub use Rattle.zst_handler.specs.zst_record.Drafts
pub use Rattle.zst_handler.specs.zst_record.OneOrMany
pub use Rattle.zst_handler.specs.zst_record.RecordLaws
pub use Rattle.zst_handler.specs.zst_record.RecordSets
pub use Rattle.zst_handler.specs.zst_record.Records
pub use Rattle.zst_handler.specs.zst_record.declared
